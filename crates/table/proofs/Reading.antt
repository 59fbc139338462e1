-- Laws of a run of entries, stated once over row, width, definition of an entry and table number. Assumes nothing.
use mathlib.Core.Path.{◌≡◌, refl, sym, ap, ◌∙◌}
use mathlib.Core.Bool.{Bool, true, false}
use mathlib.Core.List.{List, [], ◌∷◌, ◌++◌}
use Prim.Native.Nat.{ℕ, suc, ◌+◌, ◌-◌, ◌*◌, ◌≤◌, ◌<◌}
use native.Mathlib.Omega.{arith}
use lib.ListN.{length, length-append}
use lib.Dec.{leb}
use borrow.Author.Tests.{lt-ltb, le-ltb, le-leb, lt-leb, leb-false}
use Rattle.refusal.specs.Pick.{pick}
use Rattle.refusal.proofs.Following.{never}
use Rattle.refusal.specs.Said.{Said, accepted, refused, Got, got, onward, spot, Place}
use Rattle.table.specs.Table.{Lies, laid, cells, put_row}
use Rattle.table.specs.Told.{ReaderTells}
use Rattle.table.specs.Entries.{entries_from, finished, fitting}
use Rattle.table.proofs.Laws.{put-row-laid}
use Rattle.table.proofs.Telling.{tell-stop, tell-got}

module _ {R : Type 0} (read : ℕ → Said (Got R)) (tn room left at : ℕ) (rows : List R) where
  more : 0 < left → left ≡ suc (left - 1)
  more h = omega arith

  pub entries-whole : left ≤ 0 → entries_from read tn room left at rows ≡ accepted (got rows at)
  unfolding entries_from
  entries-whole h = let e : left ≡ 0 = omega arith in rw e

  pub entries-bad : (n : ℕ) (p : Place) → 0 < left → read at ≡ refused n p → entries_from read tn room left at rows ≡ refused n p
  unfolding entries_from onward
  entries-bad n p h e = rw (more h, e)

  pub entries-full : (row : R) (next : ℕ) → 0 < left → read at ≡ accepted (got row next) → room ≤ length rows
      → entries_from read tn room left at rows ≡ refused 13 (spot tn)
  unfolding entries_from onward
  entries-full row next h e f = rw (more h, e, le-ltb _ _ f)

  pub entries-more : (row : R) (next : ℕ) → 0 < left → read at ≡ accepted (got row next) → length rows < room
      → entries_from read tn room left at rows ≡ entries_from read tn room (left - 1) next (rows ++ (row ∷ []))
  unfolding entries_from onward
  entries-more row next h e f =
      ap (λ (n : ℕ). entries_from read tn room n at rows) (more h) ∙ rw (e, lt-ltb _ _ f)

-- the state of a reading: the rows that the table holds, k of them, of which what is left of the reading makes the whole of it
pub record Held {R : Type 0} (f : R → List ℕ) (read : ℕ → Said (Got R)) (tn room : ℕ) (all : Said (Got (List R)))
    (total : ℕ) (table : List ℕ) (at left k : ℕ) : Type 0 where
  pub rows : List R
  pub table_is : table ≡ laid total (cells f rows)
  pub count-is : k ≡ length rows
  pub goes_on : entries_from read tn room left at rows ≡ all

module _ {R : Type 0} (f : R → List ℕ) (w : ℕ) (wide : (r : R) → length (f r) ≡ w) (read : ℕ → Said (Got R)) (tn room : ℕ) where
  module _ {all : Said (Got (List R))} {total : ℕ} {table : List ℕ} {at left k : ℕ}
      (h : Held f read tn room all total table at left k) where
    -- the ways out of the loop: no entry is left, an entry cannot be read, the table is full
    pub held_whole : left ≤ 0 → ReaderTells length (Lies f total table) all (accepted (got k at))
    unfolding Lies
    held_whole l =
        tell-got h.rows at (sym h.goes_on ∙ entries-whole read tn room left at h.rows l) h.count-is h.table_is

    pub held-bad : {P : List R → Type 0} {n : ℕ} {p : Place} → 0 < left → read at ≡ refused n p → ReaderTells length P all (refused n p)
    held-bad {n = n} {p = p} l e = tell-stop (sym h.goes_on ∙ entries-bad read tn room left at h.rows n p l e)

    pub held-full : {P : List R → Type 0} {row : R} {next : ℕ} → 0 < left → read at ≡ accepted (got row next) → room ≤ k
        → ReaderTells length P all (refused 13 (spot tn))
    held-full {row = row} {next = next} l e m =
        tell-stop
        (sym h.goes_on
        ∙ entries-full read tn room left at h.rows row next l e (omega (arith, h.count-is)))

    -- a turn: the entry's row is put, and the reading goes on after it
    pub held_more : {after : List ℕ} {row : R} {next : ℕ} → 0 < left → read at ≡ accepted (got row next) → k < room
        → k * w + w ≤ total → after ≡ put_row table k (f row) → Held f read tn room all total after next (left - 1) (k + 1)
    held_more {row = row} {next = next} l e m fits p =
        record {
          rows = h.rows ++ (row ∷ []);
          table_is =
              p ∙ ap (λ (t : List ℕ). put_row t k (f row)) h.table_is
              ∙ ap (λ (i : ℕ). put_row (laid total (cells f h.rows)) i (f row)) h.count-is
              ∙ put-row-laid f w wide total h.rows row (rw h.count-is at fits);
          count-is = omega (arith, h.count-is, length-append h.rows (row ∷ []));
          goes_on =
              sym (entries-more read tn room left at h.rows row next l e (omega (arith, h.count-is))) ∙ h.goes_on;
        }

-- ---- a finished list: 13 exactly where it has more rows than there is room for
module _ {R : Type 0} (tn room : ℕ) (rows : List R) where
  pub finished-room : length rows ≤ room → finished tn room rows ≡ accepted (length rows)
  unfolding finished
  finished-room h = rw (le-leb (length rows) room h)

  pub finished-full : room < length rows → finished tn room rows ≡ refused 13 (spot tn)
  unfolding finished
  finished-full h = rw (lt-leb (length rows) room h)

  pub full-exactly : finished tn room rows ≡ refused 13 (spot tn) → room < length rows
  unfolding finished
  full-exactly e = by (leb (length rows) room) refl e where
    by : (t : Bool) → leb (length rows) room ≡ t → pick t (accepted (length rows)) (refused 13 (spot tn)) ≡ refused 13 (spot tn)
        → room < length rows
    by true q f = absurd (never (sym f))
    by false q f = leb-false (length rows) room q

  pub fitting-room : length rows ≤ room → fitting room rows ≡ rows
  unfolding fitting
  fitting-room h = rw (le-leb (length rows) room h)

  pub fitting-full : room < length rows → fitting room rows ≡ []
  unfolding fitting
  fitting-full h = rw (lt-leb (length rows) room h)
