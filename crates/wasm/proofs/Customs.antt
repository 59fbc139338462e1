-- Laws of custom sections. Assumes nothing.
use Prim.Native.Nat.{ℕ, ◌+◌, ◌-◌}
use mathlib.Core.Path.{◌≡◌, refl, sym, ◌∙◌, ap}
use mathlib.Core.Bool.{Bool, true, false}
use mathlib.Core.List.{List}
use native.Mathlib.Nat.{add-sub_cancel_left}
use lib.ListN.{length, take, drop}
use Rattle.std.specs.Prelude.{Some}
use Rattle.refusal.specs.Said.{Said, accepted, refused, refused_by, moved_on, Got, got, onward, Place}
use Rattle.refusal.specs.declared.Part.{Part}
use Rattle.refusal.specs.declared.Refusal.{Refusal}
use Rattle.refusal.proofs.Following.{read-on}
use Rattle.text.specs.Find.{same}
use Rattle.table.specs.Table.{laid, cells}
use Rattle.table.specs.Told.{mapped, ReaderTells}
use Rattle.table.specs.Walking.{walk_from}
use Rattle.table.proofs.Telling.{tell-got, tell-next, tell-after, tell-after-stop, tell-moved-stop, tell-moved-on}
use Rattle.leb.specs.Reads.{part_bytes, byte_at, counted_at, name_at}
use Rattle.wasm.specs.declared.entry.Symbol.{Symbol}
use Rattle.wasm.specs.declared.custom.Named.{Named}
use Rattle.wasm.specs.Entry.{moved}
use Rattle.wasm.specs.Rows.{symbol_cells}
use Rattle.wasm.specs.Custom.{Names, named_of, NamesHeld, CustomHeld, label_at, CustomSaid, custom_of, custom_at, name_word}
use Rattle.wasm.specs.Custom.{told_by, subsection_at}
use Rattle.wasm.proofs.Reading.{reads, taken_inside}

-- the module's name leaves the functions' names as they are
label-keeps : (s : List ℕ) (base : ℕ) (t u : Names) (d : ℕ) → label_at s base t ≡ accepted (got u d) → u.symbols ≡ t.symbols
unfolding label_at
label-keeps s base t u d e =
    let f =
    read-on (name_at s 0)
    (λ (p : Part) (k : ℕ).
    accepted (got (record { label = Some (moved base p); symbols = t.symbols }) k)) e in
    is f.what f.next f.then
  where
    is : (p : Part) (k : ℕ)
        → accepted (got (record { label = Some (moved base p); symbols = t.symbols }) k)
        ≡ accepted (got u d) → u.symbols ≡ t.symbols
    is p k q =
        let z : record { label = Some (moved base p); symbols = t.symbols } ≡ u = cc in
        sym (ap (λ (x : Names). x.symbols) z)

pub told-label : (s : List ℕ) (base : ℕ) (t : Names) (table : List ℕ) (n : ℕ) (a : Said (Got Named))
    → a ≡ mapped named_of (label_at s base t) → NamesHeld table n t
    → ReaderTells named_of (NamesHeld table n) (label_at s base t) a
unfolding NamesHeld
told-label s base t table n a e h =
    record {
      answer-is = e;
      holds = λ u d q. h ∙ ap (λ (l : List Symbol). laid n (cells symbol_cells l)) (sym (label-keeps s base t u d q));
    }

pub named-is : (n : Named) (t : Names) (k : ℕ) (rows : List Symbol) → n ≡ named_of t → k ≡ length rows
    → ◌≡◌ {A = Named} (record { label = n.label; count = k }) (named_of (record { label = t.label; symbols = rows }))
unfolding named_of
named-is n t k rows e q = rw (e, q)

pub named_count : (n : Named) (t : Names) → n ≡ named_of t → n.count ≡ length t.symbols
unfolding named_of
named_count n t e = ap (λ (x : Named). x.count) e

-- the part that the code cut out
pub cut : (at size : ℕ) (b : List ℕ) → take (at + size - at) (drop at b) ≡ take size (drop at b)
cut at size b = rw add-sub_cancel_left

pub cut_same : (word s : List ℕ) (p : Part) {t : Bool} → same word (take (p.from + p.len - p.from) (drop p.from s)) ≡ t
    → same word (part_bytes s p) ≡ t
cut_same word s p e = rw (sym (cut p.from p.len s)) e

-- for the header
pub ruleset header_reads = (reads, taken_inside, cut_same)

-- a subsection whose id and size were read; q is its bytes as the code cut them out
module _ (s : List ℕ) (base z at : ℕ) (t : Names) (id a next : ℕ) (p : Part) (one : byte_at s at ≡ accepted (got id a))
    (two : counted_at s a ≡ accepted (got p next)) (q : List ℕ) (is : q ≡ part_bytes s p) (Q : Names → Type 0) {r : Said (Got Named)}
    (told : ReaderTells named_of Q (told_by id q (base + p.from) z t) r) where
  here : ReaderTells named_of Q (told_by id (part_bytes s p) (base + p.from) z t) r
  here = rw is at told

  pub subsection-stop : {P : Names → Type 0} {v : Refusal} (w : Refusal) → r ≡ refused_by w → v ≡ moved_on p.from w
      → ReaderTells named_of P (subsection_at s base z at t) (refused_by v)
  unfolding subsection_at
  subsection-stop w e m = tell-next _ one (tell-next _ two (tell-moved-stop p.from here _ w e m))

  pub subsection-got : {n : Named} {d : ℕ} → r ≡ accepted (got n d)
      → ReaderTells named_of Q (subsection_at s base z at t) (accepted (got n next))
  unfolding subsection_at
  subsection-got e = tell-next _ one (tell-next _ two (tell-moved-on p.from here _ e (λ u x v h. tell-got u next refl v h)))

-- a custom section whose name was read; q is the name's bytes as the code cut them out
module _ (s : List ℕ) (base z : ℕ) (t : Names) (p : Part) (at : ℕ) (first : name_at s 0 ≡ accepted (got p at)) (q : List ℕ)
    (is : q ≡ part_bytes s p) (name : Part) (moves : name ≡ moved base p) where
  module _ (other : same name_word q ≡ false) where
    pub custom-plain : (table : List ℕ) (n : Named) → n ≡ named_of t → NamesHeld table z t
        → ReaderTells custom_of (CustomHeld table z) (custom_at s base z t) (accepted (got (record { name = name; inner = n }) at))
    unfolding custom_at onward custom_of NamesHeld CustomHeld
    custom-plain table n e h =
        let o : same name_word (part_bytes s p) ≡ false = rw (sym is) other in
        rw (first, o) (tell-got _ at refl (rw (moves, e)) h)

  module _ (name-section : same name_word q ≡ true) (table : List ℕ) {a : Said (Got Named)}
      (told : ReaderTells named_of (NamesHeld table z) (walk_from (subsection_at s base z) s at t) a) where
    pub custom-stop : {P : CustomSaid → Type 0} {m : ℕ} {k : Place} → a ≡ refused m k
        → ReaderTells custom_of P (custom_at s base z t) (refused m k)
    unfolding custom_at
    custom-stop e =
        let o : same name_word (part_bytes s p) ≡ true = rw (sym is) name-section in
        tell-next _ first (rw o (tell-after-stop _ told e))

    pub custom-names : {n : Named} {d : ℕ} → a ≡ accepted (got n d)
        → ReaderTells custom_of (CustomHeld table z) (custom_at s base z t) (accepted (got (record { name = name; inner = n }) d))
    unfolding custom_at custom_of NamesHeld CustomHeld
    custom-names {d = d} e =
        let o : same name_word (part_bytes s p) ≡ true = rw (sym is) name-section in
        tell-next _ first (rw o (tell-after _ told e (λ u x v h. tell-got _ d refl (rw (moves, v)) h)))
