-- The keys of rows, by what the calls on their cells answer. Assumes nothing.
use mathlib.Core.Path.{◌≡◌, sym, ◌∙◌}
use mathlib.Core.Bool.{true}
use mathlib.Core.List.{List}
use Prim.Native.Nat.{ℕ, ◌-◌, ◌≤◌, ◌<◌}
use native.Mathlib.Omega.{arith}
use lib.Dec.{eqb}
use Rattle.table.specs.Table.{name_in}
use Rattle.table.specs.Shape.{width, cell_in}
use Rattle.import_rows.specs.Queries.{kind_is}
use Rattle.domains.specs.Classify.{import_domain}
use Rattle.differences.specs.Compared.{Given}
use Rattle.differences.specs.Rank.{rank_of}
use Rattle.differences.proofs.Numbered.{sided-first, sided-second}
use Rattle.compat.specs.declared.keys.Key.{Key}
use Rattle.compat.specs.declared.keys.Rows.{Rows}
use Rattle.compat.specs.Keying.{key_of, export_key, need_key, row_key, row_count, keys_of}

pub export-key-is : (side : ℕ) (table : List ℕ) (i : ℕ) {from len kind minor : ℕ} → from ≡ cell_in 3 table i 0 → len ≡ cell_in 3 table i 1
    → kind ≡ cell_in 3 table i 2 → minor ≡ rank_of kind → key_of side from len 0 minor true ≡ export_key side table i
unfolding export_key
export-key-is side table i f l k m = rw (m, k, f, l)

pub need-key-is : (side : ℕ) (file table : List ℕ) (i : ℕ) {from len kind major : ℕ} {part field : List ℕ}
    → part ≡ name_in file table (width 2) i 0 → field ≡ name_in file table (width 2) i 2 → from ≡ cell_in 2 table i 0
    → len ≡ cell_in 2 table i 1 → major ≡ import_domain part field → kind ≡ cell_in 2 table i 4
    → key_of side from len major 0 (eqb kind 0) ≡ need_key side file table i
unfolding need_key kind_is
need-key-is side file table i p q f l d k = rw (d, k, p, q, f, l)

-- a row of both modules
module _ (rows : Rows) (b c : Given) (i : ℕ) {nb : ℕ} {k : Key} (e : nb ≡ row_count rows b) where
  pub key-first : i < nb → k ≡ row_key rows 0 b i → k ≡ keys_of rows b c i
  key-first h q = q ∙ sym (sided-first (row_count rows b) (row_key rows 0 b) (row_key rows 1 c) i (omega (arith, e)))

  pub key-second : nb ≤ i → k ≡ row_key rows 1 c (i - nb) → k ≡ keys_of rows b c i
  key-second h q =
      rw e at q ∙ sym (sided-second (row_count rows b) (row_key rows 0 b) (row_key rows 1 c) i (omega (arith, e)))
