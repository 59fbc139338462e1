-- When a build can replace another: of files and calls alone (`OfFiles`); and of builds that `read_module` accepted and policies that
-- `read_policy` accepted. Theorems and Files prove the records. Assumes nothing.
use Rattle.std.specs.Prelude.{◌≡◌, ◌↔◌, true, List, ◌∷◌, ℕ, ◌+◌, ◌≤◌, ◌<◌, length, Result}
use Rattle.refusal.specs.Said.{Said, accepted, refused, follow, spot, Place}
use Rattle.refusal.specs.declared.Refusal.{Refusal}
use Rattle.table.specs.Shape.{limit, capacity_in, cell_in}
use Rattle.sorting.specs.Sort.{◌∈◌, Ascending}
use Rattle.policy.specs.declared.Policy.{Policy}
use Rattle.verdicts.specs.declared.Evaluation.{Evaluation}
use Rattle.verdicts.specs.Evaluate.{said_evaluation, compliant}
use Rattle.differences.specs.declared.Change.TheVariants.{Removed, Added}
use Rattle.differences.specs.View.{ExportKey, Need}
use Rattle.differences.specs.Differences.{Entry, export_order, need_order, export_diff, need_diff}
use Rattle.differences.specs.Compared.{Given, Lists, lists, compared, Verdict, verdict_on, listed, Compares}
use Rattle.wasm.specs.Module.{Sizes, Parsed, module_at}
use Rattle.conform.specs.Claims.{Bytes}
use Rattle.conform.specs.Sound.{limits}
use Rattle.reasons.specs.Reasons.{reasons_tested}
use Rattle.listed.specs.Comparisons.{tabled, explained, build, builds}
use Rattle.covering.specs.Replacing.{Reports, IsChange, IsLowest}
use Rattle.covering.specs.Covering.{ViewCovers, exchanged}
use Rattle.standin.specs.Builds.{Build, handed, view, exports, pairs, domains, builds_compared, StandsIn, Chain, last}
use Rattle.standin.specs.Builds.{with_reasons, builds_told, Read, Meets, Clear, Replaces, FileChain, last_file, Stood}

-- The registry's first question: bytes in, verdict out.
pub record OfFiles : Type 0 where
  -- Every file that is accepted, with tables of any sizes, is a build.
  pub every : (f : List ℕ) (z : Sizes) (m : Parsed) → Bytes f → module_at f z ≡ accepted m → (b : Build) × (b.file ≡ f)
  -- The one call says of two files that the second can replace the first exactly where both are builds and the second stands in for it.
  pub stood : (f g : List ℕ) → Bytes f → Bytes g → Replaces f g ↔ Stood f g
  -- Along any chain of files, of any length, the last can replace the first.
  pub series : (f g : List ℕ) (gs : List (List ℕ)) → Bytes f → FileChain f (g ∷ gs) → Replaces f (last_file g gs)
  -- Every build of the last meets every policy that some build of the first meets.
  pub policies : (f : List ℕ) (gs : List (List ℕ)) → Bytes f → FileChain f gs → (b c : Build) → b.file ≡ f → c.file ≡ last_file f gs
      → (p : Policy) → Read p → Meets p b → Meets p c
  -- And where the whole check of the first passes under a policy's text, so does that of the last.
  pub checks : (f : List ℕ) (gs : List (List ℕ)) → Bytes f → FileChain f gs → (text : List ℕ) → Clear f text → Clear (last_file f gs) text

-- c has every export of b, by name and kind, and its function imports need no pair of domain and source that those of b do not
abbrev pub Covers : Build → Build → Type 0
Covers b c = ViewCovers (view b) (view c)

-- What a comparison answers with less room: of two builds, with room for so many rows in tables 8 and 9.
pub record WithRoom (b c : Build) (room8 room9 : ℕ) : Type 0 where
  -- the same verdict exactly where both lists fit
  pub same : (builds_compared b c room8 room9 ≡ builds_compared b c (limit 8) (limit 9))
      ↔ ((length (export_diff (view b) (view c)) ≤ room8) × (length (need_diff (view b) (view c)) ≤ room9))
  -- 13 at 8 exactly where the first does not
  pub full8 : (builds_compared b c room8 room9 ≡ refused 13 (spot 8)) ↔ (room8 < length (export_diff (view b) (view c)))
  -- 13 at 9 exactly where the first does, and the second does not
  pub full9 : (builds_compared b c room8 room9 ≡ refused 13 (spot 9))
      ↔ ((length (export_diff (view b) (view c)) ≤ room8) × (room9 < length (need_diff (view b) (view c))))

-- two tables with the number t: in the first cell of each of so many rows one has 0 and the other 1, and every other cell is the same
pub record CellsExchanged (t rows : ℕ) (left right : List ℕ) : Type 0 where
  pub first : (i : ℕ) → i < rows → cell_in t left i 0 + cell_in t right i 0 ≡ 1
  pub others : (i j : ℕ) → 0 < j → cell_in t left i j ≡ cell_in t right i j
  pub below : (i j : ℕ) → rows ≤ i → cell_in t left i j ≡ cell_in t right i j

-- what `compare_modules` is to answer of two builds with these tables 8 and 9 lent
abbrev pub lent_compared : Build → Build → List ℕ → List ℕ → Said Lists
lent_compared b c lent8 lent9 = compared (handed b) (handed c) (capacity_in 8 (length lent8)) (capacity_in 9 (length lent9))

-- What a replacement is, and what it keeps.
pub record Replacement : Type 0 where
  -- An accepted comparison says compatible exactly where the candidate has every export of the baseline and needs no pair that it does not.
  pub means : (b c : Build) (room8 room9 : ℕ) (v : Verdict) → builds_compared b c room8 room9 ≡ accepted v
      → (v.compatible ≡ true) ↔ Covers b c
  -- With tables at the limits the comparison of two accepted modules is accepted.
  pub answered : (b c : Build) → builds_compared b c (limit 8) (limit 9) ≡ accepted (verdict_on (lists (view b) (view c)))
  -- With less room it gives the same verdict, or 13 at 8 or at 9 exactly where a list has more rows than its table takes; nothing else.
  pub otherwise : (b c : Build) (room8 room9 : ℕ) → WithRoom b c room8 room9
  -- Along any chain of replacements, of any length, the last build stands in for the first.
  pub series : (b : Build) (cs : List Build) → Chain b cs → StandsIn b (last b cs)
  -- And meets every policy that the first meets.
  pub policies : (b : Build) (cs : List Build) → Chain b cs → (p : Policy) → Read p → Meets p b → Meets p (last b cs)
  -- In one call: where the whole check of the first build's file passes under a policy's text, so does that of the last build's.
  pub checks : (b : Build) (cs : List Build) → Chain b cs → (text : List ℕ) → Clear b.file text → Clear (last b cs).file text
  -- All that policies see of a build is its domains: one build meets every policy that another meets exactly where it needs no domain that
  -- the other does not.
  pub exactly : (a b : Build) → ((p : Policy) → Read p → Meets p b → Meets p a) ↔ ((d : ℕ) → d ∈ domains a → d ∈ domains b)
  -- And there, and nowhere else, the whole check passes its file under every text under which it passes the other's.
  pub needed : (a b : Build) → ((text : List ℕ) → Clear b.file text → Clear a.file text) ↔ ((d : ℕ) → d ∈ domains a → d ∈ domains b)
  -- Exchanging the two modules turns added into removed and removed into added in both lists, and changes nothing else.
  pub exchange : (b c : Build) (room8 room9 : ℕ)
      → compared (handed c) (handed b) room8 room9 ≡ follow (compared (handed b) (handed c) room8 room9) (λ l. accepted (exchanged l))
  -- So in tables 8 and 9, as the promise of `compare_modules` says that it leaves them: 1 for 0 and 0 for 1 in the first cell of each row.
  pub exchange_cells : (b c : Build) (lent8 lent9 left8 left9 right8 right9 : List ℕ) (v w : Said Verdict)
      → Compares (lent_compared b c lent8 lent9) lent8 left8 lent9 left9 v
      → Compares (lent_compared c b lent8 lent9) lent8 right8 lent9 right9 w
      → CellsExchanged 8 (length (listed (lent_compared b c lent8 lent9)).exports) left8 right8
      × CellsExchanged 9 (length (listed (lent_compared b c lent8 lent9)).needs) left9 right9

-- What is in the two lists of an accepted comparison, and in which order.
pub record Listing : Type 0 where
  -- An export is reported removed exactly where it is in the baseline and in no row of the candidate.
  pub export_removed : (b c : Build) (e : ExportKey)
      → Reports Removed e (export_diff (view b) (view c)) ↔ ((e ∈ exports b) × (e ∈ exports c → ⊥))
  -- And added where it is in the candidate and in no row of the baseline.
  pub export_added : (b c : Build) (e : ExportKey)
      → Reports Added e (export_diff (view b) (view c)) ↔ ((e ∈ exports c) × (e ∈ exports b → ⊥))
  -- The same of pairs.
  pub need_removed : (b c : Build) (n : Need) → Reports Removed n (need_diff (view b) (view c)) ↔ ((n ∈ pairs b) × (n ∈ pairs c → ⊥))
  pub need_added : (b c : Build) (n : Need) → Reports Added n (need_diff (view b) (view c)) ↔ ((n ∈ pairs c) × (n ∈ pairs b → ⊥))
  -- Each row of exports that the other lacks is listed, repeats too, by name, kind and row.
  pub exports_each : (b c : Build) (e : Entry ExportKey)
      → e ∈ export_diff (view b) (view c) ↔ IsChange e (view b).exports (view c).exports
  pub exports_ascend : (b c : Build) → Ascending export_order (export_diff (view b) (view c))
  -- Each pair that the other lacks is listed once, by its lowest row, by domain and source.
  pub needs_each : (b c : Build) (e : Entry Need)
      → e ∈ need_diff (view b) (view c) ↔ (IsChange e (view b).needs (view c).needs × IsLowest e (view b).needs (view c).needs)
  pub needs_ascend : (b c : Build) → Ascending need_order (need_diff (view b) (view c))

-- The reasons are refused for nothing of their own.
pub record Explanation : Type 0 where
  -- Of any two modules that are handed in: tables with the lists of an accepted comparison pass, so 14 and 15 are not given again.
  pub passes : (b c : Given) (l : Lists) → compared b c (limit 8) (limit 9) ≡ accepted l → reasons_tested b c (tabled l) ≡ accepted tt
  -- So lists with their reasons are refused for what the comparison refuses, and for nothing else.
  pub refuses : (b c : Given) → explained b c ≡ follow (compared b c (limit 8) (limit 9)) (λ l. accepted (with_reasons b c l))
  -- Of two files, after 14 of either: the baseline's refusals, the candidate's, and no other.
  pub files : (b c : List ℕ) → Bytes b → Bytes c
      → builds b c ≡ follow (module_at b limits) (λ m. follow (module_at c limits) (λ n. accepted (builds_told (build b m) (build c n))))

-- A refusal is never a pass.
pub record FailSafe : Type 0 where
  -- A refused evaluation is not compliant.
  pub evaluation : (n : ℕ) (place : Place) (r : Result Evaluation Refusal) → said_evaluation r ≡ refused n place → compliant r ≡ true → ⊥
  -- Where the comparison of any two modules, with any room, is refused, so is every answer that satisfies the promise of
  -- `compare_modules`: it has no verdict.
  pub comparisons : (b c : Given) (room8 room9 n : ℕ) (place : Place) → compared b c room8 room9 ≡ refused n place
      → (lent8 left8 lent9 left9 : List ℕ) (a : Said Verdict) → Compares (compared b c room8 room9) lent8 left8 lent9 left9 a
      → a ≡ refused n place
