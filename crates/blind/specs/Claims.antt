-- docs/RULES.md, "Tables": classification and comparison do not look at what an import asks for. Two tables 2 whose rows below the count
-- agree in cells 0 to 4 answer alike. Tables, Answers and Modules prove the records. Assumes nothing.
use Rattle.std.specs.Prelude.{◌≡◌, List, map, ℕ, ◌<◌, ltb, length}
use Rattle.refusal.specs.Said.{Said, accepted, follow}
use Rattle.table.specs.Table.{laid}
use Rattle.table.specs.Shape.{width, capacity_in}
use Rattle.sorting.specs.Keys.{by_name, sorted_rows}
use Rattle.import_rows.specs.Queries.{import_cell, imports_tested, kinds_tested, kind_is, imported_of, namespaces_of}
use Rattle.policy.specs.declared.Policy.{Policy}
use Rattle.verdicts.specs.Evaluate.{Outcome, evaluated}
use Rattle.requirements.specs.Requirements.{function_rows, row_domain, module_rows}
use Rattle.differences.specs.declared.Change.{Change}
use Rattle.differences.specs.View.{need_at, view_of}
use Rattle.differences.specs.Compared.{Given, given, compared}
use Rattle.differences.specs.Part.{diff_bytes, diff_block, diff_offset}
use Rattle.reasons.specs.Reasons.{Diffs, reasoned, reasoned_from}

-- the rows below n have the same names and kinds
abbrev pub AlikeNames : List ℕ → List ℕ → ℕ → Type 0
AlikeNames t u n = (i column : ℕ) → i < n → column < 5 → import_cell t i column ≡ import_cell u i column

-- So their kinds, domains and pairs are the same, row by row; what the comparison sees of the module; the domains that it requires; and its
-- namespaces.
pub record AlikeRows (file t u : List ℕ) (n : ℕ) : Type 0 where
  pub kinds : (kind i : ℕ) → i < n → kind_is t kind i ≡ kind_is u kind i
  pub domains : (i : ℕ) → i < n → row_domain file t i ≡ row_domain file u i
  pub pairs : (i : ℕ) → i < n → need_at file t i ≡ need_at file u i
  pub views : (exports : List ℕ) (m : ℕ) → view_of file t n exports m ≡ view_of file u n exports m
  pub functions : function_rows t n ≡ function_rows u n
  pub asks : map (row_domain file t) (function_rows t n) ≡ map (row_domain file u) (function_rows u n)
  pub namespaces : sorted_rows file file t (by_name (width 2) 0 1 (width 2) 0) n ≡ sorted_rows file file u (by_name (width 2) 0 1 (width 2) 0) n

abbrev pub SameRows : Type 0
SameRows = (file t u : List ℕ) (n : ℕ) → AlikeNames t u n → AlikeRows file t u n

-- Where both pass 15, so are the answers: of `imported_functions` and `imported_memories`, without a file;
abbrev pub SameCounts : Type 0
SameCounts = (t u : List ℕ) (n kind : ℕ) → AlikeNames t u n → kinds_tested t n ≡ accepted tt → kinds_tested u n ≡ accepted tt
    → imported_of t n kind ≡ imported_of u n kind

-- with a file,
pub record Unseen (file t u : List ℕ) (n : ℕ) : Type 0 where
  pub names : AlikeNames t u n
  pub first : imports_tested (length file) t n ≡ accepted tt
  pub second : imports_tested (length file) u n ≡ accepted tt

-- of `import_namespaces` and `requirements_from_module`, with any room, and the verdicts of a policy on what is required;
abbrev pub judged_on : List ℕ → List ℕ → ℕ → ℕ → ℕ → Policy → Said Outcome
judged_on file t n room cells p =
    follow (module_rows file t n room) (λ rows. evaluated (laid cells (map (row_domain file t) rows)) (length rows) p)

pub record Answers (file t u : List ℕ) (n : ℕ) : Type 0 where
  pub namespaces : (room : ℕ) → namespaces_of file t n room ≡ namespaces_of file u n room
  pub required : (room : ℕ) → module_rows file t n room ≡ module_rows file u n room
  pub verdicts : (room cells : ℕ) (p : Policy) → judged_on file t n room cells p ≡ judged_on file u n room cells p

abbrev pub SameAnswers : Type 0
SameAnswers = (file t u : List ℕ) (n : ℕ) → Unseen file t u n → Answers file t u n

-- and of two modules, with other tables 2 that pass: of `compare_modules`, `breaking_reasons` and `reasons_from`.
abbrev pub over : Given → List ℕ → Given
over g t = given g.file t g.import_count g.exports g.export_count

pub record Pairs (b c : Given) (t u : List ℕ) : Type 0 where
  pub compares : (room8 room9 : ℕ) → compared b c room8 room9 ≡ compared (over b t) (over c u) room8 room9
  pub reasons : (d : Diffs) (room : ℕ) → reasoned b c d room ≡ reasoned (over b t) (over c u) d room
  pub reasons-from : (at : ℕ) (d : Diffs) (room : ℕ) → reasoned_from at b c d room ≡ reasoned_from at (over b t) (over c u) d room

abbrev pub SamePairs : Type 0
SamePairs = (b c : Given) (t u : List ℕ) → Unseen b.file b.imports t b.import_count
    → Unseen c.file c.imports u c.import_count → Pairs b c t u

-- `capability_diff_source` refuses nothing: its answer is the same where each row below the count lies in both tables or in neither.
abbrev pub SameRoom : List ℕ → List ℕ → ℕ → Type 0
SameRoom t u n = (i : ℕ) → i < n → ltb i (capacity_in 2 (length t)) ≡ ltb i (capacity_in 2 (length u))

pub record Sources (b bt bu : List ℕ) (nb : ℕ) (c ct cu : List ℕ) (nc : ℕ) : Type 0 where
  pub bytes : (h : Change) (i : ℕ) → diff_bytes b bt nb c ct nc 2 h i ≡ diff_bytes b bu nb c cu nc 2 h i
  pub blocks : (h : Change) (i x y : ℕ) → diff_block b bt nb c ct nc 2 h i x y ≡ diff_block b bu nb c cu nc 2 h i x y
  pub offsets : (h : Change) (i x y : ℕ) → diff_offset b bt nb c ct nc 2 h i x y ≡ diff_offset b bu nb c cu nc 2 h i x y

abbrev pub SameSources : Type 0
SameSources = (b bt bu : List ℕ) (nb : ℕ) (c ct cu : List ℕ) (nc : ℕ) → AlikeNames bt bu nb → SameRoom bt bu nb → AlikeNames ct cu nc
    → SameRoom ct cu nc → Sources b bt bu nb c ct cu nc
