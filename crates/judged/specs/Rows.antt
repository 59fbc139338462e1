-- wasm.rs with lent tables: the answers in structs of numbers, all zero but number, place and the offset beside it on a refusal. Assumes
-- nothing.
use Rattle.std.specs.Prelude.{ℕ, false, ◌≡◌, List, map, length, Option, Some, None}
use Rattle.std.specs.Option.{is_some}
use Rattle.refusal.specs.declared.Part.{Part}
use Rattle.refusal.specs.Said.{Said, accepted, refused, number_at, beside_at, follow}
use Rattle.table.specs.Table.{laid}
use Rattle.table.specs.Listing.{rows_in}
use Rattle.wasm.specs.declared.Module.{Module}
use Rattle.wasm.specs.Module.{Sizes, Lent, Parsed, Holds, tables_of, module_of}
use Rattle.judged.specs.declared.rows.ModuleTold.{ModuleTold}
use Rattle.judged.specs.declared.rows.CountTold.{CountTold}

-- where a name stands; 0, 0 where there is none
abbrev pub part_told : Option Part → Part
part_told (Some p) = p
part_told None = record { from = 0; len = 0 }

abbrev pub module_answer : Said Module → ModuleTold
module_answer (accepted m) =
    record {
      number = 0;
      place = 0;
      offset = 0;
      version = m.version;
      length = m.length;
      named = is_some m.name;
      start = (part_told m.name).from;
      size = (part_told m.name).len;
      sections = m.sections;
      imports = m.imports;
      exports = m.exports;
      symbols = m.symbols;
    }
module_answer (refused n p) =
    record {
      number = n;
      place = number_at p;
      offset = beside_at p;
      version = 0;
      length = 0;
      named = false;
      start = 0;
      size = 0;
      sections = 0;
      imports = 0;
      exports = 0;
      symbols = 0;
    }

abbrev pub count_told : Said ℕ → CountTold
count_told (accepted n) = record { number = 0; place = 0; count = n }
count_told (refused n p) = record { number = n; place = number_at p; count = 0 }

-- of a file of n bytes: the answer, and what every table holds at the end
pub record ModuleTells (n : ℕ) (z : Sizes) (x : Said Parsed) (l : Lent) (r : ModuleTold) : Type 0 where
  pub answer-is : r ≡ module_answer (follow x (λ m. accepted (module_of n m)))
  pub tables-are : Holds l z (tables_of x)

-- the length of a list, and what its table holds at the end
pub record ListTells (x : Said (List ℕ)) (before after : List ℕ) (r : CountTold) : Type 0 where
  pub answer-is : r ≡ count_told (follow x (λ l. accepted (length l)))
  pub table_is : after ≡ laid (length before) (rows_in x)

-- the length of the list of requirements, and what both columns hold at the end: domains by `of`, and rows
pub record RequireTells (of : ℕ → ℕ) (x : Said (List ℕ)) (domains domains1 rows rows1 : List ℕ) (r : CountTold) : Type 0 where
  pub answer-is : r ≡ count_told (follow x (λ l. accepted (length l)))
  pub domains-are : domains1 ≡ laid (length domains) (map of (rows_in x))
  pub rows_are : rows1 ≡ laid (length rows) (rows_in x)
