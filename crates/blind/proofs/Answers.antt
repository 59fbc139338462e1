-- Two tables that pass 15 and have the same names and kinds: what the calls on one module answer. Assumes nothing.
use mathlib.Core.Path.{◌≡◌, refl, sym, ◌∙◌, ap}
use mathlib.Core.Bool.{Bool, true, false}
use mathlib.Core.List.{List, [], map}
use Prim.Native.Nat.{ℕ, zero, suc, ◌+◌, ◌<◌}
use native.Mathlib.Omega.{arith}
use lib.Dec.{ltb, leb}
use lib.ListN.{length}
use Rattle.refusal.specs.Pick.{pick}
use Rattle.refusal.specs.Sizes.{file_limit}
use Rattle.refusal.specs.Said.{Said, accepted, refused, follow, spot}
use Rattle.table.specs.Table.{laid}
use Rattle.table.specs.Testing.{count_from}
use Rattle.table.specs.Listing.{fitted}
use Rattle.import_rows.specs.Queries.{kind_is, imports_tested, imported_of, asked, namespaces_of}
use Rattle.policy.specs.declared.Policy.{Policy}
use Rattle.verdicts.specs.Evaluate.{evaluated}
use Rattle.requirements.specs.Requirements.{function_rows, row_domain, module_rows}
use Rattle.blind.specs.Claims.{AlikeRows, SameCounts, Unseen, judged_on, SameAnswers}
use Rattle.blind.proofs.Tables.{same_rows}

count-agree : (p q : ℕ → Bool) (i k : ℕ) → ((j : ℕ) → j < i + k → p j ≡ q j) → count_from p i k ≡ count_from q i k
unfolding count_from
count-agree p q i zero h = refl
count-agree p q i (suc k) h = rw (h i (omega arith), count-agree p q (i + 1) k (λ j l. h j (omega arith)))

pub same-counts : SameCounts
unfolding imported_of follow
same-counts t u n kind alike first second =
    rw (first, second)
    (ap accepted (count-agree (kind_is t kind) (kind_is u kind) 0 n (λ i h. (same_rows [] t u n alike).kinds kind i (omega arith))))

-- ---- what is required is judged where it fits
module _ (file imports : List ℕ) (n : ℕ) (good : imports_tested (length file) imports n ≡ accepted tt) (room cells : ℕ) (p : Policy) where
  abbrev rows : List ℕ
  rows = function_rows imports n

  judged-is : judged_on file imports n room cells p
      ≡ pick (ltb file_limit (length file)) (refused 14 (spot 0))
      (pick (leb (length rows) room) (evaluated (laid cells (map (row_domain file imports) rows)) (length rows) p) (refused 13 (spot 7)))
  unfolding module_rows asked fitted follow
  judged-is = rw good (by (ltb file_limit (length file)) (leb (length rows) room))
    where
      by : (a b : Bool)
          → follow (pick a (refused 14 (spot 0)) (pick b (accepted rows) (refused 13 (spot 7))))
          (λ l. evaluated (laid cells (map (row_domain file imports) l)) (length l) p)
          ≡ pick a (refused 14 (spot 0))
          (pick b (evaluated (laid cells (map (row_domain file imports) rows)) (length rows) p) (refused 13 (spot 7)))
      by true b = refl
      by false true = refl
      by false false = refl

module _ (file t u : List ℕ) (n : ℕ) (unseen : Unseen file t u n) where
  same : AlikeRows file t u n
  same = same_rows file t u n unseen.names

  -- 14, then 15, then what the rows answer
  asked-same : {X : Type 0} {x y : Said X} → x ≡ y → asked file t n x ≡ asked file u n y
  unfolding asked follow
  asked-same e = rw (unseen.first, unseen.second, e)

  required-same : (room : ℕ) → module_rows file t n room ≡ module_rows file u n room
  unfolding module_rows
  required-same room = asked-same (ap (fitted 7 room) same.functions)

  verdicts-same : (room cells : ℕ) (p : Policy) → judged_on file t n room cells p ≡ judged_on file u n room cells p
  verdicts-same room cells p =
      let l = same.functions in
      let ds = same.asks in
      judged-is file t n unseen.first room cells p
      ∙ (λ z. pick (ltb file_limit (length file)) (refused 14 (spot 0))
      (pick (leb (length (l z)) room) (evaluated (laid cells (ds z)) (length (l z)) p) (refused 13 (spot 7))))
      ∙ sym (judged-is file u n unseen.second room cells p)

  namespaces-same : (room : ℕ) → namespaces_of file t n room ≡ namespaces_of file u n room
  unfolding namespaces_of
  namespaces-same room = asked-same (ap (fitted 15 room) same.namespaces)

pub same-answers : SameAnswers
same-answers file t u n unseen =
    record {
      namespaces = namespaces-same file t u n unseen;
      required = required-same file t u n unseen;
      verdicts = verdicts-same file t u n unseen;
    }
