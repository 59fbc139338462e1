-- docs/RULES.md, "Programs": the lines of a review. Assumes nothing.
use Rattle.std.specs.Prelude.{Bool, true, false, List, [], ◌∷◌, ◌++◌, ℕ, eqb, ltb, get_or}
use Rattle.refusal.specs.Pick.{pick}
use Rattle.refusal.specs.Said.{Place, number_at, beside_at}
use Rattle.domains.specs.Domain.{slug}
use Rattle.verdicts.specs.Evaluate.{violates, no_verdict}
use Rattle.verdicts.specs.declared.Verdict.{Verdict}
use Rattle.differences.specs.Differences.{kind_slug}
use Rattle.reasons.specs.Reasons.{export_removed, capability_required, via, reason_lines}
use Rattle.report.specs.Decimal.{decimal_of}
use Rattle.report.specs.Words.{refused_w, at_w}
use Rattle.report.specs.Texts.{lf, refused_text}
use Rattle.reviewed.specs.Escape.{quoted}
use Rattle.reviewed.specs.Words.{default_allow_w, default_deny_w, ends_w, magic_w, utf8_w, kind_w, directive_w, bad_default_w, domain_w}
use Rattle.reviewed.specs.Words.{full_w, long_w, bytes_many_w}
use Rattle.reviewed.specs.Words.{tenth_w, above_w, bytes_w, sections_w, imports_w, exports_w, not_w, required_w, allowed_w, violation_w}
use Rattle.reviewed.specs.Words.{compliant_w, not_compliant_w, not_allowed_w, from_w, stands_w, stands_not_w, pass_w, no_stand_w}
use Rattle.reviewed.specs.Words.{no_compliant_w}
use Rattle.reviewed.specs.Words.{neither_w, none_w, offset_w}

-- ---- a file
-- what it is, and its path
unfoldable pub path_text : List ℕ → List ℕ → List ℕ
path_text what path = what ++ (quoted path ++ lf)

-- `  "NAME", default deny`
abbrev pub default_text : Bool → List ℕ
default_text true = default_allow_w
default_text false = default_deny_w

unfoldable pub name_text : List ℕ → Bool → List ℕ
name_text name permit = (32 ∷ 32 ∷ []) ++ (quoted name ++ default_text permit)

-- `  bytes N, sections N, imports N, exports N`
unfoldable pub counts_text : ℕ → ℕ → ℕ → ℕ → List ℕ
counts_text size sections imports exports =
    bytes_w
    ++ (decimal_of size
    ++ (sections_w ++ (decimal_of sections ++ (imports_w ++ (decimal_of imports ++ (exports_w ++ (decimal_of exports ++ lf)))))))

-- `  refused N at P: WORDS`, after 5 with an offset; no words for a number that neither a policy nor a module is refused with
unfoldable pub words_of : ℕ → List ℕ
words_of number =
    pick (eqb number 1) ends_w
    (pick (eqb number 2) magic_w
    (pick (eqb number 4) utf8_w
    (pick (eqb number 5) kind_w
    (pick (eqb number 6) directive_w
    (pick (eqb number 7) bad_default_w
    (pick (eqb number 8) domain_w
    (pick (eqb number 13) full_w
    (pick (eqb number 14) long_w
    (pick (eqb number 17) bytes_many_w
    (pick (eqb number 18) tenth_w
    (pick (eqb number 19) above_w [])))))))))))

-- `, offset O`: where in the file the kind byte of 5 is
unfoldable pub beside_text : ℕ → ℕ → List ℕ
beside_text number beside = pick (eqb number 5) (offset_w ++ decimal_of beside) []

unfoldable pub reason_text : ℕ → Place → List ℕ
reason_text number place =
    (32 ∷ 32 ∷ [])
    ++ (refused_w
    ++ (decimal_of number
    ++ (at_w ++ (decimal_of (number_at place) ++ (beside_text number (beside_at place) ++ (words_of number ++ lf))))))

-- ---- the seven domains
abbrev pub nth : List Verdict → ℕ → Verdict
nth vs d = get_or vs d no_verdict

-- a word, or `not` before it
unfoldable pub whether : Bool → List ℕ → List ℕ
whether t w = pick t w (not_w ++ w)

unfoldable pub mark_text : Verdict → List ℕ
mark_text v = pick (violates v) violation_w []

-- `  DOMAIN: required (N), not allowed, violation`
unfoldable pub domain_text : ℕ → Verdict → List ℕ
domain_text d v =
    (32 ∷ 32 ∷ [])
    ++ (slug d
    ++ ((58 ∷ 32 ∷ [])
    ++ (whether v.required required_w
    ++ ((32 ∷ 40 ∷ [])
    ++ (decimal_of v.many
    ++ ((41 ∷ 44 ∷ 32 ∷ [])
    ++ (whether v.allowed allowed_w
    ++ (mark_text v ++ lf))))))))

abbrev pub domains_text : List Verdict → List ℕ
domains_text vs = reason_lines (λ d. domain_text d (nth vs d)) 7

-- a space and the domain's word, where it violates
unfoldable pub violated_text : ℕ → Verdict → List ℕ
violated_text d v = pick (violates v) ((32 ∷ []) ++ slug d) []

abbrev pub violated_texts : List Verdict → List ℕ
violated_texts vs = reason_lines (λ d. violated_text d (nth vs d)) 7

-- compliant; or the domains that violate
unfoldable pub compliance_text : Bool → List Verdict → List ℕ
compliance_text fine vs = pick fine compliant_w (not_compliant_w ++ (violated_texts vs ++ lf))

-- `  network is not allowed: imports "FIELD" from "MODULE"`
unfoldable pub violation_text : ℕ → List ℕ → List ℕ → List ℕ
violation_text d field source = (32 ∷ 32 ∷ []) ++ (slug d ++ (not_allowed_w ++ (quoted field ++ (from_w ++ (quoted source ++ lf)))))

-- ---- the comparison
unfoldable pub stand_text : Bool → List ℕ
stand_text t = pick t stands_w stands_not_w

-- the word of a kind; none for a number that is no byte
unfoldable pub kind_text : ℕ → List ℕ
kind_text kind = pick (ltb 255 kind) [] (kind_slug kind)

-- `export removed: "NAME" (KIND)`
unfoldable pub removed_text : List ℕ → ℕ → List ℕ
removed_text name kind = export_removed ++ (quoted name ++ ((32 ∷ 40 ∷ []) ++ (kind_text kind ++ (41 ∷ 10 ∷ []))))

-- `new capability required: DOMAIN via "SOURCE"`
unfoldable pub added_text : ℕ → List ℕ → List ℕ
added_text d source = capability_required ++ (slug d ++ (via ++ (quoted source ++ lf)))

-- ---- the verdict line
-- the candidate is compliant; it can stand in for the baseline
unfoldable pub verdict_text : Bool → Bool → List ℕ
verdict_text fine stands = pick fine (pick stands pass_w no_stand_w) (pick stands no_compliant_w neither_w)

-- `verdict: none, refused N at P`; before `refused`, whose refusal it is, where it is not the candidate's
unfoldable pub none_text : List ℕ → ℕ → Place → List ℕ
none_text whose number place = none_w ++ (whose ++ refused_text number (number_at place))
