-- Whatever derivation of a file is taken, its rules are the same: so a file that the port's grammar derives is one of the specification's
-- exactly where any derivation is clean. Assumes nothing.
use Prim.Native.Nat.{ℕ, suc, ◌^◌, ◌≤◌, ◌<◌}
use native.Mathlib.Omega.{arith}
use mathlib.Core.Path.{◌≡◌, refl, sym, ◌∙◌, ap, subst}
use mathlib.Core.List.{List}
use lib.ListN.{length}
use Rattle.conform.specs.Grammar.{SubOf}
use Rattle.conform.specs.Port.{AnySub, Framed, framed, InARow, Held, SectionSaid, AnyContent, AnySection, AnyModule}
use Rattle.conform.proofs.Walks.{same-got}
use Rattle.strict.specs.Shapes.{Marks}
use Rattle.strict.specs.Again.{fresh}
use Rattle.clean.specs.Rules.{EveryRow, TidySub, TidySubs, TidyContent, TidySection, TidyNames, Rule}
use Rattle.clean.specs.Claims.{CleanModule, ExactlyClean}
use Rattle.clean.proofs.Within.{strict-only}
use Rattle.clean.proofs.Around.{specified-clean}
use Rattle.clean.proofs.Rewalked.{marks-tell-rules}
use Rattle.clean.proofs.Sole.{part_same, name-same, first, assocs-same}

-- ---- name sections
tidy-sub : {i j : ℕ} {p q : List ℕ} {v : SubOf} (x : AnySub i p v) (y : AnySub j q v) → p ≡ q → TidySub x → TidySub y
tidy-sub (AnySub.modulename a) (AnySub.modulename b) e t = sym (name-same e a b).1 ∙ t
tidy-sub (AnySub.funcnames a) (AnySub.funcnames b) e t = (sym (assocs-same e a b).1 ∙ t.0, t.1)
tidy-sub (AnySub.others h) (AnySub.others k) e t = tt

tidy-subs : {l m r s : List ℕ} {vs : List SubOf} (low : ℕ) (w : InARow (Framed AnySub) l vs r) (o : InARow (Framed AnySub) m vs s) → l ≡ m
    → TidySubs low w → TidySubs low o
unfolding TidySubs
tidy-subs low InARow.done InARow.done e t = tt
tidy-subs low (InARow.then (framed {id = i} {p = p} n c) w) (InARow.then (framed {id = j} {p = q} o d) u) e t =
    let f = first e in
    let g = part_same p q f.1 n o in (
      subst (λ (x : ℕ). low ≤ x) f.0 t.0,
      tidy-sub c d g.0 t.1,
      tidy-subs (suc j) w u g.1 (subst (λ (x : ℕ). TidySubs (suc x) w) f.0 t.2),
    )

tidy-content : {id : ℕ} {p : List ℕ} {c : Held} (x y : AnyContent id p c) → TidyContent x → TidyContent y
tidy-content (AnyContent.custom a h) (AnyContent.custom b k) t = tt
tidy-content (AnyContent.names a w) (AnyContent.names b o) t = tidy-subs 0 w o (name-same refl a b).1 t
tidy-content (AnyContent.imports w) (AnyContent.imports o) t = tt
tidy-content (AnyContent.exports w) (AnyContent.exports o) t = tt
tidy-content (AnyContent.unread a b c) (AnyContent.unread x y z) t = tt

tidy-sections : {l m r s : List ℕ} {vs : List SectionSaid} (w : InARow (Framed AnySection) l vs r) (o : InARow (Framed AnySection) m vs s)
    → l ≡ m
    → EveryRow (λ l r v x. TidySection x) w → EveryRow (λ l r v x. TidySection x) o
unfolding EveryRow
tidy-sections InARow.done InARow.done e t = tt
tidy-sections (InARow.then (framed {p = p} n (AnySection.section c)) w) (InARow.then (framed o (AnySection.section d)) u) e t =
    let f = first e in
    let g = part_same p p f.1 n o in
    (tidy-content c d t.0, tidy-sections w u g.1 t.1)

-- ---- modules
module _ {b : List ℕ} {vs : List SectionSaid} (d e : AnyModule b vs) (size : length b < 2 ^ 64) where
  tidy-too : TidyNames d → TidyNames e
  unfolding TidyNames
  tidy-too = by d e where
    by : (d e : AnyModule b vs) → TidyNames d → TidyNames e
    by (AnyModule.modul h w) (AnyModule.modul k o) t = tidy-sections w o refl t

  -- the second walk knows no derivation
  marks-same : (marks-tell-rules d size).marks ≡ (marks-tell-rules e size).marks
  marks-same = (same-got (sym (marks-tell-rules d size).is ∙ (marks-tell-rules e size).is)).0

  short-too : Rule d 2 → Rule e 2
  unfolding fresh
  short-too r =
      let a = (marks-tell-rules d size).judged.short in
      let c = (marks-tell-rules e size).judged.short in
      (c.0 (ap (λ (m : Marks). m.short) (sym marks-same) ∙ a.1 (refl, r))).1

  used-too : Rule d 5 → Rule e 5
  unfolding fresh
  used-too r =
      let a = (marks-tell-rules d size).judged.used in
      let c = (marks-tell-rules e size).judged.used in
      (c.0 (ap (λ (m : Marks). m.used) (sym marks-same) ∙ a.1 (refl, r))).1

  clean-too : CleanModule d → CleanModule e
  clean-too c =
      record {
        version = c.version;
        short = short-too c.short;
        ids = c.ids;
        order = c.order;
        used = used-too c.used;
        kinds = c.kinds;
        plain = c.plain;
        types = c.types;
        names = tidy-too c.names;
      }

pub exactly-clean : ExactlyClean
exactly-clean b vs d bytes short =
    (λ s. let o = specified-clean b vs bytes s in clean-too o.0 d (omega arith) o.1, λ c. strict-only b vs d c)
