-- The strict reader against both grammars. Assumes nothing.
use Prim.Native.Nat.{ℕ, zero, suc, ◌^◌, ◌≤◌, ◌<◌}
use native.Mathlib.Omega.{arith}
use mathlib.Core.Path.{◌≡◌, refl, ◌∙◌, ap}
use mathlib.Core.List.{List, map}
use lib.ListN.{length}
use Rattle.refusal.specs.Sizes.{file_limit}
use Rattle.refusal.specs.Said.{accepted}
use Rattle.refusal.specs.Each.{Each}
use Rattle.wasm.specs.Module.{Sizes, Parsed, module_at}
use Rattle.conform.specs.Grammar.{SectionOf, ModuleG}
use Rattle.conform.specs.Port.{SectionSaid, AnyModule, version_of}
use Rattle.conform.specs.Claims.{Bytes, section_said, Room, Derives}
use Rattle.conform.proofs.Whole.{any-conform}
use Rattle.conform.proofs.Exactly.{only-these}
use Rattle.conform.proofs.Sound.{rows-sound}
use Rattle.strict.specs.Rules.{strict_at}
use Rattle.strict.proofs.Strictly.{strict-plain}
use Rattle.clean.specs.Rules.{DifferentNames}
use Rattle.clean.specs.Claims.{CleanModule, Strict, LowestTold, StrictAs, StrictExactly, StrictTakes, Derivable, PlainSpecified}
use Rattle.clean.specs.Claims.{StrictSpecified}
use Rattle.clean.proofs.Around.{specified-clean}
use Rattle.clean.proofs.Sole.{one-reading}
use Rattle.clean.proofs.Alike.{exactly-clean}
use Rattle.clean.proofs.Lowest.{Outcome, outcome, accepts-where, refuses-where}

-- ---- a plain read that was accepted, and a derivation of what was read
module _ (b : List ℕ) (z : Sizes) (m : Parsed) (bytes : Bytes b) (plain : module_at b z ≡ accepted m) (e : Derives b z m) where
  small : length b < 2 ^ 64
  small = omega (arith, e.short)

  found : Outcome e.derived small m e.version-is e.rows (rows-sound b z m bytes plain).rows_ok.exports-ok z
  found = outcome e.derived small m e.version-is e.rows (rows-sound b z m bytes plain).rows_ok.exports-ok z plain

pub lowest-told : LowestTold
lowest-told b z m bytes plain =
    record {
      accepts = λ e. accepts-where (found b z m bytes plain e);
      refuses = λ e r. refuses-where (found b z m bytes plain e) r;
    }

-- ---- exactly
module _ (b : List ℕ) (z : Sizes) (bytes : Bytes b) where
  only : (m : Parsed) → strict_at b z ≡ accepted m → (e : Derives b z m) × Strict e.derived
  only m q =
      let plain = strict-plain b z m q in
      let e = only-these b z m bytes plain in
      (e, ((lowest-told b z m bytes plain).accepts e).0 q)

  takes : (vs : List SectionSaid) (d : AnyModule b vs) → length b ≤ file_limit → Room z vs → Strict d → StrictAs b z vs
  takes vs d short room s =
      let o = any-conform b z vs short room d in
      let m : Parsed = record { version = version_of b; tables = o.tables } in
      let e : Derives b z m =
      record { sections = vs; derived = d; short = short; room = room; version-is = refl; rows = o.rows } in
      let q = ((lowest-told b z m bytes o.is).accepts e).1 s in
      record {
        tables = o.tables;
        is = q ∙ ap (λ (v : ℕ). accepted (record { version = v; tables = o.tables })) (s 1);
        rows = o.rows;
      }

pub strict-exactly : (b : List ℕ) (z : Sizes) → Bytes b → StrictExactly b z
strict-exactly b z bytes = record { only = only b z bytes; takes = takes b z bytes }

-- ---- against the specification's grammar
all-rules : {b : List ℕ} {vs : List SectionSaid} (d : AnyModule b vs) → CleanModule d → Each DifferentNames vs → Strict d
all-rules d c names zero = tt
all-rules d c names (suc zero) = c.version
all-rules d c names (suc (suc zero)) = c.short
all-rules d c names (suc (suc (suc zero))) = c.ids
all-rules d c names (suc (suc (suc (suc zero)))) = c.order
all-rules d c names (suc (suc (suc (suc (suc zero))))) = c.used
all-rules d c names (suc (suc (suc (suc (suc (suc zero)))))) = names
all-rules d c names (suc (suc (suc (suc (suc (suc (suc zero))))))) = c.kinds
all-rules d c names (suc (suc (suc (suc (suc (suc (suc (suc zero)))))))) = c.plain
all-rules d c names (suc (suc (suc (suc (suc (suc (suc (suc (suc i))))))))) = tt

pub strict-takes : StrictTakes
strict-takes b z us bytes short room names g =
    let o = specified-clean b (map section_said us) bytes (record { sections = us; derived = g; says = refl }) in
    takes b z bytes (map section_said us) o.0 short room (all-rules o.0 o.1 names)

module _ (b : List ℕ) (bytes : Bytes b) (short : length b ≤ file_limit) {vs : List SectionSaid} (d : AnyModule b vs) where
  -- all derivations say the same
  said : (us : List SectionOf) → ModuleG b us → map section_said us ≡ vs
  said us g =
      one-reading b (map section_said us) vs
      (specified-clean b (map section_said us) bytes (record { sections = us; derived = g; says = refl })).0 d

  pub derivable : Derivable b vs (CleanModule d)
  derivable =
      let e = exactly-clean b vs d bytes short in
      record {
        exactly = (
          λ w. e.0 (record { sections = w.0; derived = w.1; says = said w.0 w.1 }),
          λ c. let o = e.1 c in (o.sections, o.derived),
        );
        says = said;
      }

pub plain-specified : PlainSpecified
plain-specified b z m bytes q e = derivable b bytes e.short e.derived

pub strict-specified : StrictSpecified
strict-specified b z m bytes q e =
    let s = ((lowest-told b z m bytes (strict-plain b z m q)).accepts e).0 q in
    let o = derivable b bytes e.short e.derived in
    record {
      exactly = (
        λ w. let c = o.exactly.0 w in (c.types, c.names),
        λ w. o.exactly.1 (record {
          version = s 1;
          short = s 2;
          ids = s 3;
          order = s 4;
          used = s 5;
          kinds = s 7;
          plain = s 8;
          types = w.0;
          names = w.1;
        }),
      );
      says = o.says;
    }
