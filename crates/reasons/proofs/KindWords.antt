-- The slug of a kind byte holds its word. Assumes nothing.
use mathlib.Core.Path.{◌≡◌}
use Prim.Native.Nat.{ℕ}
use Rattle.refusal.specs.Slug.{slug_of}
use Rattle.refusal.specs.declared.Slug.{Slug}
use Rattle.kinds.specs.Kinds.{kind_of, kind_word}
use Rattle.kinds.specs.declared.ExternalKind.{ExternalKind}
use Rattle.output.proofs.Words.{SlugIs, slug-is}
use Rattle.reasons.proofs.Lines.{kind-long}

pub kind-is : (kind : ℕ) {k : ExternalKind} {w : Slug} → k ≡ kind_of kind → w ≡ slug_of (kind_word k) → SlugIs (kind_word (kind_of kind)) w
kind-is kind {k} e q = rw e at (slug-is (kind_word k) (kind-long k) q)
