-- What a reader gave into a part of a buffer stands behind what it gave before. Assumes nothing.
use Rattle.std.specs.Prelude.{ℕ, ◌+◌, ◌≤◌, List, ◌++◌, length, take}
use Rattle.std.proofs.Common.{sym, ap, ◌∙◌, subst}
use Rattle.std.proofs.Math.Seq.{take-append-add}
use Rattle.std.proofs.lemmas.List.{length-take-le, take-append-le}
use Rattle.std.proofs.KnownBytes.{Consumes-trans}
use Rattle.std.specs.Io.KnownBytes.{Consumes}
use Rattle.std.specs.declared.option.Option.{Option}

pub filled : (a b c : Option (List ℕ)) (n m : ℕ) (old part rest : List ℕ) → n ≤ length old → m ≤ length part
    → Consumes a b (take n old) → Consumes b c (take m part) → Consumes a c (take (n + m) (take n old ++ (part ++ rest)))
filled a b c n m old part rest within fits first more =
    let both = take n old ++ (part ++ rest) in
    let front = ap (λ k. take (k + m) both) (sym (length-take-le n old within)) in
    let joined = front ∙ take-append-add (take n old) (part ++ rest) m ∙ ap (λ l. take n old ++ l) (take-append-le m part rest fits) in
    subst (Consumes a c) (sym joined) (Consumes-trans a b c (take n old) (take m part) first more)
