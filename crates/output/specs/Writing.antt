-- What a writer holds after bytes were put into it. Assumes nothing.
use Rattle.std.specs.Prelude.{◌≡◌, ℕ, List}
use Rattle.output.specs.Bytes.{Wrote}
use Rattle.output.specs.declared.bytes.Writer.{Writer}

-- calls in a row, which together were to write w
pub record Added (before : Writer) (w : List ℕ) (after : Writer) : Type 0 where
  pub wrote : Wrote before.out.now before.at before.go w after.at after.out.now
  pub same : after.go ≡ before.go
