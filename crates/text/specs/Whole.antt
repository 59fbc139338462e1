-- docs/RULES.md, "Numbered answers": what is tested of a text before anything else. Assumes nothing.
use Rattle.std.specs.Prelude.{List, ℕ, ltb, length}
use Rattle.refusal.specs.Pick.{pick}
use Rattle.refusal.specs.Sizes.{text_limit}
use Rattle.refusal.specs.Said.{Said, accepted, refused, offset, spot}
use Rattle.text.specs.Utf8.{up_to}

-- 14 above 65,536 bytes; then 4, at the bytes before the first ill-formed sequence
unfoldable pub whole_text : List ℕ → Said (Unit {0})
whole_text s =
    pick (ltb text_limit (length s)) (refused 14 (spot 0))
    (pick (ltb (up_to s) (length s)) (refused 4 (offset (up_to s)))
    (accepted tt))

-- an answer without its value
abbrev pub without_value : {X : Type 0} → Said X → Said (Unit {0})
without_value (accepted v) = accepted tt
without_value (refused n p) = refused n p
