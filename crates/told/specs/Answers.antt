-- docs/RULES.md, "Strict reading": what an answer with no value tells. Assumes nothing.
use Rattle.refusal.specs.Said.{Said}
use Rattle.told.specs.Policies.{number_in, place_in, beside_in}
use Rattle.told.specs.declared.answers.AnswerTold.{AnswerTold}

abbrev pub answer_told : {X : Type 0} → Said X → AnswerTold
answer_told s = record { number = number_in s; place = place_in s; offset = beside_in s }
