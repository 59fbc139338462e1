use mathlib.Core.Path.{◌≡◌}
use Rattle.output.specs.Writing.{Added}
use Rattle.reasons.specs.Reasons.{reason_lines}
use Rattle.reviewed.specs.Texts.{nth, domain_text}
use Rattle.reviewed.proofs.lines.put_domains.Given as goal

abbrev pub invariant-loop-d : goal.invariant-loop-d
invariant-loop-d l =
    (l.out.out.ghost_name ≡ l.initial.out.out.ghost_name)
    × Added l.initial.out (reason_lines (λ k. domain_text k (nth l.v-items k)) l.d) l.out
