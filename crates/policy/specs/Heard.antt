-- For the code: what line n says, by ranges of the text; a directive without its bytes, or its fault. Assumes nothing.
use Rattle.std.specs.Prelude.{true, ℕ, ◌≤◌, ◌<◌, length}
use Rattle.refusal.specs.declared.Part.{Part}
use Rattle.refusal.specs.Said.{Said, accepted, refused, spot}
use Rattle.domains.specs.Domain.{Perhaps, nothing, just}
use Rattle.text.specs.Piece.{Piece}
use Rattle.policy.specs.Directive.{Directive, blank, wrong, called, preset, plain, listed}
use Rattle.policy.specs.Reader.{slot, stance_of, with_rule}
use Rattle.policy.specs.declared.reader.Heard.{Heard}
use Rattle.policy.specs.declared.reader.Heard.TheVariants as h
use Rattle.policy.specs.declared.Policy.{Policy}

abbrev pub part_of : Piece → Part
part_of p = record { from = p.at; len = length p.bytes }

abbrev pub ranged : ℕ → Directive → Said Heard
ranged n blank = accepted h.Blank
ranged n (wrong k) = refused k (spot n)
ranged n (called p) = accepted (h.Called (part_of p))
ranged n (preset t) = accepted (h.Preset t)
ranged n (plain t d) = accepted (h.Ruled d (slot (stance_of t) 0 0))
ranged n (listed t d p) = accepted (h.Ruled d (slot (stance_of t) p.at (length p.bytes)))

-- the domain that a rule names; 8 where it names none
abbrev pub named : ℕ → Perhaps → Said ℕ
named n nothing = refused 8 (spot n)
named n (just d) = accepted d

abbrev pub obeyed : Heard → Policy → Policy
obeyed h.Blank v = v
obeyed (h.Called x) v = record { named = true; start = x.from; size = x.len; permit = v.permit; rules = v.rules }
obeyed (h.Preset t) v = record { named = v.named; start = v.start; size = v.size; permit = t; rules = v.rules }
obeyed (h.Ruled d x) v = with_rule d x v

-- a domain is below 7
abbrev pub Small : Heard → Type 0
Small h.Blank = 0 ≤ 0
Small (h.Called x) = 0 ≤ 0
Small (h.Preset t) = 0 ≤ 0
Small (h.Ruled d x) = d < 7
