-- `worded_at` meets its contract. Assumes nothing.
use mathlib.Core.Path.{◌≡◌, sym, ◌∙◌}
use mathlib.Core.Bool.{Bool, false}
use mathlib.Core.List.{List}
use Prim.Native.Nat.{ℕ}
use native.Mathlib.Omega.{arith}
use Rattle.text.specs.Find.{begins}
use Rattle.text.specs.Piece.{bytes_between}
use Rattle.policy.specs.Directive.{policy_w, default_w, allow_w, deny_w}
use Rattle.policy.proofs.HeardLaws.{word_fits, worded-name, worded-default, worded-allow, worded-deny, worded-wrong}
use Rattle.policy.proofs.reader.worded_at.Goals as goal

-- the line begins with a word, or does not
abbrev Begins : List ℕ → List ℕ → ℕ → ℕ → Bool → Type 0
Begins w s a e t = begins w (bytes_between s a e) ≡ t

pub name_at-requires : goal.name_at-requires
name_at-requires c =
    let a = c.args in
    omega (arith, word_fits a.s.now a.a a.e policy_w (omega arith) (sym c.starts.ensures ∙ c.if-starts.true))

pub returns-then-starts : goal.returns-then-starts
returns-then-starts c =
    let a = c.args in
    rw c.name_at.ensures (sym (worded-name a.s.now a.a a.e a.line (sym c.starts.ensures ∙ c.if-starts.true)))

pub preset_at-requires : goal.preset_at-requires
preset_at-requires c =
    let a = c.args in
    omega (arith, word_fits a.s.now a.a a.e default_w (omega arith) (sym c.starts-2.ensures ∙ c.if-starts-2.true))

pub returns-then-starts-2 : goal.returns-then-starts-2
returns-then-starts-2 c =
    let missed1 : Begins policy_w c.args.s.now c.args.a c.args.e false = sym c.starts.ensures ∙ c.if-starts.false in
    let a = c.args in
    c.preset_at.ensures
    ∙ sym (worded-default a.s.now a.a a.e a.line missed1 (sym c.starts-2.ensures ∙ c.if-starts-2.true))

pub ruled_at-requires : goal.ruled_at-requires
ruled_at-requires c =
    let a = c.args in
    omega (arith, word_fits a.s.now a.a a.e allow_w (omega arith) (sym c.starts-3.ensures ∙ c.if-starts-3.true))

pub returns-then-starts-3 : goal.returns-then-starts-3
returns-then-starts-3 c =
    let missed1 : Begins policy_w c.args.s.now c.args.a c.args.e false = sym c.starts.ensures ∙ c.if-starts.false in
    let missed2 : Begins default_w c.args.s.now c.args.a c.args.e false = sym c.starts-2.ensures ∙ c.if-starts-2.false in
    let a = c.args in
    c.ruled_at.ensures
    ∙ sym (worded-allow a.s.now a.a a.e a.line missed1 missed2 (sym c.starts-3.ensures ∙ c.if-starts-3.true))

pub ruled_at-requires-then-starts-4 : goal.ruled_at-requires-then-starts-4
ruled_at-requires-then-starts-4 c =
    let a = c.args in
    omega (arith, word_fits a.s.now a.a a.e deny_w (omega arith) (sym c.starts-4.ensures ∙ c.if-starts-4.true))

pub returns-then-starts-4 : goal.returns-then-starts-4
returns-then-starts-4 c =
    let missed1 : Begins policy_w c.args.s.now c.args.a c.args.e false = sym c.starts.ensures ∙ c.if-starts.false in
    let missed2 : Begins default_w c.args.s.now c.args.a c.args.e false = sym c.starts-2.ensures ∙ c.if-starts-2.false in
    let missed3 : Begins allow_w c.args.s.now c.args.a c.args.e false = sym c.starts-3.ensures ∙ c.if-starts-3.false in
    let a = c.args in
    c.ruled_at-then-starts-4.ensures
    ∙ sym (worded-deny a.s.now a.a a.e a.line missed1 missed2 missed3 (sym c.starts-4.ensures ∙ c.if-starts-4.true))

pub returns : goal.returns
returns c =
    let missed1 : Begins policy_w c.args.s.now c.args.a c.args.e false = sym c.starts.ensures ∙ c.if-starts.false in
    let missed2 : Begins default_w c.args.s.now c.args.a c.args.e false = sym c.starts-2.ensures ∙ c.if-starts-2.false in
    let missed3 : Begins allow_w c.args.s.now c.args.a c.args.e false = sym c.starts-3.ensures ∙ c.if-starts-3.false in
    let missed4 : Begins deny_w c.args.s.now c.args.a c.args.e false = sym c.starts-4.ensures ∙ c.if-starts-4.false in
    let a = c.args in
    sym (worded-wrong a.s.now a.a a.e a.line missed1 missed2 missed3 missed4)
