-- `extending::extend_profile` meets its contract: the profile is judged, then the weights together.
-- Assumes nothing.
use mathlib.Core.Path.{◌≡◌, sym, subst, ◌∙◌}
use mathlib.Core.Bool.{true}
use native.Mathlib.Omega.{arith}
use borrow.Author.Rules.{rules}
use Rattle.std.proofs.Common.{Err}
use Rattle.profiles.specs.Numbers.{holds_profile}
use Rattle.filling.specs.BeginLaws.{last-light}
use Rattle.extending.specs.Calls.{ExtendCall}
use Rattle.extending.proofs.CallLaws.{extend-passed, extend-not-valid, extend-too-heavy}
use Rattle.extending.proofs.extend_profile.Goals as goal
use Rattle.extending.proofs.extend_profile.Goals.{Else-not-valid, Start}

-- Where the code starts.
abbrev start : Else-not-valid → Start
start c = (goal.at.Else-not-valid c).Start

pub returns-then-not-valid : goal.returns-then-not-valid
returns-then-not-valid c =
    let s : Start = (goal.at.returns-then-not-valid c).Start in
    rw c.into.ensures
    (extend-not-valid s.args.profile.now s.args.bytes.now s.args.out.now s.args.work.now s.requires
    (sym c.valid.ensures ∙ c.if-not-valid.true))

-- Past the test the profile is valid.
is-valid : (c : Else-not-valid) → let s = start c in
    holds_profile s.args.profile.now ≡ true
is-valid c = sym c.valid.ensures ∙ c.if-not-valid.false

pub last_weight-before-requires : goal.last_weight-before-requires
last_weight-before-requires c = is-valid c

pub overflow_cast-before : goal.overflow_cast-before
overflow_cast-before c =
    let s = start (goal.at.overflow_cast-before c).Else-not-valid in
    omega (arith, c.last_weight-before.ensures, last-light s.args.profile.now (is-valid (goal.at.overflow_cast-before c).Else-not-valid))

pub extend_with_room-requires : goal.extend_with_room-requires
extend_with_room-requires c =
    extend-passed c.args.profile.now c.args.bytes.now c.requires (is-valid (goal.at.extend_with_room-requires c).Else-not-valid)
    c.last_weight-before.ensures (sym c.judge_weight.ensures ∙ c.in_ok-judge_weight.was)

pub returns-in_err-judge_weight : goal.returns-in_err-judge_weight
returns-in_err-judge_weight c =
    let e : c.from_residual.result ≡ Err c.in_err-judge_weight.field-0.0 = search rules in
    let a = c.args in
    subst (λ r. ExtendCall a.profile.now a.bytes.now a.out.now a.work.now r a.out.now a.work.now) (sym e)
    (extend-too-heavy a.profile.now a.bytes.now a.out.now a.work.now c.requires
    (is-valid (goal.at.returns-in_err-judge_weight c).Else-not-valid) c.last_weight-before.ensures
    (sym c.judge_weight.ensures ∙ c.in_err-judge_weight.was))
