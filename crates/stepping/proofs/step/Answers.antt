-- `stepping::step` meets its contract: the tests are those of the three cases. Assumes nothing.
use Rattle.std.proofs.Common.{◌≡◌, ◌-◌, ◌∙◌, sym, ap₂, arith, rules, w32, to_z, of_z, to_z-of_z}
use mir.Val.{SFits}
use Rattle.std.specs.Int.Signed.{lt_z}
use Rattle.points.specs.Steps.{too_late}
use Rattle.codes.specs.Code.{point_of, at0, end_of}
use Rattle.pushing.specs.Pushes.{job_rate}
use Rattle.stepping.specs.Stepping.{job_of}
use Rattle.stepping.specs.Cases.{Starts, starts}
use Rattle.stepping.proofs.step.Goals as goal
use Rattle.stepping.proofs.step.Goals.{After-too_late, After-time_in}

-- The list has a point, and the first test is that of case 1.
module _ (c : After-too_late) where
  cases : Starts c.args.job c.args.rate c.args.list c.args.work.now c.args.pushed.now
  cases = starts (omega (arith, c.if-list-eq0.false)) c.requires

  late_is : too_late (job_of c.args.job c.args.rate) (job_rate c.args.rate) (point_of (at0 c.args.work.now c.args.list.place))
      ≡ c.too_late.result
  late_is =
      let first : SFits w32 (at0 c.args.work.now c.args.list.place) = search rules in
      sym (rw (to_z-of_z first) at c.too_late.ensures)

-- The second is that of case 3.
early_is : (c : After-time_in) → lt_z (point_of (at0 c.args.work.now (end_of c.args.list - 1))).time c.args.job.ready
    ≡ lt_z (to_z w32 (of_z w32 c.time_in.result)) (to_z w32 (of_z w32 c.args.job.ready))
early_is c =
    let last : SFits w32 (at0 c.args.work.now (c.end-used.result - 1)) = search rules in
    let ready : SFits w32 c.args.job.ready = search rules in
    let time : SFits w32 c.time_in.result = search rules in
    let is = to_z-of_z time ∙ rw (to_z-of_z last, c.end-used.ensures) at c.time_in.ensures in
    sym (ap₂ lt_z is (to_z-of_z ready))

pub returns-then-too_late : goal.returns-then-too_late
returns-then-too_late c =
    let t = (goal.at.returns-then-too_late c).After-too_late in
    rw (c.left_out.ensures, c.end-used.ensures) ((cases t).late (late_is t ∙ c.if-too_late.true))

pub time_in-requires : goal.time_in-requires
time_in-requires c =
    let last : SFits w32 (at0 c.args.work.now (c.end-used.result - 1)) = search rules in
    rw (to_z-of_z last, c.end-used.ensures) (cases (goal.at.time_in-requires c).After-too_late).last-least

pub add_one-requires : goal.add_one-requires
add_one-requires c = (cases (goal.at.add_one-requires c).After-too_late).add

pub returns-then-time_in-job : goal.returns-then-time_in-job
returns-then-time_in-job c =
    let t = (goal.at.returns-then-time_in-job c).After-too_late in
    (cases t).added (late_is t ∙ c.if-too_late.false) (early_is (goal.at.returns-then-time_in-job c).After-time_in ∙ c.if-time_in-job.true) _ _
    c.add_one.ensures

pub merge_pushed-requires : goal.merge_pushed-requires
merge_pushed-requires c =
    let t = (goal.at.merge_pushed-requires c).After-too_late in
    (cases t).merge (late_is t ∙ c.if-too_late.false) (early_is (goal.at.merge_pushed-requires c).After-time_in ∙ c.if-time_in-job.false)
