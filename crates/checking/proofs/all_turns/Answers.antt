-- `checking::all_turns` meets its contract: a turn that is legal goes on to the next job, and any other ends it.
-- Assumes nothing.
use Prim.Native.Nat.{◌+◌, ◌*◌, ◌%◌, ◌^◌, ◌≤◌}
use mathlib.Core.Path.{◌≡◌, sym, subst, ◌∙◌}
use mathlib.Core.Option.{some}
use native.Mathlib.Omega.{arith}
use lib.ListN.{get_elem?}
use mir.Syntax.{w32}
use mir.Val.{SFits, to_z, of_z}
use mir.Facts.{to_z-of_z}
use borrow.Author.Rules.{rules}
use Rattle.packed.specs.Packed.{jobs_in}
use Rattle.fields.specs.Fields.{as_job}
use Rattle.fields.specs.Places.{jobs-count, job-there, job-fine}
use Rattle.checking.specs.TurnLaws.{Judging, judging-starts, has-start, judging-stops, judging-on, judging-ends}
use Rattle.checking.proofs.all_turns.Goals as goal
use Rattle.checking.proofs.all_turns.Goals.{After-job_at-job, Start}

few : (s : Start) → s.args.records.count ≤ 48
few s = omega (arith, s.requires.count, s.requires.accepted.header.few)

pub loop-place-init : goal.loop-place-init
loop-place-init c =
    judging-starts (jobs_in c.args.records.bytes.now) c.args.records.count (to_z w32 (of_z w32 c.args.t0)) c.args.mask c.args.plan.now
    c.ranges.mask.fits c.requires.none-beyond

-- The job at the place has been read.
there : (c : After-job_at-job) → get_elem? (jobs_in c.args.records.bytes.now) c.loop-place.place ≡ some (as_job c.job_at-job.result)
there c =
    job-there c.args.records.bytes.now c.loop-place.place (omega (arith, c.requires.count, c.loop-place-test.true)) c.job_at-job.result
    c.job_at-job.ensures

pub take_turn-requires : goal.take_turn-requires
take_turn-requires c =
    let l = c.loop-place in
    record {
      within =
          job-fine c.args.records.bytes.now l.place (omega (arith, c.requires.count, c.loop-place-test.true)) c.job_at-job.result
          c.job_at-job.ensures c.requires.accepted;
      few = omega (arith, l.invariant.count, c.requires.many);
      there =
          has-start (jobs_in c.args.records.bytes.now) c.args.records.count (to_z w32 (of_z w32 c.args.t0)) c.args.mask c.args.plan.now
          l.invariant c.loop-place-test.true (as_job c.job_at-job.result) (there (goal.at.take_turn-requires c).After-job_at-job)
          c.requires.whole c.requires.many;
    }

pub returns-in_default : goal.returns-in_default
returns-in_default c =
    rw (to_z-of_z c.ranges.t0) at
    (judging-stops (jobs_in c.args.records.bytes.now) c.args.records.count (to_z w32 (of_z w32 c.args.t0)) c.args.mask c.args.plan.now
    c.loop-place.invariant c.loop-place-test.true (as_job c.job_at-job.result) (there (goal.at.returns-in_default c).After-job_at-job)
    (sym c.take_turn.ensures ∙ c.in_default.is))

pub loop-place-preserved : goal.loop-place-preserved
loop-place-preserved c =
    let l = c.loop-place in
    let turn = c.in-Some.turn in
    let fits : SFits w32 c.in-Some.turn.free = search rules in
    let on =
    judging-on (jobs_in c.args.records.bytes.now) c.args.records.count (to_z w32 (of_z w32 c.args.t0)) c.args.mask c.args.plan.now
    l.invariant c.loop-place-test.true (as_job c.job_at-job.result) (there (goal.at.loop-place-preserved c).After-job_at-job)
    (few (goal.at.loop-place-preserved c).Start) turn (sym c.take_turn.ensures ∙ c.in-Some.is) in
    subst (λ z. Judging (jobs_in c.args.records.bytes.now) c.args.records.count (to_z w32 (of_z w32 c.args.t0)) c.args.mask c.args.plan.now z
    (l.left % 2 ^ 63 * 2) turn.next (l.place + 1)) (sym (to_z-of_z fits)) on

pub returns : goal.returns
returns c =
    rw (to_z-of_z c.ranges.t0) at
    (judging-ends (jobs_in c.args.records.bytes.now) c.args.records.count (to_z w32 (of_z w32 c.args.t0)) c.args.mask c.args.plan.now
    (omega arith) (omega (arith, jobs-count c.args.records.bytes.now, c.requires.count)) c.loop-place.invariant)
