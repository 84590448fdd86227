-- `judge::gather` meets its contract: a turn takes one job in.
-- Assumes nothing.
use Prim.Native.Nat.{◌≤◌, ◌<◌}
use mathlib.Core.Path.{◌≡◌, sym, ◌∙◌, subst}
use native.Mathlib.Omega.{arith}
use borrow.Author.Rules.{rules}
use Rattle.std.proofs.Common.{Err}
use Rattle.packed.specs.Packed.{job_count}
use Rattle.judge.specs.Verdicts.{Gathers}
use Rattle.judge.specs.Gathering.{Turn, passing-starts, passing-on, refused-here, passing-ends}
use Rattle.judge.proofs.gather.Goals as goal

pub loop-place-init : goal.loop-place-init
loop-place-init g c =
    let few : job_count (g.J.Jobs.numbers c.args.jobs.now) ≤ 48 = omega (arith, c.count-place-end.ensures.few, c.count-place-end.ensures.all) in
    passing-starts (g.J.Jobs.numbers c.args.jobs.now) c.args.numbers.now few (search rules)

-- The job that was read is the job at the place.
pub returns-in_err-weight : goal.returns-in_err-weight
returns-in_err-weight g c =
    let zs = g.J.Jobs.numbers c.args.jobs.now in
    let e : c.from_residual.result ≡ Err c.in_err-weight.field-0.0 = search rules in
    let more : c.loop-place.place < job_count zs = omega (arith, c.loop-place-test.true, c.count-place-end.ensures.all) in
    let turn : Turn zs c.loop-place.numbers c.loop-place.place c.loop-place.weight c.job.result =
    record { more = more; read = c.job.ensures; before = c.loop-place.invariant } in
    subst (λ r. Gathers zs c.take_in.new.numbers r) (sym e) (refused-here turn (sym c.take_in.ensures.goes ∙ c.in_err-weight.was))

pub loop-place-preserved : goal.loop-place-preserved
loop-place-preserved g c =
    let zs = g.J.Jobs.numbers c.args.jobs.now in
    let more : c.loop-place.place < job_count zs = omega (arith, c.loop-place-test.true, c.count-place-end.ensures.all) in
    let turn : Turn zs c.loop-place.numbers c.loop-place.place c.loop-place.weight c.job.result =
    record { more = more; read = c.job.ensures; before = c.loop-place.invariant } in
    passing-on turn (sym c.take_in.ensures.goes ∙ c.in_ok-weight.was) c.take_in.new.numbers c.take_in.ensures.notes

pub returns : goal.returns
returns g c =
    let zs = g.J.Jobs.numbers c.args.jobs.now in
    let end : c.loop-place.place ≡ job_count zs =
    omega (arith, c.loop-place-test.false, c.loop-place.auto.place-end, c.count-place-end.ensures.all) in
    passing-ends zs c.loop-place.numbers c.loop-place.place c.loop-place.weight end c.loop-place.invariant
