-- `kinds::first_packed` meets its contract: a turn reads one job.
-- Assumes nothing.
use Prim.Native.Nat.{◌<◌}
use mathlib.Core.Path.{◌≡◌, refl, sym, ap}
use native.Mathlib.Omega.{arith}
use mir.Syntax.{w32}
use mir.Val.{SFits}
use borrow.Author.Rules.{rules}
use Rattle.packed.specs.Packed.{job_count, the_pack}
use Rattle.kinds.specs.KindsLaws.{search-starts, search-on, search-finds, search-lacks}
use Rattle.kinds.proofs.first_packed.Goals as goal

pub loop-place-init : goal.loop-place-init
loop-place-init g c = let zs = g.J.Jobs.numbers c.args.jobs.now in search-starts zs (job_count zs) refl

pub returns-then-job-ne0 : goal.returns-then-job-ne0
returns-then-job-ne0 g c =
    let zs = g.J.Jobs.numbers c.args.jobs.now in
    let fits : SFits w32 c.job.result.pack = search rules in
    let more : c.loop-place.place < job_count zs = omega (arith, c.loop-place-test.true, c.count-place-end.ensures.all) in
    search-finds zs (job_count zs) refl c.loop-place.place more c.loop-place.invariant c.job.result.pack
    (ap the_pack (sym c.job.ensures)) fits c.if-job-ne0.true

pub loop-place-preserved : goal.loop-place-preserved
loop-place-preserved g c =
    let zs = g.J.Jobs.numbers c.args.jobs.now in
    let fits : SFits w32 c.job.result.pack = search rules in
    let more : c.loop-place.place < job_count zs = omega (arith, c.loop-place-test.true, c.count-place-end.ensures.all) in
    search-on zs (job_count zs) refl c.loop-place.place more c.loop-place.invariant c.job.result.pack
    (ap the_pack (sym c.job.ensures)) fits c.if-job-ne0.false

pub returns : goal.returns
returns g c =
    let zs = g.J.Jobs.numbers c.args.jobs.now in
    let end : c.loop-place.place ≡ job_count zs =
    omega (arith, c.loop-place-test.false, c.loop-place.auto.place-end, c.count-place-end.ensures.all) in
    search-lacks zs (job_count zs) refl c.loop-place.place end c.loop-place.invariant
