-- `halves::take_half` meets its contract: the tests are those of the rule, one after the other.
-- Assumes nothing.
use native.Mathlib.Omega.{arith}
use mir.Syntax.{w32, w64}
use Rattle.seconds.specs.Limits.{highest_number, heaviest, longest}
use Rattle.seconds.specs.Signed.{signed}
use Rattle.fields.specs.Facts.{JobFacts, job-facts}
use Rattle.judge.specs.Gathering.{casts}
use Rattle.halves.specs.AwaitingLaws.{number-low, weight-low, high_taken, half-taken, long-taken, awaited-taken}
use Rattle.halves.proofs.take_half.Goals as goal
use Rattle.halves.proofs.take_half.Goals.{Start}

-- The job is within its limits.
facts : (s : Start) → JobFacts s.args.job
facts s = (job-facts s.args.job).0 s.requires.within

pub overflow_cast-number : goal.overflow_cast-number
overflow_cast-number c =
    casts w64 highest_number c.args.job.number (facts (goal.at.overflow_cast-number c).Start).number (omega arith) (omega arith)

pub overflow_cast-weight : goal.overflow_cast-weight
overflow_cast-weight c =
    let s : Start = (goal.at.overflow_cast-weight c).Start in
    casts w32 heaviest s.args.job.weight (facts s).weight (omega arith) (omega arith)

pub overflow_cast-length : goal.overflow_cast-length
overflow_cast-length c =
    let s : Start = (goal.at.overflow_cast-length c).Start in
    casts w32 longest s.args.job.length (omega (signed, (facts s).long)) (omega arith) (omega arith)

pub returns-then-number-gt-HIGHEST_HALF : goal.returns-then-number-gt-HIGHEST_HALF
returns-then-number-gt-HIGHEST_HALF c =
    let taken = high_taken c.args.job c.args.awaited.now (facts (goal.at.returns-then-number-gt-HIGHEST_HALF c).Start) c.if-job-eq1.true c.if-number-gt-HIGHEST_HALF.true in
    record { tells = taken.0; notes = taken.1 }

pub overflow_add-awaited : goal.overflow_add-awaited
overflow_add-awaited c =
    let s = (goal.at.overflow_add-awaited c).Start in
    omega (arith, number-low s.args.job s.args.awaited.now (facts s))

pub bounds-awaited-number : goal.bounds-awaited-number
bounds-awaited-number c =
    let s = (goal.at.bounds-awaited-number c).Start in
    omega (arith, s.requires.room, c.if-number-gt-HIGHEST_HALF.false)

pub returns-then-job-eq1 : goal.returns-then-job-eq1
returns-then-job-eq1 c =
    let taken = half-taken c.args.job c.args.awaited.now (facts (goal.at.returns-then-job-eq1 c).Start) c.if-job-eq1.true c.if-number-gt-HIGHEST_HALF.false in
    record { tells = taken.0; notes = taken.1 }

pub overflow_mul-weight : goal.overflow_mul-weight
overflow_mul-weight c =
    let s = (goal.at.overflow_mul-weight c).Start in
    omega (arith, weight-low s.args.job s.args.awaited.now (facts s))

pub returns-then-length-weight : goal.returns-then-length-weight
returns-then-length-weight c =
    let taken = long-taken c.args.job c.args.awaited.now (facts (goal.at.returns-then-length-weight c).Start) c.if-job-eq1.false c.if-length-weight.true in
    record { tells = taken.0; notes = taken.1 }

pub bounds-awaited-number-2 : goal.bounds-awaited-number-2
bounds-awaited-number-2 c =
    let s : Start = (goal.at.bounds-awaited-number-2 c).Start in
    omega (arith, s.requires.room, number-low s.args.job s.args.awaited.now (facts s))

pub returns : goal.returns
returns c =
    let taken = awaited-taken c.args.job c.args.awaited.now (facts (goal.at.returns c).Start) c.if-job-eq1.false c.if-length-weight.false in
    record { tells = taken.0; notes = taken.1 }
