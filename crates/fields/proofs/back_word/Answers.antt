-- `fields::back_word` meets its contract: length and deadline, joined in the nesting of the layout.
-- Assumes nothing.
use mathlib.Core.Path.{◌≡◌}
use Prim.Native.Nat.{◌+◌, ◌*◌, ◌^◌, ◌<◌}
use native.Mathlib.Omega.{arith}
use Rattle.seconds.specs.Signed.{signed}
use Rattle.packed.specs.Layout.{encode, back_layout}
use Rattle.fields.specs.Asked.{back_of}
use Rattle.fields.specs.Facts.{JobFacts, JobFits, job-facts, facts-fit}
use Rattle.fields.specs.Bits.{back-joined, back-small}
use Rattle.fields.proofs.back_word.Goals as goal
use Rattle.fields.proofs.back_word.Goals.{After-time_bits-deadline, Start}

-- The job is within its limits.
facts : (c : Start) → JobFacts c.args.job
facts c = (job-facts c.args.job).0 c.requires

fits : (c : Start) → JobFits c.args.job
fits c = facts-fit c.args.job (facts c)

pub plain_bits-length-requires : goal.plain_bits-length-requires
plain_bits-length-requires c = omega (signed, (facts (goal.at.plain_bits-length-requires c).Start).long, (fits (goal.at.plain_bits-length-requires c).Start).long)

pub time_bits-deadline-requires : goal.time_bits-deadline-requires
time_bits-deadline-requires c =
    let a = c.before.before.before in
    omega (signed, (facts (goal.at.time_bits-deadline-requires c).Start).deadline, (fits (goal.at.time_bits-deadline-requires c).Start).deadline)

word : (c : After-time_bits-deadline)
    → c.plain_bits-length.result * 2 ^ 18 + c.time_bits-deadline.result ≡ encode back_layout (back_of c.args.job)
word c =
    let a = c.before.before.before.before in
    back-joined a.args.job c.plain_bits-length.result c.time_bits-deadline.result a.requires c.plain_bits-length.ensures
    c.time_bits-deadline.ensures

small : (c : After-time_bits-deadline) → c.plain_bits-length.result * 2 ^ 18 + c.time_bits-deadline.result < 2 ^ 32
small c =
    let a = c.before.before.before.before in
    omega (arith, word c, back-small a.args.job a.requires)

pub overflow_mul-result : goal.overflow_mul-result
overflow_mul-result c = omega (arith, small c)

pub overflow_add-result : goal.overflow_add-result
overflow_add-result c = omega (arith, small c)

pub returns : goal.returns
returns c = word c
