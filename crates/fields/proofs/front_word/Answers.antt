-- `fields::front_word` meets its contract: the bits of the front's numbers, joined in the nesting of the layout.
-- Assumes nothing.
use mathlib.Core.Path.{◌≡◌, ◌∙◌, ap}
use Prim.Native.Nat.{ℕ, ◌+◌, ◌*◌, ◌^◌, ◌<◌}
use native.Mathlib.Omega.{arith}
use Rattle.seconds.specs.Signed.{signed}
use Rattle.packed.specs.Layout.{encode, front_layout}
use Rattle.fields.specs.Asked.{front_of}
use Rattle.fields.specs.Facts.{JobFacts, JobFits, job-facts, facts-fit}
use Rattle.fields.specs.Bits.{FrontBits, front-joined, front-under, head-fits}
use Rattle.fields.specs.declared.Job.{Job}
use Rattle.fields.proofs.front_word.Goals as goal
use Rattle.fields.proofs.front_word.Goals.{After-head_word-head, Start}

-- The job is within its limits.
facts : (c : Start) → JobFacts c.args.job
facts c = (job-facts c.args.job).0 c.requires.within

fits : (c : Start) → JobFits c.args.job
fits c = facts-fit c.args.job (facts c)

pub plain_bits-number-requires : goal.plain_bits-number-requires
plain_bits-number-requires c =
    let a = c.before in
    omega (signed, (facts (goal.at.plain_bits-number-requires c).Start).number, (fits (goal.at.plain_bits-number-requires c).Start).number)

pub plain_bits-pack-requires : goal.plain_bits-pack-requires
plain_bits-pack-requires c =
    let a = c.before.before.before in
    omega (signed, (facts (goal.at.plain_bits-pack-requires c).Start).pack, (fits (goal.at.plain_bits-pack-requires c).Start).pack)

pub plain_bits-critical-requires : goal.plain_bits-critical-requires
plain_bits-critical-requires c =
    let a = c.before.before.before.before.before in
    omega (signed, (facts (goal.at.plain_bits-critical-requires c).Start).critical, (fits (goal.at.plain_bits-critical-requires c).Start).critical)

pub plain_bits-weight-requires : goal.plain_bits-weight-requires
plain_bits-weight-requires c =
    let a = c.before.before.before.before.before.before.before in
    omega (signed, (facts (goal.at.plain_bits-weight-requires c).Start).weight, (fits (goal.at.plain_bits-weight-requires c).Start).weight)

pub time_bits-ready-requires : goal.time_bits-ready-requires
time_bits-ready-requires c =
    let a = c.before.before.before.before.before.before.before.before.before in
    omega (signed, (facts (goal.at.time_bits-ready-requires c).Start).ready, (fits (goal.at.time_bits-ready-requires c).Start).ready)

pub head_word-head-requires : goal.head_word-head-requires
head_word-head-requires c =
    let a = c.before.before.before.before.before.before.before.before.before.before in
    let n = c.plain_bits-number in
    let p = c.plain_bits-pack in
    head-fits a.args.job a.args.kind n.result p.result a.requires n.ensures p.ensures

-- All bits are at hand.
module _ (c : After-head_word-head) where
  abbrev start : Start
  start = (goal.at.After-head_word-head c).Start

  abbrev job : Job
  job = start.args.job

  abbrev critical : ℕ
  critical = c.plain_bits-critical.result

  abbrev weight : ℕ
  weight = c.plain_bits-weight.result

  abbrev ready : ℕ
  ready = c.time_bits-ready.result

  word : c.head_word-head.result * 2 ^ 26 + (critical * 2 ^ 25 + (weight * 2 ^ 18 + ready)) ≡ encode (front_layout start.args.kind) (front_of job)
  word =
      let number = c.plain_bits-number in
      let pack = c.plain_bits-pack in
      let bits : FrontBits job number.result pack.result critical weight ready =
      record {
        number_is = number.ensures;
        pack-is = pack.ensures;
        critical-is = c.plain_bits-critical.ensures;
        weight_is = c.plain_bits-weight.ensures;
        ready-is = c.time_bits-ready.ensures;
      } in
      ap (λ h. h * 2 ^ 26 + (critical * 2 ^ 25 + (weight * 2 ^ 18 + ready))) c.head_word-head.ensures
      ∙ front-joined job start.args.kind number.result pack.result critical weight ready start.requires.within bits

  small : c.head_word-head.result * 2 ^ 26 + (critical * 2 ^ 25 + (weight * 2 ^ 18 + ready)) < 2 ^ 40
  small = omega (arith, word, front-under job start.args.kind start.requires)

pub overflow_mul-result : goal.overflow_mul-result
overflow_mul-result c = omega (arith, small c)

pub overflow_mul-result-2 : goal.overflow_mul-result-2
overflow_mul-result-2 c = omega (arith, small c)

pub overflow_mul-result-3 : goal.overflow_mul-result-3
overflow_mul-result-3 c = omega (arith, small c)

pub overflow_add-result : goal.overflow_add-result
overflow_add-result c = omega (arith, small c)

pub overflow_add-result-2 : goal.overflow_add-result-2
overflow_add-result-2 c = omega (arith, small c)

pub overflow_add-result-3 : goal.overflow_add-result-3
overflow_add-result-3 c = omega (arith, small c)

pub returns : goal.returns
returns c = word c
