-- `checking::judge_plan` meets its contract: the tests are those of the checks, one after the other.
-- Assumes nothing.
use Prim.Native.Nat.{◌-◌, ◌%◌, ◌^◌, ◌≤◌}
use mathlib.Core.Path.{◌≡◌, sym, ap, ap₂, ◌∙◌}
use native.Mathlib.Omega.{arith}
use mathlib.Core.Bool.{Bool}
use lib.Count.{ones}
use lib.Dec.{eqb}
use lib.ListN.{length, get_or}
use lib.Pow.{pow_pos}
use borrow.Author.Tests.{eqb-true, eqb-false}
use Rattle.packed.proofs.LayoutLaws.{AreBytes}
use Rattle.packed_plan.specs.Plan.{plan_bytes, pad_bits, mask_in, count_in, pad_in}
use Rattle.checking.specs.Marks.{count_small}
use Rattle.checking.specs.Judged.{too_short, other_length, bits-beyond, pad-is, bits-at-end, all-passed}
use Rattle.checking.proofs.judge_plan.Goals as goal
use Rattle.checking.proofs.judge_plan.Goals.{After-last_bit, After-mask_of-mask, After-plan_bytes}
use Rattle.checking.proofs.judge_plan.Goals.{then-mask-last_bit-ne0-via-then-mask-last_bit-ne0}
use Rattle.checking.proofs.judge_plan.Goals.{then-mask-last_bit-ne0-via-else-mask-last_bit-ne0+then-not-padding_clear}

pub returns-then-plan-lt-MASK_BYTES : goal.returns-then-plan-lt-MASK_BYTES
returns-then-plan-lt-MASK_BYTES c = rw c.into.ensures (sym (too_short c.args.n c.args.plan.now c.if-plan-lt-MASK_BYTES.true))

-- Past the first test, the mask has been read.
module _ (c : After-mask_of-mask) where
  bytes : AreBytes c.args.plan.now
  bytes i = (c.type_inv.plan i).fits

  counted : ones c.mask_of-mask.result ≡ count_in c.args.plan.now
  unfolding count_in
  counted = ap ones c.mask_of-mask.ensures

  few : ones c.mask_of-mask.result ≤ 48
  few = rw counted (count_small c.args.plan.now bytes)

pub overflow_cast-starts : goal.overflow_cast-starts
overflow_cast-starts c = omega (arith, few (goal.at.overflow_cast-starts c).After-mask_of-mask)

pub plan_bytes-requires : goal.plan_bytes-requires
plan_bytes-requires c = few (goal.at.plan_bytes-requires c).After-mask_of-mask

-- The length that the mask asks for.
asked : (c : After-plan_bytes) → c.plan_bytes.result ≡ plan_bytes (count_in c.args.plan.now)
asked c = c.plan_bytes.ensures ∙ ap plan_bytes (counted (goal.at.After-plan_bytes c).After-mask_of-mask)

pub returns-then-plan-plan_bytes : goal.returns-then-plan-plan_bytes
returns-then-plan-plan_bytes c =
    let long = asked (goal.at.returns-then-plan-plan_bytes c).After-plan_bytes in
    rw c.into-then-plan-plan_bytes.ensures
    (sym (other_length c.args.n c.args.plan.now c.if-plan-lt-MASK_BYTES.false (λ e. c.if-plan-plan_bytes.true (e ∙ sym long))))

-- Past the second, the length is that, and the mask is judged.
module _ (c : After-last_bit) where
  whole : length c.args.plan.now ≡ plan_bytes (count_in c.args.plan.now)
  whole = c.if-plan-plan_bytes.false ∙ asked (goal.at.After-last_bit c).After-plan_bytes

  beyond : c.mask_of-mask.result % c.last_bit.result ≡ mask_in c.args.plan.now % 2 ^ (48 - c.args.n)
  beyond = ap₂ (λ x y. x % y) c.mask_of-mask.ensures c.last_bit.ensures

pub nonzero_rem-mask : goal.nonzero_rem-mask
nonzero_rem-mask c = rw c.last_bit.ensures (pow_pos (48 - c.args.n))

-- Where none is beyond the jobs, the padding is judged.
module _ (c : After-last_bit) where
  none : c.mask_of-mask.result % c.last_bit.result ≡ 0 → mask_in c.args.plan.now % 2 ^ (48 - c.args.n) ≡ 0
  none e = sym (beyond c) ∙ e

  clear-is : {b : Bool}
      → b ≡ eqb (get_or c.args.plan.now (length c.args.plan.now - 1) 0 % 2 ^ pad_bits (ones c.mask_of-mask.result)) 0
      → b ≡ eqb (pad_in c.args.plan.now) 0
  clear-is e =
      let plan = c.args.plan.now in
      let m = (goal.at.After-last_bit c).After-mask_of-mask in
      e
      ∙ ap (λ k. eqb (get_or plan (length plan - 1) 0 % 2 ^ pad_bits k) 0) (counted m)
      ∙ ap (λ x. eqb x 0) (sym (pad-is c.args.n plan c.if-plan-lt-MASK_BYTES.false (whole c) (bytes m)))

pub returns-then-mask-last_bit-ne0 : goal.returns-then-mask-last_bit-ne0
returns-then-mask-last_bit-ne0 c =
    let l = (goal.at.returns-then-mask-last_bit-ne0 c).After-last_bit in
    elim c.then-mask-last_bit-ne0.branch [
      | then-mask-last_bit-ne0-via-then-mask-last_bit-ne0 w ↦
          rw c.into-then-mask-last_bit-ne0.ensures
          (sym (bits-beyond c.args.n c.args.plan.now c.if-plan-lt-MASK_BYTES.false (whole l)
          (λ e. w.if-mask-last_bit-ne0.true (beyond l ∙ e))))
      | then-mask-last_bit-ne0-via-else-mask-last_bit-ne0+then-not-padding_clear w ↦
          rw c.into-then-mask-last_bit-ne0.ensures
          (sym (bits-at-end c.args.n c.args.plan.now c.if-plan-lt-MASK_BYTES.false (whole l) (none l w.if-mask-last_bit-ne0.false)
          (eqb-false (pad_in c.args.plan.now) 0 (sym (clear-is l w.padding_clear.ensures) ∙ w.if-not-padding_clear.true))))
    ]

pub returns : goal.returns
returns c =
    let l = (goal.at.returns c).After-last_bit in
    sym (all-passed c.args.n c.args.plan.now c.if-plan-lt-MASK_BYTES.false (whole l) (none l c.if-mask-last_bit-ne0.false)
    (eqb-true (pad_in c.args.plan.now) 0 (sym (clear-is l c.padding_clear.ensures) ∙ c.if-not-padding_clear.false)))
