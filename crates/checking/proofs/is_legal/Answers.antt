-- `checking::is_legal` meets its contract: the turns of all jobs tell whether the plan is legal.
-- Assumes nothing.
use Prim.Native.Nat.{◌*◌, ◌^◌}
use mathlib.Core.Path.{◌≡◌, sym, ap, subst, ◌∙◌}
use native.Mathlib.Omega.{arith}
use mir.Syntax.{w32}
use mir.Val.{SFits, to_z, of_z}
use mir.Facts.{to_z-of_z}
use Rattle.seconds.specs.RangesLaws.{time-fits}
use Rattle.std.specs.Int.Count.{ones}
use Rattle.packed.specs.Packed.{count_of, jobs_in}
use Rattle.packed.specs.Places.{each_of}
use Rattle.packed.proofs.LayoutLaws.{AreBytes}
use Rattle.packed.proofs.RefusalLaws.{header-fine}
use Rattle.packed_plan.specs.Plan.{mask_in}
use Rattle.fields.specs.Facts.{HeaderRead, header_read}
use Rattle.plan_bytes.specs.Asks.{start_from}
use Rattle.legal.specs.Legal.{legal_from}
use Rattle.checking.specs.Turns.{kept_by, CanGo}
use Rattle.checking.specs.Marks.{raised-fits}
use Rattle.checking.specs.CallLaws.{order-accepted, plan-accepted, can-go, turns-tell}
use Rattle.checking.proofs.is_legal.Goals as goal
use Rattle.checking.proofs.is_legal.Goals.{After-header_at-header, After-mask_of-mask, After-records_in}

pub header_at-header-requires : goal.header_at-header-requires
header_at-header-requires c = (order-accepted c.args.order.now c.args.plan.now c.requires).header.long

-- The header that was read is the order's, and the plan has bytes.
module _ (c : After-header_at-header) where
  bytes : AreBytes c.args.plan.now
  bytes i = (c.type_inv.plan i).fits

  read : HeaderRead c.args.order.now c.header_at-header.result
  read = header_read c.args.order.now c.header_at-header.result c.header_at-header.ensures

  begins : SFits w32 c.header_at-header.result.t0
  begins = rw read.t0 (time-fits (order-accepted c.args.order.now c.args.plan.now c.requires).header.timely)

pub mask_of-mask-requires : goal.mask_of-mask-requires
mask_of-mask-requires c = (plan-accepted c.args.order.now c.args.plan.now c.requires).long

-- The mask that was read, raised.
raised : (c : After-mask_of-mask) → c.mask_of-mask.result * 65536 ≡ mask_in c.args.plan.now * 2 ^ 16
raised c = ap (λ x. x * 65536) c.mask_of-mask.ensures

pub overflow_mul-mask : goal.overflow_mul-mask
overflow_mul-mask c = omega (arith, raised c, raised-fits c.args.plan.now (bytes (goal.at.overflow_mul-mask c).After-header_at-header))

pub records_in-requires : goal.records_in-requires
records_in-requires c = (header-fine c.args.order.now).1 (order-accepted c.args.order.now c.args.plan.now c.requires).header

-- The records are those of all jobs.
counted : (c : After-records_in) → c.records_in.result.count ≡ count_of c.args.order.now
counted c = c.records_in.result.stand.counted ∙ ap count_of c.records_in.ensures

pub all_turns-requires : goal.all_turns-requires
all_turns-requires c =
    let h = (goal.at.all_turns-requires c).After-header_at-header in
    subst (λ b. CanGo b c.records_in.result.count (c.mask_of-mask.result * 65536) c.args.plan.now) (sym c.records_in.ensures)
    (can-go c.args.order.now c.args.plan.now c.requires (bytes h) c.records_in.result.count (c.mask_of-mask.result * 65536)
    (counted (goal.at.all_turns-requires c).After-records_in) (raised (goal.at.all_turns-requires c).After-mask_of-mask))

pub returns : goal.returns
returns c =
    let h = (goal.at.returns c).After-header_at-header in
    c.all_turns.ensures
    ∙ ap (λ b. legal_from (jobs_in b) (kept_by c.records_in.result.count (c.mask_of-mask.result * 65536))
    (each_of (start_from c.args.plan.now) 0 (ones (c.mask_of-mask.result * 65536))) (to_z w32 (of_z w32 c.header_at-header.result.t0)))
    c.records_in.ensures
    ∙ turns-tell c.args.order.now c.args.plan.now c.requires (bytes h) c.records_in.result.count (c.mask_of-mask.result * 65536)
    (counted (goal.at.returns c).After-records_in) (raised (goal.at.returns c).After-mask_of-mask) (to_z-of_z (begins h) ∙ (read h).t0)
