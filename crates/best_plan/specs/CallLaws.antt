-- Best stage by stage, as the code goes through it: each refusal, the verdict by legality and by weight, and what is left when all
-- checks are passed.
use Rattle.std.specs.Prelude.{ℕ, ◌≤◌, ◌<◌, ◌≡◌, Bool, true, false, ◌&&◌, List, ℤ, length, drop, Ok, Err}
use Rattle.std.proofs.Common.{sym, ap, ◌∙◌, lt-ltb, le-ltb}
use Rattle.std.proofs.Math.Option.{Option}
use Rattle.seconds.specs.Limits.{latest_free}
use Rattle.profile.specs.Profile.{worth, order_profile}
use Rattle.packed.specs.declared.Refusal.{Refusal}
use Rattle.packed.specs.Judge.{plainly, fine, refused, judge}
use Rattle.packed.specs.Packed.{count_of, order_of}
use Rattle.packed.specs.Refusals.{header_checks, room_checks}
use Rattle.packed.proofs.Accepted.{order-within}
use Rattle.packed.proofs.RefusalLaws.{header-fine}
use Rattle.packed_plan.specs.Plan.{mask_bytes, mask_in, kept_in}
use Rattle.judge.specs.Told.{stays, told-next}
use Rattle.legal.specs.Legal.{weight_kept, is_best}
use Rattle.area.specs.Area.{area, cleared}
use Rattle.area.specs.Clearing.{cleared-same}
use Rattle.weighing.specs.Weighing.{CanWeigh}
use Rattle.checking.specs.Calls.{legal_checks, legal_in}
use Rattle.checking.specs.CallLaws.{order-passed, order-accepted, plan-accepted}
use Rattle.best_plan.specs.Calls.{best_checks, best_verdict, best_in, BestCall}
use Rattle.best_plan.specs.Weights.{weight_under, CanSum, not_above, CanWeighPlan, most_in}
use Rattle.best_plan.specs.Most.{most-told}

-- ---- by weight

module _ {order plan : List ℕ} {work : List ℤ} (can : CanWeighPlan order plan work) where
  -- There is a header to read,
  pub header-there : 4 ≤ length order
  header-there = (order-accepted order plan can.accepted).header.long

  -- which is accepted,
  pub header-passed : judge (header_checks order) ≡ fine
  header-passed = (header-fine order).1 (order-accepted order plan can.accepted).header

  -- there is a mask,
  pub mask-there : mask_bytes ≤ length plan
  mask-there = (plan-accepted order plan can.accepted).long

  -- and the order can be weighed.
  pub can-weigh : CanWeigh order work
  can-weigh = record { accepted = order-passed order plan can.accepted; room = can.room }

  module _ {bytes : List ℕ} {n : ℕ} (same : bytes ≡ order) (counted : n ≡ count_of bytes) where
    of-order : n ≡ count_of order
    of-order = counted ∙ ap count_of same

    -- The weight that the plan keeps can be summed,
    pub can-sum : CanSum bytes n
    can-sum = rw same (record { order = order-accepted order plan can.accepted; count = of-order })

    kept-is : {mask : ℕ} → mask ≡ mask_in plan
        → weight_under bytes n mask ≡ weight_kept (order_of order) (kept_in (count_of order) plan)
    unfolding order_of kept_in
    kept-is m = rw (same, m, of-order)

    -- and the greatest weight found decides.
    pub most-weighed : {mask kept : ℕ} {most : Option ℕ} {r : Bool} → mask ≡ mask_in plan
        → kept ≡ weight_under bytes n mask → most ≡ worth (order_profile (order_of order)) latest_free → r ≡ not_above most kept
        → r ≡ most_in order plan
    most-weighed m k w e =
        rw (e, w, k, kept-is m)
        (sym (most-told (order_of order) (order-within order (order-passed order plan can.accepted))
        (weight_kept (order_of order) (kept_in (count_of order) plan))))

-- ---- by legality

-- A plan that is not legal is not best,
pub not-legal : (order plan : List ℕ) {legal : Bool} → legal ≡ legal_in order plan → legal ≡ false
    → false ≡ best_in order plan
unfolding is_best
not-legal order plan e f = ap (λ (b : Bool). b && most_in order plan) (sym f ∙ e)

-- and one that is legal is best if none keeps more.
pub legal-then : (order plan : List ℕ) {legal most : Bool} → legal ≡ legal_in order plan → legal ≡ true
    → most ≡ most_in order plan → most ≡ best_in order plan
unfolding is_best
legal-then order plan e t m = m ∙ ap (λ (b : Bool). b && most_in order plan) (sym t ∙ e)

-- ---- the call

module _ (order plan : List ℕ) (work : List ℤ) where
  -- A refusal leaves the work area as it was.
  by-verdict : {r : Refusal} → best_verdict order plan work ≡ refused r → BestCall order plan work (Err r) work
  by-verdict e = record { answer = rw e; area = rw e }

  -- By the checks of order and plan,
  pub best-stopped : {r : Refusal} → judge (legal_checks order plan) ≡ refused r → BestCall order plan work (Err r) work
  unfolding best_checks
  best-stopped e = by-verdict (stays (legal_checks order plan) (room_checks area (length work)) e)

  module _ (passed : judge (legal_checks order plan) ≡ fine) where
    room-told : best_verdict order plan work ≡ judge (room_checks area (length work))
    unfolding best_checks
    room-told = told-next (legal_checks order plan) (room_checks area (length work)) passed

    -- or by the work area.
    pub no_room : length work < area → BestCall order plan work (Err (plainly 10)) work
    no_room h = by-verdict {r = plainly 10} (room-told ∙ rw (lt-ltb (length work) area h))

    -- Past all of them the verdict is told, and the work area cleared.
    pub best-told : {yes : Bool} {end : List ℤ} (left : List ℤ) → area ≤ length work → yes ≡ best_in order plan
        → drop area left ≡ drop area work → end ≡ cleared left → BestCall order plan work (Ok yes) end
    best-told left h e past c =
        let fit : best_verdict order plan work ≡ fine = room-told ∙ rw (le-ltb (length work) area h) in
        record { answer = rw fit (ap (λ (b : Bool). Ok b) e); area = rw fit (c ∙ cleared-same work left past) }
