-- `planner::make_plan` meets its contract: with the mask come the starts and the figures. Assumes nothing.
use native.Mathlib.Omega.{arith}
use mathlib.Core.Path.{◌≡◌, sym, ap, subst, ◌∙◌}
use mir.Syntax.{w32}
use mir.Val.{SFits, to_z, of_z}
use mir.Facts.{to_z-of_z}
use borrow.Author.Rules.{rules}
use Rattle.seconds.specs.RangesLaws.{time-fits}
use Rattle.packed.specs.Packed.{count_of}
use Rattle.packed.proofs.RefusalLaws.{header-fine}
use Rattle.starting.specs.Picks.{WritesStarts}
use Rattle.starting.specs.Picks.{starts_written}
use Rattle.planner.specs.PlanningLaws.{weight-light, total-light, points-light, can_write, plan-made}
use Rattle.planner.proofs.make_plan.Goals as goal
use Rattle.planner.proofs.make_plan.Goals.{After-records_in, Start}

-- The header's time, as the code reads it back.
t0-back : (s : Start) → to_z w32 (of_z w32 s.args.header.t0) ≡ s.args.header.t0
t0-back s =
    let fits : SFits w32 s.args.header.t0 = rw s.requires.read.t0 (time-fits s.requires.order.header.timely) in
    to_z-of_z fits

pub records_in-requires : goal.records_in-requires
records_in-requires c = (header-fine c.args.bytes.now).1 c.requires.order.header

-- The records are the order's.
counted : (c : After-records_in) → c.records_in.result.count ≡ c.args.header.count
counted c = c.records_in.result.stand.counted ∙ ap count_of c.records_in.ensures ∙ sym c.requires.read.count

pub write_starts-requires : goal.write_starts-requires
write_starts-requires c =
    let r : After-records_in = (goal.at.write_starts-requires c).After-records_in in
    rw (t0-back (goal.at.write_starts-requires c).Start)
    (subst (λ b. WritesStarts b c.records_in.result.count c.args.header.t0 c.args.mask c.args.starts.now) (sym c.records_in.ensures)
    (subst (λ n. WritesStarts c.args.bytes.now n c.args.header.t0 c.args.mask c.args.starts.now) (sym (counted r)) (can_write c.requires)))

pub overflow_cast-result : goal.overflow_cast-result
overflow_cast-result c = omega (arith, weight-light c.requires, total-light c.requires)

pub overflow_sub-result : goal.overflow_sub-result
overflow_sub-result c = omega (arith, weight-light c.requires)

pub overflow_cast-result-2 : goal.overflow_cast-result-2
overflow_cast-result-2 c = omega (arith, weight-light c.requires, total-light c.requires)

pub overflow_cast-result-3 : goal.overflow_cast-result-3
overflow_cast-result-3 c = omega (arith, points-light c.requires)

pub returns : goal.returns
returns c =
    let s = (goal.at.returns c).Start in
    let r : After-records_in = (goal.at.returns c).After-records_in in
    let written = subst (λ n. c.write_starts.new.starts ≡ starts_written c.args.bytes.now n c.args.header.t0 c.args.mask c.args.starts.now) (counted r)
    (subst (λ b. c.write_starts.new.starts ≡ starts_written b c.records_in.result.count c.args.header.t0 c.args.mask c.args.starts.now)
    c.records_in.ensures (rw (t0-back s) at c.write_starts.ensures)) in
    let finish : SFits w32 c.args.end.time = search rules in
    rw (to_z-of_z finish)
    (plan-made c.requires c.kept_of.result _ c.kept_of.ensures written)
