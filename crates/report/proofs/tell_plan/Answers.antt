-- `report::tell_plan` meets its contract: the plan's line, and behind it the jobs' lines.
-- Assumes nothing.
use Prim.Native.Nat.{◌*◌}
use native.Mathlib.Omega.{arith}
use mathlib.Core.Path.{◌≡◌, sym, ap, subst, ◌∙◌}
use Rattle.packed.specs.Packed.{count_of}
use Rattle.packed.proofs.RefusalLaws.{header-fine}
use Rattle.packed.proofs.Accepted.{OrderFine}
use borrow.Author.Rules.{rules}
use Rattle.text.specs.Buffer.{Wrote}
use Rattle.text.specs.Writing.{Writes}
use Rattle.text.specs.WritingLaws.{writes-more}
use Rattle.report.specs.Report.{report_of}
use Rattle.report.specs.Telling.{plan-told}
use Rattle.report.specs.Writing.{listed}
use Rattle.report.proofs.tell_plan.Goals as goal
use Rattle.report.proofs.tell_plan.Goals.{After-records_in}

pub records_in-requires : goal.records_in-requires
records_in-requires c = (header-fine c.args.bytes.now).1 c.requires.order.header

-- The records are those of all jobs.
counted : (c : After-records_in) → c.records_in.result.count ≡ count_of c.args.bytes.now
counted c = c.records_in.result.stand.counted ∙ ap count_of c.records_in.ensures

pub put_jobs-requires : goal.put_jobs-requires
put_jobs-requires c =
    let all = counted (goal.at.put_jobs-requires c).After-records_in in
    let asked = c.requires in
    record {
      order = subst OrderFine (sym c.records_in.ensures) asked.order;
      count = c.records_in.result.stand.counted;
      places = omega (arith, all, asked.places);
      room = omega (arith, all, asked.order.header.few, asked.room, c.put_plan.ensures.few, c.put_plan.ensures.wrote.kept);
    }

pub returns : goal.returns
returns c =
    let n = c.records_in.result.count in
    let lines : Writes (listed c.args.bytes.now c.args.starts.now n) (23 * n) c.put_plan.new.text c.put_jobs.new.text =
    subst (λ b. Writes (listed b c.args.starts.now n) (23 * n) c.put_plan.new.text c.put_jobs.new.text) c.records_in.ensures
    c.put_jobs.ensures in
    let all = writes-more c.put_plan.ensures lines in
    let told : Wrote c.args.out.now 0 (report_of c.args.bytes.now) c.put_jobs.new.text.out.now c.put_jobs.new.text.at =
    rw (plan-told c.args.bytes.now c.args.figures c.args.starts.now c.args.out.now c.requires, ← (counted (goal.at.returns c).After-records_in)) all.wrote in
    let same = all.same in
    search rules
