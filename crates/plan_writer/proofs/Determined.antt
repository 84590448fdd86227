-- The contract of writing determines its answer and both lent buffers at exit, for every input.
use Prim.Native.Nat.{ℕ}
use mathlib.Core.List.{List}
use contract.Lifetimes.{Lfts}
use lib.IntN.{ℤ}
use Rattle.seconds.specs.Determined.{Determines, determined, three}
use Rattle.plan_writer.specs.Calls.{Written, written_of, out_after, write_work_after}
use Rattle.plan_writer.proofs.write_plan.Reads as write-plan

pub write-plan-determined : (κs : Lfts 3)
    → Determines {Z = Written × List ℕ × List ℤ} (write-plan.Post κs) (λ r x. (r, x.1.0.now, x.1.1.0.now))
write-plan-determined κs =
    determined (write-plan.Post κs) (λ r x. (r, x.1.0.now, x.1.1.0.now))
    (λ a. (
      written_of a.0.now a.1.0.now a.1.1.0.now,
      out_after a.0.now a.1.0.now a.1.1.0.now,
      write_work_after a.0.now a.1.0.now a.1.1.0.now,
    ))
    (λ a r x h. three h.answer h.written h.area)
