-- The contract of extending determines its answer and both lent buffers at exit, for every input.
use mathlib.Core.List.{List}
use contract.Lifetimes.{Lfts}
use lib.IntN.{ℤ}
use Rattle.seconds.specs.Determined.{Determines, determined, three}
use Rattle.extending.specs.Calls.{Extended, extended_of, out_after, extend_work_after}
use Rattle.extending.proofs.extend.Reads as extend

pub extend-determined : (κs : Lfts 4)
    → Determines {Z = Extended × List ℤ × List ℤ} (extend.Post κs) (λ r x. (r, x.1.1.0.now, x.1.1.1.0.now))
extend-determined κs =
    determined (extend.Post κs) (λ r x. (r, x.1.1.0.now, x.1.1.1.0.now))
    (λ a. (
      extended_of a.0.now a.1.0.now a.1.1.0.now a.1.1.1.0.now,
      out_after a.0.now a.1.0.now a.1.1.0.now a.1.1.1.0.now,
      extend_work_after a.0.now a.1.0.now a.1.1.0.now a.1.1.1.0.now,
    ))
    (λ a r x h. three h.answer h.written h.area)
