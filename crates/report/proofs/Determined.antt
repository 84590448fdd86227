-- The contracts of reporting determine the length that is handed back and the lent bytes at exit, for every input.
use Prim.Native.Nat.{ℕ}
use mathlib.Core.List.{List, ◌++◌}
use contract.Lifetimes.{Lfts}
use lib.ListN.{length, take, drop}
use Rattle.seconds.specs.Determined.{Determines, determined, two}
use Rattle.report.specs.Report.{printed}
use Rattle.report.proofs.report.Reads as report
use Rattle.report.proofs.report_read.Reads as report_read

-- What is handed back and what the buffer holds, for bytes and a buffer.
abbrev told : List ℕ → List ℕ → ℕ × List ℕ
told bytes out = let text = printed bytes out in (length text, text ++ drop (length text) out)

pub report-determined : (κs : Lfts 2) → Determines {Z = ℕ × List ℕ} (report.Post κs) (λ r x. (r, x.1.0.now))
report-determined κs =
    determined (report.Post κs) (λ r x. (r, x.1.0.now))
    (λ a. told a.0.now a.1.0.now)
    (λ a r x h. two h.count h.text)

pub report-read-determined : (κs : Lfts 2)
    → Determines {Z = ℕ × List ℕ} (report_read.Post κs) (λ r x. (r, x.1.1.0.now))
report-read-determined κs =
    determined (report_read.Post κs) (λ r x. (r, x.1.1.0.now))
    (λ a. told (take a.1.0 a.0.now) a.1.1.0.now)
    (λ a r x h. two h.count h.text)
