-- The contracts of Legal and of the checks before it determine their answers, for every input. They are lent nothing that they could
-- write.
use contract.Lifetimes.{Lfts}
use Rattle.seconds.specs.Determined.{Determines, determined}
use Rattle.packed.specs.Judge.{Verdict, judge}
use Rattle.checking.specs.Calls.{Checked, legal_checks, legal_of}
use Rattle.checking.proofs.judge_sent.Reads as judge-sent
use Rattle.checking.proofs.legal.Reads as legal

pub judge-sent-determined : (κs : Lfts 2) → Determines {Z = Verdict} (judge-sent.Post κs) (λ r x. r)
judge-sent-determined κs =
    determined (judge-sent.Post κs) (λ r x. r) (λ a. judge (legal_checks a.0.now a.1.0.now)) (λ a r x h. h)

pub legal-determined : (κs : Lfts 2) → Determines {Z = Checked} (legal.Post κs) (λ r x. r)
legal-determined κs = determined (legal.Post κs) (λ r x. r) (λ a. legal_of a.0.now a.1.0.now) (λ a r x h. h)
