-- The contract of the question by a tie determines its answer and the lent work area at exit, for every input.
use mathlib.Core.List.{List}
use contract.Lifetimes.{Lfts}
use lib.IntN.{ℤ}
use Rattle.seconds.specs.Determined.{Determines, determined, two}
use Rattle.ties.specs.Winning.{Chosen, rule_of}
use Rattle.choosing.specs.Choosing.{chosen_of, work_after}
use Rattle.choosing.proofs.ask.Reads as ask

pub ask-determined : (κs : Lfts 3) → Determines {Z = Chosen × List ℤ} (ask.Post κs) (λ r x. (r, x.1.1.1.1.0.now))
ask-determined κs =
    determined (ask.Post κs) (λ r x. (r, x.1.1.1.1.0.now))
    (λ a. (
      chosen_of (rule_of a.0) a.1.0.now a.1.1.0.now a.1.1.1.0 a.1.1.1.1.0.now,
      work_after (rule_of a.0) a.1.0.now a.1.1.0.now a.1.1.1.0 a.1.1.1.1.0.now,
    ))
    (λ a r x h. two h.answer h.area)
