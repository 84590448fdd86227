-- The contract of who wins determines its answer, for every tie and every two points.
use contract.Lifetimes.{Lfts}
use Rattle.seconds.specs.Determined.{Determines, determined}
use Rattle.reading.specs.Reading.{point_in}
use Rattle.ties.specs.Winning.{Chosen, by_points, rule_of}
use Rattle.ties.proofs.decide.Reads as decide

pub winner-determined : (κs : Lfts 0) → Determines {Z = Chosen} (decide.Post κs) (λ r x. r)
winner-determined κs =
    determined (decide.Post κs) (λ r x. r) (λ a. by_points (rule_of a.0) (point_in a.1.0) (point_in a.1.1.0))
    (λ a r x h. h)
