-- Which of two points wins: the heavier, and of the same weight the one that the tie rule says.
use Rattle.std.specs.Prelude.{◌≤◌, ◌<◌, ◌≡◌, true, false, Ok}
use Rattle.std.proofs.Math.Option.{some}
use Rattle.std.proofs.Common.{arith, lt-ltb, le-ltb}
use Rattle.order.specs.Job.{Point}
use Rattle.ties.specs.Winning.{TieRule, by_points}
use Rattle.ties.specs.declared.Winner.TheVariants.{First, Second}

module _ (rule : TieRule) (p q : Point) where
  -- The first where it is heavier, the second where that is,
  pub first-wins : q.weight < p.weight → Ok First ≡ by_points rule (some p) (some q)
  first-wins h = rw (lt-ltb q.weight p.weight h)

  pub second-wins : p.weight < q.weight → Ok Second ≡ by_points rule (some p) (some q)
  second-wins h = rw (lt-ltb p.weight q.weight h, le-ltb q.weight p.weight (omega arith))

  -- and of the same weight the one that the tie rule says.
  module _ (h : p.weight ≤ q.weight) (k : q.weight ≤ p.weight) where
    pub even-first : rule p.time q.time ≡ true → Ok First ≡ by_points rule (some p) (some q)
    even-first e = rw (le-ltb q.weight p.weight h, le-ltb p.weight q.weight k, e)

    pub even-second : rule p.time q.time ≡ false → Ok Second ≡ by_points rule (some p) (some q)
    even-second e = rw (le-ltb q.weight p.weight h, le-ltb p.weight q.weight k, e)
