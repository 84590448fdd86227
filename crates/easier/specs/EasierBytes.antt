-- Two packed orders of which the new one is easier (R51), by the numbers that unpacking tells of their jobs. Definitions only.
use Rattle.std.specs.Prelude.{ℕ, ◌<◌, ◌≡◌, List, ℤ, ◌≤ℤ◌}
use Rattle.packed.specs.Judge.{fine, judge}
use Rattle.packed.specs.Packed.{the_mark, the_weight, the_ready, the_length, the_deadline, count_of, t0_of, numbers_of, fields_at}
use Rattle.packed.specs.Refusals.{order_checks}

-- The numbers of a job: mark and weight unchanged, ready no later, no longer, due no earlier. Number and pack are not compared.
pub record EasierFields (new old : List ℤ) : Type 0 where
  pub mark : the_mark new ≡ the_mark old
  pub weight : the_weight new ≡ the_weight old
  pub ready : the_ready new ≤ℤ the_ready old
  pub long : the_length new ≤ℤ the_length old
  pub deadline : the_deadline old ≤ℤ the_deadline new

-- Both orders are accepted, with as many jobs; the bus is free no later, and job by job the new one is easier.
pub record EasierBytes (new old : List ℕ) : Type 0 where
  pub new-accepted : judge (order_checks new) ≡ fine
  pub old-accepted : judge (order_checks old) ≡ fine
  pub as_many : count_of new ≡ count_of old
  pub t0 : t0_of new ≤ℤ t0_of old
  pub jobs : (k : ℕ) → k < count_of old → EasierFields (fields_at (numbers_of new) k) (fields_at (numbers_of old) k)
