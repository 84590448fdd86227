-- R38 and R39 at two jobs, as computed facts: each condition on both sides by one second, and idle time, which is legal and best.
use Rattle.std.specs.Prelude.{◌≡◌, refl, Bool, true, false, List, [], ◌∷◌, map, ℤ, pos, negsuc}
use Rattle.seconds.specs.Limits.{rest}
use Rattle.order.specs.Job.{Order, one_rate}
use Rattle.legal.specs.Legal.{is_legal, is_best}

-- The bus is free at 0. A critical job of 10 seconds, ready at once and due by 20; one of weight 5, ready at 30, of 10 seconds and due
-- by 50; one of weight 4 that may run in its place.
abbrev morning : Order
morning =
    record {
      t0 = pos 0;
      jobs = one_rate 1 true 0 (negsuc 99) 10 (pos 20) ∷ one_rate 2 false 5 (pos 30) 10 (pos 50) ∷ one_rate 3 false 4 (pos 0) 10 (pos 50) ∷ [];
    }

-- A plan: which jobs are kept, and the start of each.
pub record Sent : Type 0 where
  pub kept : List Bool
  pub starts : List ℤ

abbrev first_two : ℤ → ℤ → Sent
first_two s t = record { kept = true ∷ true ∷ false ∷ []; starts = s ∷ t ∷ [] }

abbrev first_and_last : ℤ → ℤ → Sent
first_and_last s t = record { kept = true ∷ false ∷ true ∷ []; starts = s ∷ t ∷ [] }

abbrev legals : List Sent → List Bool
legals = map (λ (p : Sent). is_legal morning p.kept p.starts)

-- Not before the bus is free, nor before the job is ready, nor a second into the rest, nor a second past the deadline, which binds
-- the finish and not the rest behind it;
pub by-a-second : legals (
    first_two (pos 0) (pos 30) ∷ first_two (negsuc 0) (pos 30)
    ∷ first_two (pos 0) (pos 29)
    ∷ first_and_last (pos 10) (pos 35) ∷ first_and_last (pos 10) (pos 34)
    ∷ first_two (pos 0) (pos 40) ∷ first_two (pos 0) (pos 41)
    ∷ [])
    ≡ true ∷ false ∷ false ∷ true ∷ false ∷ true ∷ false ∷ []
unfolding is_legal rest
by-a-second = refl

-- and never without the critical job.
pub critical-kept : legals (
    record { kept = false ∷ true ∷ false ∷ []; starts = pos 30 ∷ [] } ∷ record { kept = true ∷ false ∷ false ∷ []; starts = pos 0 ∷ [] } ∷ [])
    ≡ false ∷ true ∷ []
unfolding is_legal rest
critical-kept = refl

-- Best is the heavier job in place of the lighter, at its own starts or with idle time; and nothing that is not legal.
pub most-weight : map (λ (p : Sent). is_best morning p.kept p.starts) (
    first_two (pos 0) (pos 30) ∷ first_two (pos 5) (pos 40) ∷ first_and_last (pos 0) (pos 25) ∷ first_two (pos 0) (pos 41) ∷ [])
    ≡ true ∷ true ∷ false ∷ false ∷ []
unfolding is_best is_legal rest
most-weight = refl
