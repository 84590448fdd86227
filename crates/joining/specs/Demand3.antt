-- R16 over the calls, demand 3 as it is said: extending by A and then by B is extending by A joined with B, and extending the
-- better of P and Q is the better of the two extended. Definitions only.
use Rattle.std.specs.Prelude.{ℕ, ◌≡◌, List, ◌++◌, ℤ}
use Rattle.order.specs.Job.{joined}
use Rattle.packed.specs.Judge.{fine, judge}
use Rattle.packed.specs.Packed.{t0_of, numbers_of, order_of, pack_order}
use Rattle.packed.specs.Refusals.{header_checks, order_checks, number_checks}
use Rattle.better.specs.Answer.{points_written as points_joined}
use Rattle.extending.specs.Calls.{points_written}
use Rattle.joining.specs.Calls.{Extending, Accepted, lent, left, extended}
use Rattle.joining.specs.Calls.{BetterOf, BetterAccepted, lent_better, left_better, better}

-- ---- joined orders

-- A and B are packed orders, and J says the one joined with the other.
pub record Joins (A B J : List ℕ) : Type 0 where
  pub first : judge (order_checks A) ≡ fine
  pub second : judge (order_checks B) ≡ fine
  pub both : order_of J ≡ joined (order_of A) (order_of B)

-- Two orders joined, as bytes: the numbers of both unpacked orders, one behind the other, packed again with the first's
-- bus-free time.
abbrev pub joined_bytes : List ℕ → List ℕ → List ℕ
joined_bytes A B = pack_order (t0_of A) (numbers_of A ++ numbers_of B)

-- Two packed orders, by refusals 1 to 5 and 19, of like or unlike kinds, whose numbers, one behind the other, packing accepts.
pub record Joinable (A B : List ℕ) : Type 0 where
  pub first : judge (header_checks A) ≡ fine
  pub second : judge (header_checks B) ≡ fine
  pub packs : judge (number_checks (t0_of A) (numbers_of A ++ numbers_of B)) ≡ fine

-- ---- both equations, each call accepted

-- Extending by A and then by B is extending by J: the same answer, and the same numbers written; lent the same numbers, both
-- leave the same.
pub record OneByOne {P : List ℤ} {A B J : List ℕ}
    (by-A : Extending P A) (then-B : Extending (extended by-A) B) (by-J : Extending P J) : Type 0 where
  pub A-accepted : Accepted by-A
  pub B-accepted : Accepted then-B
  pub J-accepted : Accepted by-J
  pub answers : then-B.answer ≡ by-J.answer
  pub writes : extended then-B ≡ extended by-J
  pub leaves : lent then-B ≡ lent by-J → left then-B ≡ left by-J

-- Extending the better of P and Q is the better of P and Q extended: as many points, and the same numbers written; lent the
-- same numbers, both leave the same.
pub record BetterFirst {P Q : List ℤ} {A : List ℕ}
    (of-PQ : BetterOf P Q) (better-by-A : Extending (better of-PQ) A)
    (P-by-A : Extending P A) (Q-by-A : Extending Q A) (of-both : BetterOf (extended P-by-A) (extended Q-by-A)) : Type 0 where
  pub PQ-accepted : BetterAccepted of-PQ
  pub better-accepted : Accepted better-by-A
  pub P-accepted : Accepted P-by-A
  pub Q-accepted : Accepted Q-by-A
  pub both-accepted : BetterAccepted of-both
  pub points : points_written better-by-A.answer ≡ points_joined of-both.answer
  pub writes : extended better-by-A ≡ better of-both
  pub leaves : lent better-by-A ≡ lent_better of-both → left better-by-A ≡ left_better of-both

-- ---- the demand

-- The calls that it speaks of, each with any outcome: P and Q, each extended by A, then by B, and by A joined with B; the better
-- of P and Q, extended by A; the better of P and Q extended.
pub record Calls (P Q : List ℤ) (A B J : List ℕ) : Type 0 where
  pub P-by-A : Extending P A
  pub P-then-B : Extending (extended P-by-A) B
  pub P-by-J : Extending P J
  pub Q-by-A : Extending Q A
  pub Q-then-B : Extending (extended Q-by-A) B
  pub Q-by-J : Extending Q J
  pub of-PQ : BetterOf P Q
  pub better-by-A : Extending (better of-PQ) A
  pub of-both : BetterOf (extended P-by-A) (extended Q-by-A)

-- Each of them is accepted, and both equations hold, the first of P and of Q.
pub record BothWays {P Q : List ℤ} {A B J : List ℕ} (c : Calls P Q A B J) : Type 0 where
  pub one_by_one : OneByOne c.P-by-A c.P-then-B c.P-by-J
  pub one-by-one-Q : OneByOne c.Q-by-A c.Q-then-B c.Q-by-J
  pub better-first : BetterFirst c.of-PQ c.better-by-A c.P-by-A c.Q-by-A c.of-both

-- For all profiles P and Q and orders A and B whose joining J is accepted after P and after Q. A call that accepts has been
-- given a valid profile, maybe an empty one.
abbrev pub Demand3 : Type 0
Demand3 =
    (P Q : List ℤ) (A B J : List ℕ) → Joins A B J → (c : Calls P Q A B J) → Accepted c.P-by-J → Accepted c.Q-by-J → BothWays c
