-- The two calls that write a profile, each with any outcome that its generated contract allows, where there is room: its
-- arguments in sequence, its answer, and its parameters at exit. Definitions only.
use Rattle.std.specs.Prelude.{ℕ, ◌*◌, ◌≤◌, ◌≡◌, List, ℤ, length, take, Ok}
use contract.Lifetimes.{Lfts}
use denote.Triple.Clauses.{AtExit}
use denote.Triple.Entry.{Args}
use Rattle.profiles.specs.Numbers.{most_numbers}
use Rattle.better.specs.Answer.{Joined, points_written as points_joined}
use Rattle.better.specs.contracts.better_of as better-of
use Rattle.better.proofs.better_of.Reads as better-of-reads
use Rattle.area.specs.Area.{area}
use Rattle.extending.specs.Calls.{Extended, points_written}
use Rattle.extending.specs.contracts.extend as extend
use Rattle.extending.proofs.extend.Reads as extend-reads

-- ---- extending

-- A call that extends the profile P by the packed order A; it is also lent numbers to write to, and the work area.
pub record Extending (P : List ℤ) (A : List ℕ) : Type 0 where
  pub κs : Lfts 4
  pub args : Args extend.signature κs
  pub answer : Extended
  pub exit : AtExit extend.ended κs
  pub allowed : extend-reads.Post κs args answer exit
  pub profile : args.0.now ≡ P
  pub order : args.1.0.now ≡ A
  pub room : most_numbers ≤ length args.1.1.0.now
  pub work-room : area ≤ length args.1.1.1.0.now

module _ {P : List ℤ} {A : List ℕ} (e : Extending P A) where
  -- It is accepted: it answers with a number of points.
  abbrev pub Accepted : Type 0
  Accepted = e.answer ≡ Ok (points_written e.answer)

  -- The numbers lent to write to, and those numbers at exit.
  abbrev pub lent : List ℤ
  lent = e.args.1.1.0.now

  abbrev pub left : List ℤ
  left = e.exit.1.1.0.now

  -- The profile that it wrote, two numbers for each point.
  abbrev pub extended : List ℤ
  extended = take (2 * points_written e.answer) left

-- ---- better-of

-- A call of better-of on the profiles P and Q; it is also lent numbers to write to.
pub record BetterOf (P Q : List ℤ) : Type 0 where
  pub κs : Lfts 3
  pub args : Args better-of.signature κs
  pub answer : Joined
  pub exit : AtExit better-of.ended κs
  pub allowed : better-of-reads.Post κs args answer exit
  pub first : args.0.now ≡ P
  pub second : args.1.0.now ≡ Q
  pub room : most_numbers ≤ length args.1.1.0.now

module _ {P Q : List ℤ} (b : BetterOf P Q) where
  -- It is accepted: it answers with a number of points.
  abbrev pub BetterAccepted : Type 0
  BetterAccepted = b.answer ≡ Ok (points_joined b.answer)

  -- The numbers lent to write to, and those numbers at exit.
  abbrev pub lent_better : List ℤ
  lent_better = b.args.1.1.0.now

  abbrev pub left_better : List ℤ
  left_better = b.exit.1.1.0.now

  -- The profile that it wrote, two numbers for each point.
  abbrev pub better : List ℤ
  better = take (2 * points_joined b.answer) left_better
