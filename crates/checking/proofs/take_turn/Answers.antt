-- `checking::take_turn` meets its contract: left out, its mark is tested; kept, its start is.
-- Assumes nothing.
use Prim.Native.Nat.{◌+◌}
use mathlib.Core.Path.{◌≡◌, refl, sym, ap, ap₂, subst, ◌∙◌}
use mathlib.Core.Bool.{Bool, true, false, cond, ◌&&◌}
use lib.IntN.{ℤ, pos, ◌+ℤ◌}
use lib.Signed.{le_z}
use mir.Syntax.{w32}
use mir.Val.{SFits, to_z, of_z}
use mir.Facts.{to_z-of_z}
use borrow.Author.Rules.{rules}
use Rattle.std.proofs.Common.{Option, Some, None}
use Rattle.seconds.specs.Limits.{rest}
use Rattle.seconds.specs.Ranges.{InTime}
use Rattle.fields.specs.Fields.{as_job}
use Rattle.fields.specs.Facts.{JobFacts, job-facts, JobFits, facts-fit}
use Rattle.legal.specs.Legal.{start_legal}
use Rattle.plan_bytes.specs.Asks.{start_from}
use Rattle.checking.specs.Turns.{turn_of}
use Rattle.checking.specs.TurnLaws.{start-in, turn-left, tests-are, end_fits, end-in, turn-legal, turn-not}
use Rattle.checking.specs.declared.Turn.{Turn}
use Rattle.checking.proofs.take_turn.Goals as goal
use Rattle.checking.proofs.take_turn.Goals.{After-start_at-start, Start}
use Rattle.checking.proofs.take_turn.Goals.{else-free-start-via-then-free-start+then-job-start+else-end-job}
use Rattle.checking.proofs.take_turn.Goals.{else-free-start-via-then-free-start+else-job-start, else-free-start-via-else-free-start}

module _ (s : Start) where
  facts : JobFacts s.args.job
  facts = (job-facts s.args.job).0 s.requires.within

  fitting : JobFits s.args.job
  fitting = facts-fit s.args.job facts

  abbrev goes : Bool → Option Turn
  goes b = turn_of (as_job s.args.job) b (start_from s.args.plan.now s.args.k) s.args.k s.args.free

  -- Left out.
  left : s.args.kept ≡ false → {b : Bool} → lib.Dec.eqb (of_z w32 s.args.job.critical) 1 ≡ b
      → cond b None (Some (record { next = s.args.k; free = s.args.free })) ≡ goes s.args.kept
  left e t =
      ap (λ x. cond x None (Some (record { next = s.args.k; free = s.args.free }))) (sym t)
      ∙ sym (turn-left s.args.job facts (start_from s.args.plan.now s.args.k) s.args.free s.args.k)
      ∙ sym (ap goes e)

pub returns-then-job-eq1 : goal.returns-then-job-eq1
returns-then-job-eq1 c = left (goal.at.returns-then-job-eq1 c).Start c.if-not-kept.true {b = true} (search rules)

pub returns-else-job-eq1 : goal.returns-else-job-eq1
returns-else-job-eq1 c =
    ap (λ z. Some (record { next = c.args.k; free = z })) (to_z-of_z c.ranges.free)
    ∙ left (goal.at.returns-else-job-eq1 c).Start c.if-not-kept.true {b = false} (search rules)

pub start_at-start-requires : goal.start_at-start-requires
start_at-start-requires c = c.requires.there c.if-not-kept.false

-- The start has been read.
module _ (c : After-start_at-start) where
  abbrev entry : Start
  entry = (goal.at.After-start_at-start c).Start

  abbrev start : ℤ
  start = start_from entry.args.plan.now entry.args.k

  start_is : to_z w32 (of_z w32 c.start_at-start.result) ≡ start
  start_is = to_z-of_z {w = w32} {z = c.start_at-start.result} (search rules) ∙ c.start_at-start.ensures

  sum_is : to_z w32 (of_z w32 c.start_at-start.result) +ℤ to_z w32 (of_z w32 entry.args.job.length) ≡ start +ℤ entry.args.job.length
  sum_is = ap₂ (λ x y. x +ℤ y) start_is (to_z-of_z (fitting entry).long)

  sum_fits : SFits w32 (to_z w32 (of_z w32 c.start_at-start.result) +ℤ to_z w32 (of_z w32 entry.args.job.length))
  sum_fits =
      rw sum_is (end_fits entry.args.job (facts entry) start entry.args.free (start-in entry.args.plan.now entry.args.k))

  end_back : to_z w32 (of_z w32 (to_z w32 (of_z w32 c.start_at-start.result) +ℤ to_z w32 (of_z w32 entry.args.job.length)))
      ≡ start +ℤ entry.args.job.length
  end_back = to_z-of_z sum_fits ∙ sum_is

  -- The tests that were made.
  first-is : le_z (to_z w32 (of_z w32 entry.args.free)) (to_z w32 (of_z w32 c.start_at-start.result)) ≡ le_z entry.args.free start
  first-is = ap₂ le_z (to_z-of_z entry.ranges.free) start_is

  second-is : le_z (to_z w32 (of_z w32 entry.args.job.ready)) (to_z w32 (of_z w32 c.start_at-start.result)) ≡ le_z entry.args.job.ready start
  second-is = ap₂ le_z (to_z-of_z (fitting entry).ready) start_is

  third-is : le_z (to_z w32 (of_z w32 (to_z w32 (of_z w32 c.start_at-start.result) +ℤ to_z w32 (of_z w32 entry.args.job.length))))
      (to_z w32 (of_z w32 entry.args.job.deadline)) ≡ le_z (start +ℤ entry.args.job.length) entry.args.job.deadline
  third-is = ap₂ le_z end_back (to_z-of_z (fitting entry).deadline)

  tested : {a b d : Bool} → le_z entry.args.free start ≡ a → le_z entry.args.job.ready start ≡ b
      → le_z (start +ℤ entry.args.job.length) entry.args.job.deadline ≡ d
      → start_legal (as_job entry.args.job) start entry.args.free ≡ (a && b && d)
  tested x y z =
      sym (tests-are entry.args.job (facts entry) start entry.args.free (start-in entry.args.plan.now entry.args.k))
      ∙ (λ i. x i && y i && z i)

  kept : entry.args.kept ≡ true
  kept = c.if-not-kept.false

  not-legal : start_legal (as_job entry.args.job) start entry.args.free ≡ false → None ≡ goes entry entry.args.kept
  not-legal e =
      sym (turn-not entry.args.job (facts entry) start entry.args.free (start-in entry.args.plan.now entry.args.k) entry.args.k e)
      ∙ sym (ap (goes entry) kept)

pub overflow_add-end : goal.overflow_add-end
overflow_add-end c = sum_fits (goal.at.overflow_add-end c).After-start_at-start

pub rested-requires : goal.rested-requires
rested-requires c =
    let d = (goal.at.rested-requires c).After-start_at-start in
    let job = c.args.job in
    let free = c.args.free in
    let at = start-in c.args.plan.now c.args.k in
    let legal = tested d (sym (first-is d) ∙ c.if-free-start.true) (sym (second-is d) ∙ c.if-job-start.true)
    (sym (third-is d) ∙ c.if-end-job.true) in
    subst InTime (sym (end_back d)) (end-in job (facts (entry d)) (start d) free at legal)

pub returns-then-end-job : goal.returns-then-end-job
returns-then-end-job c =
    let d = (goal.at.returns-then-end-job c).After-start_at-start in
    let job = c.args.job in
    let legal = tested d (sym (first-is d) ∙ c.if-free-start.true) (sym (second-is d) ∙ c.if-job-start.true)
    (sym (third-is d) ∙ c.if-end-job.true) in
    let fits : SFits w32 c.rested.result = search rules in
    let free : to_z w32 (of_z w32 c.rested.result) ≡ (start d +ℤ job.length) +ℤ pos rest =
    to_z-of_z fits ∙ c.rested.ensures ∙ ap (λ (z : ℤ). z +ℤ pos rest) (end_back d) in
    ap (λ z. Some (record { next = c.args.k + 1; free = z })) free
    ∙ sym (turn-legal job (facts (entry d)) (start d) c.args.free (start-in c.args.plan.now c.args.k) c.args.k legal)
    ∙ sym (ap (goes (entry d)) (kept d))

pub returns : goal.returns
returns c =
    let d = (goal.at.returns c).After-start_at-start in
    elim c.else-free-start.branch [
      | else-free-start-via-then-free-start+then-job-start+else-end-job w ↦
          not-legal d (tested d (sym (first-is d) ∙ w.if-free-start.true) (sym (second-is d) ∙ w.if-job-start.true)
          (sym (third-is d) ∙ w.if-end-job.false))
      | else-free-start-via-then-free-start+else-job-start w ↦
          not-legal d (tested d (sym (first-is d) ∙ w.if-free-start.true) (sym (second-is d) ∙ w.if-job-start.false) refl)
      | else-free-start-via-else-free-start w ↦
          not-legal d (tested d (sym (first-is d) ∙ w.if-free-start.false) refl refl)
    ]
