-- `repeating::judge_given` meets its contract: the tests are those of the checks, one after the other, and the place of 16 is the one
-- that was searched for. Assumes nothing.
use Prim.Native.Nat.{ℕ, ◌/◌, ◌%◌, ◌≤◌}
use mathlib.Core.Path.{◌≡◌, sym, ap, ◌∙◌}
use mathlib.Core.Bool.{cond}
use mathlib.Core.List.{List}
use lib.Dec.{ltb}
use lib.IntN.{ℤ}
use lib.ListN.{length}
use borrow.Author.Tests.{lt-ltb, le-ltb, eq-eqb, ne_eqb}
use Rattle.std.proofs.Common.{Option, Some, None, Err}
use Rattle.packed.specs.Places.{first, found_below}
use Rattle.packed.specs.PlacesLaws.{found-is, none-is}
use Rattle.packed.specs.Judge.{at_place, fine, refused, judge}
use Rattle.frames.specs.Frames.{unfit_at, given_checks}
use Rattle.repeating.specs.RepeatingLaws.{given-judge}
use Rattle.repeating.proofs.judge_given.Goals as goal

pub returns-then-numbers : goal.returns-then-numbers
returns-then-numbers c =
    let zs = c.args.numbers.now in
    rw (c.into.ensures, given-judge zs, lt-ltb 96 (length zs) c.if-numbers.true)

pub returns-then-numbers-ne0 : goal.returns-then-numbers-ne0
returns-then-numbers-ne0 c =
    let zs = c.args.numbers.now in
    rw (
      c.into-then-numbers-ne0.ensures,
      given-judge zs,
      le-ltb 96 (length zs) c.if-numbers.false,
      ne_eqb (length zs % 6) 0 c.if-numbers-ne0.true,
    )

-- What is found is where the search stopped.
at-found : (n k : ℕ) {j : ℕ} → Some j ≡ found_below n k → k ≡ j
at-found n k {j} e =
    let s : ◌≡◌ {A = Option ℕ} (Some j) (Some k) = rw (lt-ltb k n (found-is n k e)) at e in
    cc

-- The jobs have been searched, and only that check is left.
module _ (zs : List ℤ) (few : length zs ≤ 96) (whole : length zs % 6 ≡ 0) where
  abbrev found : ℕ
  found = first (unfit_at zs) 0 (length zs / 6)

  left : judge (given_checks zs) ≡ cond (ltb found (length zs / 6)) (refused (at_place 16 found)) fine
  left = rw (given-judge zs, le-ltb 96 (length zs) few, eq-eqb (length zs % 6) 0 whole)

  unfit : {p : ℕ} → Some p ≡ found_below (length zs / 6) found → judge (given_checks zs) ≡ refused (at_place 16 p)
  unfit {p} e =
      left
      ∙ rw (lt-ltb found (length zs / 6) (found-is (length zs / 6) found e))
      (ap (λ k. Err (at_place 16 k)) (at-found (length zs / 6) found e))

  fit : None ≡ found_below (length zs / 6) found → judge (given_checks zs) ≡ fine
  fit e = left ∙ rw (le-ltb found (length zs / 6) (none-is (length zs / 6) found e))

pub returns-in-Some : goal.returns-in-Some
returns-in-Some c =
    ap (λ r. Err r) c.at_place.ensures
    ∙ sym (unfit c.args.numbers.now c.if-numbers.false c.if-numbers-ne0.false (sym c.in-Some.is ∙ c.first_unfit.ensures))

pub returns-in-None : goal.returns-in-None
returns-in-None c =
    sym (fit c.args.numbers.now c.if-numbers.false c.if-numbers-ne0.false (sym c.in-None.is ∙ c.first_unfit.ensures))
