-- `repeating::Repeating::read` meets its contract: the six numbers, read one by one.
-- Assumes nothing.
use mathlib.Core.Path.{◌∙◌}
use mathlib.Core.List.{List}
use Prim.Native.Nat.{ℕ, ◌+◌}
use lib.IntN.{ℤ, pos}
use lib.ListN.{get_or}
use borrow.Author.Rules.{rules}
use Rattle.repeating.specs.RepeatingLaws.{RepeatingFits, numbers-kept, six-read}
use Rattle.repeating.specs.declared.Repeating.{Repeating}
use Rattle.repeating.proofs.Repeating.read.Goals as goal
use Rattle.repeating.proofs.Repeating.read.Goals.{Start}

pub returns : goal.returns
returns c =
    let a : Start = (goal.at.returns c).Start in
    let l : List ℤ = a.args.numbers.now in
    let at : ℕ = a.args.at in
    let job : Repeating =
    record {
      critical = get_or l at (pos 0);
      weight = get_or l (at + 1) (pos 0);
      phase = get_or l (at + 2) (pos 0);
      length = get_or l (at + 3) (pos 0);
      deadline = get_or l (at + 4) (pos 0);
      period = get_or l (at + 5) (pos 0);
    } in
    let fits : RepeatingFits job =
    record {
      critical = search rules;
      weight = search rules;
      phase = search rules;
      long = search rules;
      deadline = search rules;
      period = search rules;
    } in
    numbers-kept job fits ∙ six-read l at a.requires
