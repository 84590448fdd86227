-- `repeats::first_repeat` meets its contract. The loop's invariant: the search is the search from here on. Assumes nothing.
use Rattle.std.proofs.Common.{◌≡◌, length}
use Rattle.packed.specs.Places.{first}
use Rattle.repeats.specs.Repeats.{stood_earlier, first_again}
use Rattle.repeats.proofs.first_repeat.Given as goal

abbrev pub invariant-loop-later : goal.invariant-loop-later
invariant-loop-later l = first_again l.numbers ≡ first (stood_earlier l.numbers) l.later (length l.numbers)
