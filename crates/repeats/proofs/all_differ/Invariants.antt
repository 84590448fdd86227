-- `repeats::all_differ` meets its contract. The invariant: what was met has a mark, and the search is the search from here on.
-- Assumes nothing.
use Rattle.std.proofs.Common.{◌≡◌, length}
use Rattle.packed.specs.Places.{first}
use Rattle.repeats.specs.Repeats.{stood_earlier, first_again}
use Rattle.repeats.specs.RepeatLaws.{Marked}
use Rattle.repeats.proofs.all_differ.Given as goal

abbrev pub invariant-loop-number : goal.invariant-loop-number
invariant-loop-number l =
    record {
      whole : length l.met ≡ 256;
      marked : Marked l.numbers l.number-index l.met;
      on : first_again l.numbers ≡ first (stood_earlier l.numbers) l.number-index (length l.numbers);
    }
