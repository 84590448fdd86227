-- `repeating::first_unfit` meets its contract. The loop's invariant: the search is the search from here on.
-- Assumes nothing.
use mathlib.Core.Path.{◌≡◌}
use Rattle.packed.specs.Places.{first}
use Rattle.frames.specs.Frames.{unfit_at}
use Rattle.repeating.proofs.first_unfit.Given as goal

abbrev pub invariant-loop-place : goal.invariant-loop-place
invariant-loop-place l = first (unfit_at l.numbers) 0 l.count ≡ first (unfit_at l.numbers) l.place l.count
