-- `merging::merge` meets its contract: between turns, what is kept of the numbers so far is written, and the next number of each list
-- is at hand. Assumes nothing.
use Prim.Native.Nat.{◌-◌}
use mathlib.Core.Path.{◌≡◌}
use Rattle.codes.specs.Code.{at0}
use Rattle.merging.specs.Turns.{turns_at, kept_of}
use Rattle.merging.specs.TurnLaws.{Merging}
use Rattle.merging.proofs.merge.Given as goal

abbrev pub invariant-loop : goal.invariant-loop
invariant-loop l =
    Merging (kept_of l.lightest (turns_at l.end l.initial.work l.initial.i l.pushed l.initial.j)) l.at l.lightest l.pushed l.initial.work l.work l.i l.j l.n l.best (l.end - l.counter)
    × (l.a ≡ at0 l.initial.work l.i)
    × (l.b ≡ at0 l.pushed l.j)
