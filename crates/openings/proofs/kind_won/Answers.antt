-- `openings::kind_won` meets its contract: both openings have a header, whose kind is 0 or 1. Assumes nothing.
use native.Mathlib.Omega.{arith}
use Rattle.packed.proofs.Accepted.{order-fine}
use Rattle.packed.proofs.RefusalLaws.{HeaderFine}
use Rattle.openings.proofs.kind_won.Goals as goal
use Rattle.openings.proofs.kind_won.Goals.{Start}

headers : (s : Start) → HeaderFine s.args.first.now × HeaderFine s.args.second.now
headers s =
    (((order-fine s.args.first.now).0 s.requires.one).header, ((order-fine s.args.second.now).0 s.requires.other).header)

pub kind_in-requires : goal.kind_in-requires
kind_in-requires c = let h = headers (goal.at.kind_in-requires c).Start in omega (arith, h.0.long, h.1.long)

pub overflow_cast-result : goal.overflow_cast-result
overflow_cast-result c =
    let h = headers (goal.at.overflow_cast-result c).Start in omega (arith, h.0.known, h.1.known, c.kind_in.ensures)

pub kind_in-requires-in-Second : goal.kind_in-requires-in-Second
kind_in-requires-in-Second c = let h = headers (goal.at.kind_in-requires-in-Second c).Start in omega (arith, h.0.long, h.1.long)

pub overflow_cast-result-in-Second : goal.overflow_cast-result-in-Second
overflow_cast-result-in-Second c =
    let h = headers (goal.at.overflow_cast-result-in-Second c).Start in
    omega (arith, h.0.known, h.1.known, c.kind_in-in-Second.ensures)
