-- `sweeping::many_late` meets its contract. Assumes nothing.
use Prim.Native.Nat.{◌+◌, ◌-◌}
use mathlib.Core.Path.{◌≡◌}
use native.Mathlib.Omega.{arith}
use mir.Syntax.{w32}
use mir.Val.{SFits, to_z, of_z}
use mir.Facts.{to_z-of_z}
use borrow.Author.Rules.{rules}
use Rattle.seconds.specs.Signed.{signed}
use Rattle.codes.specs.Code.{at0}
use Rattle.codes.specs.HeldLaws.{held-point, list_length}
use Rattle.sweeping.proofs.many_late.Goals as goal

pub time_in-requires : goal.time_in-requires
time_in-requires c =
    let list = c.args.list in
    let place = list.place + list.count - 20 in
    let number = at0 c.args.work.now place in
    let point = held-point c.requires.held place (omega arith) (omega (arith, list_length c.args.work.now list.place list.count)) in
    let is = point.2 in
    let fits : SFits w32 number = search rules in
    let back : to_z w32 (of_z w32 number) ≡ number = to_z-of_z fits in
    rw back (omega signed)
