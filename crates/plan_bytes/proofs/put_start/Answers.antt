-- `plan_bytes::put_start` meets its contract: the three bytes are those in which the start ends, with what stands in the first.
-- Assumes nothing.
use mathlib.Core.Path.{◌∙◌, ap}
use Prim.Native.Nat.{◌+◌, ◌*◌, ◌-◌}
use native.Mathlib.Omega.{arith}
use mir.Facts.{to_z-of_z}
use Rattle.seconds.specs.Twos.{to_bits}
use Rattle.plan_bytes.specs.Steps.{Made, made, begun-small, put_is}
use Rattle.plan_bytes.proofs.put_start.Goals as goal
use Rattle.plan_bytes.proofs.put_start.Goals.{After-begun_in-begun, After-plan_bytes-at, After-unit, Start}

-- Where the code starts.
abbrev entry : After-unit → Start
entry c = (goal.at.After-unit c).Start

-- What is computed.
word : (c : After-unit) → let after-begun-in : After-begun_in-begun = (goal.at.After-unit c).After-begun_in-begun in
    let after-plan-bytes : After-plan_bytes-at = (goal.at.After-unit c).After-plan_bytes-at in
    let s = entry c in
    Made s.args.bytes.now s.args.k s.args.start (after-plan-bytes.plan_bytes-at.result - 3)
    (after-begun-in.begun_in-begun.result * 65536 + c.time_bits-bits.result * c.unit.result)
word c =
    let p : After-plan_bytes-at = (goal.at.After-unit c).After-plan_bytes-at in
    let b : After-begun_in-begun = (goal.at.After-unit c).After-begun_in-begun in
    let s : Start = (goal.at.After-plan_bytes-at p).Start in
    made s.args.bytes.now s.args.k s.args.start p.plan_bytes-at.result b.begun_in-begun.result p.plan_bytes-at.ensures
    b.begun_in-begun.ensures c.time_bits-bits.result c.unit.result
    (c.time_bits-bits.ensures ∙ ap (to_bits 18) (to_z-of_z s.ranges.start)) c.unit.ensures

pub overflow_mul-begun : goal.overflow_mul-begun
overflow_mul-begun c =
    let p : After-plan_bytes-at = (goal.at.overflow_mul-begun c).After-plan_bytes-at in
    let b : After-begun_in-begun = (goal.at.overflow_mul-begun c).After-begun_in-begun in
    let s : Start = (goal.at.After-plan_bytes-at p).Start in
    omega (
      arith,
      begun-small s.args.bytes.now s.args.k s.args.start p.plan_bytes-at.result b.begun_in-begun.result
          p.plan_bytes-at.ensures b.begun_in-begun.ensures s.requires,
    )

pub overflow_mul-bits : goal.overflow_mul-bits
overflow_mul-bits c =
    let s = entry c in
    omega (arith, (word c).number, s.requires.fits)

pub overflow_add-begun : goal.overflow_add-begun
overflow_add-begun c =
    let s = entry c in
    omega (arith, (word c).number, s.requires.fits)

pub put_word-requires : goal.put_word-requires
put_word-requires c =
    let s = entry c in
    record {
      room = record { short = omega arith; room = omega (arith, (word c).place, s.requires.room) };
      small = rw (word c).number s.requires.fits;
    }

pub returns : goal.returns
returns c =
    let u : After-unit = (goal.at.returns c).After-unit in
    let after-begun-in : After-begun_in-begun = (goal.at.After-unit u).After-begun_in-begun in
    let after-plan-bytes : After-plan_bytes-at = (goal.at.After-unit u).After-plan_bytes-at in
    let s = entry u in
    put_is s.args.bytes.now c.put_word.new.bytes s.args.k s.args.start
    (after-plan-bytes.plan_bytes-at.result - 3)
    (after-begun-in.begun_in-begun.result * 65536 + u.time_bits-bits.result * u.unit.result)
    (word u) c.put_word.ensures
