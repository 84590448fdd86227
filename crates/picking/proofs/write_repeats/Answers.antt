-- `picking::write_repeats` meets its contract: a turn writes one repeat.
-- Assumes nothing.
use Prim.Native.Nat.{ℕ, ◌+◌, ◌*◌, ◌≤◌}
use mathlib.Core.Path.{◌≡◌, sym, ap, ◌∙◌}
use mathlib.Core.List.{List, ◌++◌}
use native.Mathlib.Omega.{arith}
use lib.IntN.{ℤ}
use lib.ListN.{length, take, drop}
use Rattle.packed.specs.Layout.{encode, bytes_of, job_layout, record_bytes}
use Rattle.packed.specs.Packed.{fields_at}
use Rattle.pack.specs.WritingLaws.{none_written, one_more}
use Rattle.frames.specs.Frames.{numbers_for, repeat_at, frame_numbers}
use Rattle.frames.proofs.FrameLaws.{frame_at}
use Rattle.picking.proofs.write_repeats.Goals as goal

pub loop-k-init : goal.loop-k-init
loop-k-init c =
    record { written = sym (none_written 0 (frame_numbers c.args.numbers.now) c.args.order.now); reached = c.set_first.ensures }

pub loop-k-preserved : goal.loop-k-preserved
unfolding record_bytes
loop-k-preserved c =
    let zs = c.args.numbers.now in
    let k : ℕ = c.loop-k.k in
    let seven : List ℤ = numbers_for zs k (repeat_at zs k) in
    let behind : List ℕ → List ℕ = λ bs. take (4 + 8 * k) bs ++ bytes_of 8 (encode (job_layout 0) seven) ++ drop (4 + 8 * k + 8) bs in
    let four : 4 ≤ length c.args.order.now = omega (arith, c.requires.room) in
    let there : seven ≡ fields_at (frame_numbers zs) k = sym (frame_at zs k (omega (arith, c.requires.all))) in
    record {
      written = c.put_next.ensures.writes ∙ ap behind c.loop-k.invariant.written ∙ one_more 0 (frame_numbers zs) c.args.order.now k seven four there;
      reached = c.put_next.ensures.moves;
    }
