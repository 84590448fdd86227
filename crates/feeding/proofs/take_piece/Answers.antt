-- `feeding::take_piece` meets its contract: the piece is fed, and the numbers put back are the new state's. Assumes nothing.
use mathlib.Core.Path.{sym, ap, ◌∙◌}
use native.Mathlib.Omega.{arith}
use Rattle.streams.specs.Stream.{is_state}
use Rattle.feeding.specs.declared.Part.{Part}
use Rattle.feeding.specs.Calls.{many_refusal}
use Rattle.feeding.specs.Feeding.{seen}
use Rattle.feeding.specs.TakingLaws.{state-sound, sound-put, taken-by}
use Rattle.feeding.proofs.take_piece.Goals as goal

pub feed_piece-part-requires : goal.feed_piece-part-requires
feed_piece-part-requires c =
    let a = c.args in
    record {
      space = c.requires.space;
      sound = state-sound c.part_in.result a.feed.now a.front.now (omega (arith, c.requires.long)) c.requires.wide
          (ap (λ (q : Part). is_state (seen q a.feed.now a.front.now)) c.part_in.ensures ∙ c.requires.state);
    }

pub put_part-requires : goal.put_part-requires
put_part-requires c =
    let f = c.feed_piece-part in
    sound-put f.result f.new.figures f.new.front f.ensures.sound (omega (arith, c.requires.long, f.auto.figures))

pub returns-then-many : goal.returns-then-many
returns-then-many c =
    let a = c.args in
    let f = c.feed_piece-part in
    taken-by a.feed.now a.front.now a.piece.now a.work.now c.requires.long c.part_in.result c.part_in.ensures f.result f.new.figures
    f.new.front f.new.work f.ensures f.auto.figures c.is_over-many.result c.is_over-many.ensures c.put_part.new.feed c.put_part.ensures
    c.clear.new.work c.clear.ensures _ (sym (ap many_refusal c.if-many.true))

pub returns-else-many : goal.returns-else-many
returns-else-many c =
    let a = c.args in
    let f = c.feed_piece-part in
    taken-by a.feed.now a.front.now a.piece.now a.work.now c.requires.long c.part_in.result c.part_in.ensures f.result f.new.figures
    f.new.front f.new.work f.ensures f.auto.figures c.is_over-many.result c.is_over-many.ensures c.put_part.new.feed c.put_part.ensures
    c.clear.new.work c.clear.ensures _ (sym (ap many_refusal c.if-many.false))
