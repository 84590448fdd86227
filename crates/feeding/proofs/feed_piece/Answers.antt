-- `feeding::feed_piece` meets its contract: what is still to come of the piece, fed to the state so far, is the whole. Assumes nothing.
use mathlib.Core.Path.{◌≡◌, refl, sym, ap, ◌∙◌}
use mathlib.Core.List.{[]}
use native.Mathlib.Omega.{arith}
use lib.ListN.{drop, drop_of_length-le}
use Rattle.streams.specs.Stream.{run}
use Rattle.streams.proofs.StreamLaws.{run-over}
use Rattle.feeding.specs.Feeding.{seen, left}
use Rattle.feeding.specs.FeedingLaws.{left_over, left-some, less-again}
use Rattle.feeding.proofs.feed_piece.Goals as goal

pub loop-at-init : goal.loop-at-init
loop-at-init c = (omega arith, c.requires.sound, omega arith, refl, refl, refl, refl, refl, refl)

pub is_over-requires : goal.is_over-requires
is_over-requires c = c.loop-at.invariant.1.long

pub shape_of-figures-then-is_over : goal.shape_of-figures-then-is_over
shape_of-figures-then-is_over c = c.loop-at.invariant.6

pub shape_of-front-then-is_over : goal.shape_of-front-then-is_over
shape_of-front-then-is_over c = c.loop-at.invariant.7

pub shape_of-work-then-is_over : goal.shape_of-work-then-is_over
shape_of-work-then-is_over c = c.loop-at.invariant.8

pub returns-then-is_over : goal.returns-then-is_over
returns-then-is_over c =
    let a = c.args in
    let over = sym c.is_over.ensures ∙ c.if-is_over.true in
    record {
      sound = c.loop-at.invariant.1;
      state =
          sym (run-over (seen c.loop-at.state c.loop-at.figures c.loop-at.front) (drop c.loop-at.at a.piece.now) over) ∙ c.loop-at.invariant.3;
      less =
          λ begun. omega
          (arith, left_over c.loop-at.state c.loop-at.figures over, left-some a.begun a.figures.now a.front.now c.requires.sound begun);
      behind = c.loop-at.invariant.4;
      beyond = c.loop-at.invariant.5;
    }

pub one_turn-t-requires : goal.one_turn-t-requires
one_turn-t-requires c =
    record {
      space = omega (arith, c.requires.space, c.loop-at.invariant.8);
      sound = c.loop-at.invariant.1;
      more = sym c.is_over.ensures ∙ c.if-is_over.false;
      here = omega arith;
    }

pub loop-at-smaller : goal.loop-at-smaller
loop-at-smaller c =
    let t = c.one_turn-t in
    omega (arith, t.ensures.on, t.ensures.inside)

pub loop-at-preserved : goal.loop-at-preserved
loop-at-preserved c =
    let t = c.one_turn-t in
    let piece = c.args.piece.now in
    let rest : run (seen t.result.part t.new.figures t.new.front) (drop t.result.next piece)
    ≡ run (seen c.loop-at.state c.loop-at.figures c.loop-at.front) (drop c.loop-at.at piece) =
    t.ensures.rest in (
      t.ensures.inside,
      t.ensures.sound,
      less-again (left c.loop-at.state c.loop-at.figures) (left t.result.part t.new.figures) c.loop-at.at t.result.next _ t.ensures.less
          t.ensures.on c.loop-at.invariant.2,
      rest ∙ c.loop-at.invariant.3,
      t.ensures.behind ∙ c.loop-at.invariant.4,
      t.ensures.beyond ∙ c.loop-at.invariant.5,
      t.auto.figures ∙ c.loop-at.invariant.6,
      t.auto.front ∙ c.loop-at.invariant.7,
      t.auto.work ∙ c.loop-at.invariant.8,
    )

pub shape_of-figures : goal.shape_of-figures
shape_of-figures c = c.loop-at.invariant.6

pub shape_of-front : goal.shape_of-front
shape_of-front c = c.loop-at.invariant.7

pub shape_of-work : goal.shape_of-work
shape_of-work c = c.loop-at.invariant.8

pub returns : goal.returns
returns c =
    let a = c.args in
    let end : drop c.loop-at.at a.piece.now ≡ [] = drop_of_length-le a.piece.now {i = c.loop-at.at} (omega arith) in
    record {
      sound = c.loop-at.invariant.1;
      state = ap (run (seen c.loop-at.state c.loop-at.figures c.loop-at.front)) (sym end) ∙ c.loop-at.invariant.3;
      less = λ begun. omega (arith, c.loop-at.invariant.2);
      behind = c.loop-at.invariant.4;
      beyond = c.loop-at.invariant.5;
    }
