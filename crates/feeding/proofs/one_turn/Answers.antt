-- `feeding::one_turn` meets its contract, by what has come of the length. Assumes nothing.
use mathlib.Core.Path.{◌≡◌, refl, ap, ◌∙◌}
use native.Mathlib.Omega.{arith}
use Prim.Native.Nat.{◌+◌, ◌-◌}
use lib.ListN.{get_or, take, drop}
use Rattle.streams.proofs.Kept.{kept_in}
use Rattle.feeding.specs.FeedingLaws.{few-enough, turn-high, turn_low, turn_more}
use Rattle.feeding.proofs.one_turn.Goals as goal

pub settle-requires : goal.settle-requires
settle-requires c =
    let a = c.args in
    record {
      can = few-enough a.part a.figures.now a.front.now a.piece.now a.at a.work.now c.requires;
      wide = c.requires.sound.wide;
      most = omega (arith, c.requires.sound.half c.in-1.is, c.type_inv.piece a.at);
      come = omega arith;
    }

pub settle-requires-in_default : goal.settle-requires-in_default
settle-requires-in_default c =
    let a = c.args in
    let two : a.part.known ≡ 2 = omega (arith, c.requires.sound.few) in
    record {
      can = few-enough a.part a.figures.now a.front.now a.piece.now a.at a.work.now c.requires;
      wide = omega (arith, c.requires.sound.wide, c.keep.auto.front);
      most = c.requires.sound.most;
      come = omega (arith, c.min-n.ensures, c.requires.sound.inside (omega (arith, two)));
    }

pub returns-in-0 : goal.returns-in-0
returns-in-0 c =
    let a = c.args in
    turn-high a.part a.figures.now a.front.now a.piece.now a.at a.work.now c.requires c.in-0.is (get_or a.piece.now a.at 0) refl
    (omega (arith, c.type_inv.piece a.at))

pub returns-in-1 : goal.returns-in-1
returns-in-1 c =
    let a = c.args in
    turn_low a.part a.figures.now a.front.now a.piece.now a.at a.work.now c.requires c.in-1.is (get_or a.piece.now a.at 0) refl
    c.settle.result c.settle.new.figures c.settle.new.work c.settle.ensures

pub returns-in_default : goal.returns-in_default
returns-in_default c =
    let a = c.args in
    let two : a.part.known ≡ 2 = omega (arith, c.requires.sound.few) in
    let t = c.settle-in_default in
    let n = c.min-n.result in
    let same : (a.at + n) - a.at ≡ n = omega arith in
    turn_more a.part a.figures.now a.front.now a.piece.now a.at a.work.now c.requires two n c.min-n.ensures c.keep.new.front
    (c.keep.ensures ∙ ap (λ k. kept_in a.front.now a.part.got (take k (drop a.at a.piece.now))) same)
    t.result t.new.figures t.new.work t.ensures
