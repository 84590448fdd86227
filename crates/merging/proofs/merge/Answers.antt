-- `merging::merge` meets its contract: between turns, what is kept of the numbers so far is written, and the next number of each list
-- is at hand. Assumes nothing.
use Rattle.std.proofs.Common.{◌≡◌, refl, suc, ℕ, ◌+◌, ◌-◌, ◌≤◌, min, ltb, Bool, true, false, cond, not, ap, ◌∙◌, arith, rules, w32, to_z-of_z}
use mir.Val.{SFits, bool_byte}
use Rattle.codes.specs.Code.{at0}
use Rattle.merging.specs.TurnLaws.{merging-least, merging-turn, next_here, next-there, merging-end}
use Rattle.merging.proofs.merge.Goals as goal

-- A test as a number, and its opposite.
byte-is : (b : Bool) → (bool_byte b ≡ cond {A = ℕ} b 1 0) × (bool_byte (not b) ≡ cond {A = ℕ} b 0 1)
byte-is true = (refl, refl)
byte-is false = (refl, refl)

-- A turn is left while the counter is below the end.
one-left : (end counter : ℕ) → counter + 1 ≤ end → end - counter ≡ suc (end - (counter + 1))
one-left end counter h = omega arith

pub light_in-light-requires : goal.light_in-light-requires
light_in-light-requires c =
    let l = c.loop in
    let fx : SFits w32 c.select_unpredictable-x.result = search rules in
    let x-is = to_z-of_z fx ∙ c.select_unpredictable-x.ensures in
    let at-hand = one-left (c.args.list.count + c.args.other.count) l.counter (omega arith) in
    rw x-is (merging-least l.invariant.0 l.invariant.1 l.invariant.2 at-hand)

pub loop-preserved : goal.loop-preserved
loop-preserved c =
    let l = c.loop in
    let at-hand = one-left (c.args.list.count + c.args.other.count) l.counter (omega arith) in
    let fx : SFits w32 c.select_unpredictable-x.result = search rules in
    let fa : SFits w32 c.select_unpredictable-a.result = search rules in
    let fb : SFits w32 c.select_unpredictable-b.result = search rules in
    let fc : SFits w32 (at0 l.work (l.i + 1)) = search rules in
    let fd : SFits w32 (at0 c.args.pushed.now (l.j + 1)) = search rules in
    let i-is = ap (λ (k : ℕ). l.i + k) (c.from-i.ensures ∙ (byte-is _).0) in
    let j-is = ap (λ (k : ℕ). l.j + k) (c.from-j.ensures ∙ (byte-is _).1) in
    let light-is = c.light_in-light.ensures in
    let n-is = ap (λ (k : ℕ). l.n + k) (c.from-n.ensures ∙ (byte-is _).0 ∙ ap (λ (y : ℕ). cond (ltb y l.best) 1 0) light-is) in
    let best-is = c.min-best.ensures ∙ ap (λ (y : ℕ). min y l.best) light-is in (
      merging-turn l.invariant.0 l.invariant.1 l.invariant.2 at-hand _ _ _ _ _ (to_z-of_z fx ∙ c.select_unpredictable-x.ensures) i-is j-is n-is best-is,
      next_here l.invariant.0 l.invariant.1 l.invariant.2 at-hand _ _ _ (to_z-of_z fc) (to_z-of_z fa ∙ c.select_unpredictable-a.ensures) i-is,
      next-there l.invariant.0 l.invariant.1 l.invariant.2 at-hand _ _ _ (to_z-of_z fd) (to_z-of_z fb ∙ c.select_unpredictable-b.ensures) j-is,
    )

pub returns : goal.returns
returns c = merging-end c.loop.invariant.0 (omega arith)
