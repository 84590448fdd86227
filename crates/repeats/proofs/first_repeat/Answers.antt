-- `repeats::first_repeat` meets its contract. The loop's invariant: the search is the search from here on. Assumes nothing.
use Rattle.std.proofs.Common.{◌≡◌, ℕ, ◌<◌, ◌≢◌, List, length, get_or, take, sym, ◌∙◌, arith, get_or-take, eqb-true}
use Rattle.std.proofs.lemmas.List.{length-take}
use Rattle.std.proofs.lemmas.Bool.{eqb-false}
use Rattle.packed.specs.PlacesLaws.{first-end}
use Rattle.repeats.specs.Repeats.{stood_earlier}
use Rattle.repeats.specs.RepeatLaws.{again-from-0, again-here, unlike-on}
use Rattle.repeats.proofs.first_repeat.Goals as goal

pub loop-later-init : goal.loop-later-init
loop-later-init c = again-from-0 c.args.numbers.now

-- A place of the first ones is one of them, and there stands what stands in the list.
module _ (ns : List ℕ) (later i : ℕ) (inside : i < length (take later ns)) where
  earlier : i < later
  earlier = omega (arith, length-take later ns)

  same-there : get_or (take later ns) i 0 ≡ get_or ns i 0
  same-there = get_or-take later ns i 0 earlier

pub returns-then-contains : goal.returns-then-contains
returns-then-contains c =
    let ns = c.args.numbers.now in
    let later = c.loop-later.later in
    let k = c.if-contains.ensures.cases in
    sym (c.loop-later.invariant
    ∙ again-here ns k.0 later (omega arith) (earlier ns later k.0 k.1)
    (sym (same-there ns later k.0 k.1) ∙ eqb-true (get_or (take later ns) k.0 0) (get_or ns later 0) (k.2 0)))

pub loop-later-preserved : goal.loop-later-preserved
loop-later-preserved c =
    let ns = c.args.numbers.now in
    let later = c.loop-later.later in
    let unlike : (i : ℕ) → i < later → get_or ns i 0 ≢ get_or ns later 0 =
    λ i h. let inside : i < length (take later ns) = omega (arith, length-take later ns) in
    let differ = eqb-false (get_or (take later ns) i 0) (get_or ns later 0) (c.if-contains.ensures.cases i 0 (omega arith) inside) in
    λ e. differ (same-there ns later i inside ∙ e) in
    c.loop-later.invariant ∙ unlike-on ns later (omega arith) unlike

pub returns : goal.returns
returns c =
    let ns = c.args.numbers.now in
    let end : c.loop-later.later ≡ length ns = omega arith in
    sym (c.loop-later.invariant ∙ rw end (first-end (stood_earlier ns) (length ns)))
