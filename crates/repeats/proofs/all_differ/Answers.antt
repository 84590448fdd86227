-- `repeats::all_differ` meets its contract. The invariant: what was met has a mark, and the search is the search from here on.
-- Assumes nothing.
use Rattle.std.proofs.Common.{refl, length-set, ◌≡◌, ◌<◌, true, length, get_or, arith, sym, ◌∙◌, true≢false}
use Rattle.packed.specs.PlacesLaws.{first-end}
use Rattle.repeats.specs.Repeats.{stood_earlier}
use Rattle.repeats.specs.RepeatLaws.{again-from-0, marked_more, unmarked-on}
use Rattle.repeats.proofs.all_differ.Goals as goal

pub loop-number-init : goal.loop-number-init
loop-number-init c = record { whole = refl; marked = λ i h. absurd (omega arith); on = again-from-0 c.args.numbers.now }

pub loop-number-preserved : goal.loop-number-preserved
loop-number-preserved c =
    let ns = c.args.numbers.now in
    let k = c.loop-number.number-index in
    let met = c.loop-number.met in
    let room : get_or ns k 0 < length met = omega (arith, (c.type_inv.numbers k).fits) in
    record {
      whole = length-set met (get_or ns k 0) true ∙ c.loop-number.invariant.whole;
      marked = marked_more ns k met room c.loop-number.invariant.marked;
      on = c.loop-number.invariant.on ∙ unmarked-on ns k met (omega arith) c.loop-number.invariant.marked
          (λ e. true≢false (sym e ∙ c.if-met-number.false));
    }

pub returns : goal.returns
returns c e =
    let ns = c.args.numbers.now in
    let end : c.loop-number.number-index ≡ length ns = omega arith in
    c.loop-number.invariant.on ∙ rw end (first-end (stood_earlier ns) (length ns))
