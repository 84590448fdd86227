-- `cells::put_list` meets its contract: between turns the row has the cells of the points so far. Assumes nothing.
use Rattle.std.proofs.Common.{rules, ap, ◌∙◌, ◌≡◌, arith, ◌+◌, ◌-◌, ◌<◌, pos, ◌+ℤ◌, ℤ, FitsSigned, w32, to_z, of_z, to_z-of_z, take, drop, length-take, length-drop, slice_index_or}
use Rattle.std.proofs.lemmas.List.{get_or-take, get_or-drop}
use Rattle.seconds.specs.Signed.{read_back_lem}
use Rattle.codes.specs.Code.{at0, lightness}
use Rattle.cells.specs.Spreading.{number-least, can-count, can-run, spread-more}
use Rattle.cells.proofs.put_list.Goals as goal
use Rattle.cells.proofs.put_list.Goals.{After-above, After-cells_to-end, In-loop-code}

-- The point's number, in the list and as the code reads it.
module _ (c : In-loop-code) where
  abbrev item : ℤ
  item =
      slice_index_or (take (c.args.list.place + c.args.list.count - c.args.list.place) (drop c.args.list.place c.args.work.now))
      c.loop-code.code-index (pos 0)

  abbrev number : ℤ
  number = at0 c.args.work.now (c.args.list.place + c.loop-code.code-index)

  more : c.loop-code.code-index < c.args.list.count
  more = omega (arith, c.loop-code-test.true, length-take {A = ℤ}, length-drop {A = ℤ})

  read : FitsSigned w32 item → to_z w32 (of_z w32 item) ≡ number
  read f =
      let m = more in
      let here : c.loop-code.code-index < c.args.list.place + c.args.list.count - c.args.list.place = omega arith in
      to_z-of_z f ∙ rw (get_or-take, get_or-drop)

pub cells_to-end-requires : goal.cells_to-end-requires
cells_to-end-requires c =
    let t : In-loop-code = (goal.at.cells_to-end-requires c).In-loop-code in
    let f : FitsSigned w32 (item t) = search rules in
    rw (read t f) (number-least c.requires.0 c.loop-code.invariant (more t))

-- Its cells end here.
module _ (c : After-cells_to-end) where
  abbrev turn : In-loop-code
  turn = (goal.at.After-cells_to-end c).In-loop-code

  number-is : to_z w32 (of_z w32 (item turn)) ≡ number turn
  number-is = let f : FitsSigned w32 (item turn) = search rules in read turn f

  told : c.cells_to-end.result ≡ 512 - lightness (number turn)
  told = c.cells_to-end.ensures ∙ ap (λ (y : ℤ). 512 - lightness y) number-is

pub above-requires : goal.above-requires
above-requires c =
    let e : After-cells_to-end = (goal.at.above-requires c).After-cells_to-end in
    rw (number-is e) (can-count c.requires.0 c.loop-code.invariant (more (turn e)) _ (told e))

module _ (c : After-above) where
  abbrev ended : After-cells_to-end
  ended = (goal.at.After-above c).After-cells_to-end

  top-is : to_z w32 (of_z w32 c.above.result) ≡ number (turn ended) +ℤ pos (ended.cells_to-end.result - 1)
  top-is =
      read_back_lem c.above.result c.above.type_inv ∙ c.above.ensures
      ∙ ap (λ (y : ℤ). y +ℤ pos (ended.cells_to-end.result - 1)) (number-is ended)

pub put_run-requires : goal.put_run-requires
put_run-requires c = can-run c.requires.0 c.loop-code.invariant (more (turn (ended c))) _ (told (ended c)) _ (top-is c)

pub loop-code-preserved : goal.loop-code-preserved
loop-code-preserved c =
    let a : After-above = (goal.at.loop-code-preserved c).After-above in
    spread-more c.requires.0 c.loop-code.invariant (more (turn (ended a))) _ (told (ended a)) _ (top-is a) c.put_run.ensures
