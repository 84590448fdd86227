-- `sweeping::sweep_started` meets its contract: the cells are pushed, lowered, laid and counted. Assumes nothing.
use Prim.Native.Nat.{ℕ, ◌+◌, ◌-◌, ◌≤◌, max}
use mathlib.Core.Path.{◌≡◌, sym, ap, ◌∙◌}
use mathlib.Core.Bool.{cond}
use mathlib.Core.List.{List}
use native.Mathlib.Omega.{arith}
use lib.IntN.{ℤ}
use mir.Syntax.{w32}
use mir.Val.{SFits, to_z, of_z}
use mir.Facts.{to_z-of_z}
use borrow.Author.Rules.{rules}
use Rattle.seconds.specs.Signed.{read_back_lem}
use Rattle.codes.specs.Code.{at0, end_of, limit_of, lightness}
use Rattle.pushing.specs.Pushes.{delta_of}
use Rattle.order.specs.Job.{Point}
use Rattle.stepping.specs.Stepping.{stepped}
use Rattle.cells.specs.Cells.{reach, PushedCells}
use Rattle.sweeping.specs.Sweep.{Carried, Steppable, Roomy}
use Rattle.sweeping.specs.SweepLaws.{list-some, last-least, list-reach, can-push-row, ends-few, far-few, can-lower, still, next-carried}
use Rattle.sweeping.proofs.sweep_started.Goals as goal
use Rattle.sweeping.proofs.sweep_started.Goals.{After-delta_of, After-lower-rises, After-push_cells}

-- The last number of the stretch is read back, and so is what the calls made of the job.
module _ (c : After-delta_of) where
  abbrev last : ℤ
  last = at0 c.args.work.now (end_of c.args.list - 1)

  far-is : c.max-far.result ≡ max (cond c.args.job.critical 0 (512 - lightness last)) (c.args.rate.gain + c.args.many)
  far-is =
      let f : SFits w32 last = search rules in
      c.max-far.ensures ∙ ap (λ (k : ℕ). max k (c.args.rate.gain + c.args.many))
      (c.cells_left.ensures ∙ ap (λ (z : ℤ). cond c.args.job.critical 0 (512 - lightness z)) (to_z-of_z f))

  limit_is : to_z w32 (of_z w32 c.limit_by-limit.result) ≡ limit_of c.args.job.ready
  limit_is =
      let f : SFits w32 c.args.job.ready = search rules in
      read_back_lem _ c.limit_by-limit.type_inv ∙ c.limit_by-limit.ensures ∙ ap limit_of (to_z-of_z f)

  delta-is : to_z w32 (of_z w32 c.delta_of.result) ≡ delta_of c.args.rate
  delta-is = read_back_lem _ c.delta_of.type_inv ∙ c.delta_of.ensures

pub overflow_add-ends : goal.overflow_add-ends
overflow_add-ends c =
    let a = c.args in
    let g = c.requires.sweep in
    omega (arith, ends-few a.job a.rate a.list c.requires.some c.requires.told g.carried g.can g.roomy)

pub overflow_sub-used : goal.overflow_sub-used
overflow_sub-used c =
    let a = c.args in
    omega (arith, list-some a.job a.rate a.list c.requires.some c.requires.told c.requires.sweep.carried)

pub cells_left-requires : goal.cells_left-requires
cells_left-requires c =
    let a = c.args in
    let last = at0 a.work.now (end_of a.list - 1) in
    let f : SFits w32 last = search rules in
    let back : to_z w32 (of_z w32 last) ≡ last = to_z-of_z f in
    rw back (last-least a.job a.rate a.list c.requires.some c.requires.told c.requires.sweep.carried)

pub push_cells-requires : goal.push_cells-requires
push_cells-requires c =
    let a = c.args in
    let g = c.requires.sweep in
    let d : After-delta_of = (goal.at.push_cells-requires c).After-delta_of in
    rw (limit_is d, delta-is d) (can-push-row a.job a.rate a.list c.requires.some c.requires.told g.carried g.can g.roomy)

-- The cells are pushed.
module _ (c : After-push_cells) where
  abbrev made : After-delta_of
  made = (goal.at.After-push_cells c).After-delta_of

  far-small : c.max-far.result ≤ 301
  far-small =
      let a = c.args in
      let g = c.requires.sweep in
      far-few a.job a.rate a.list c.requires.some c.requires.told g.carried g.can g.roomy (far-is made)

  pushed-on : PushedCells c.args.row.now c.args.many (limit_of c.args.job.ready) (delta_of c.args.rate) c.args.rate.gain
      c.args.pushed.now c.push_cells.new.pushed
  pushed-on = rw (limit_is made, delta-is made) at c.push_cells.ensures

pub wipe-requires : goal.wipe-requires
wipe-requires c =
    let p : After-push_cells = (goal.at.wipe-requires c).After-push_cells in
    (omega (arith, far-is (made p)), omega (arith, far-small p, (pushed-on p).size, c.requires.sweep.roomy.buffer.room))

-- Past them there are none, and those left without the job are there.
pub lower-rises-requires : goal.lower-rises-requires
lower-rises-requires c =
    let a = c.args in
    let g = c.requires.sweep in
    let p : After-push_cells = (goal.at.lower-rises-requires c).After-push_cells in
    can-lower a.job a.rate a.list c.requires.some c.requires.told g.carried g.can g.roomy (far-is (made p)) (pushed-on p) c.wipe.ensures
    (c.wipe_if.ensures.size ∙ g.carried.cells.size)

-- They are lowered, laid and counted: whatever profile was carried, the one after the job is.
module _ (c : After-lower-rises) where
  abbrev pushed : After-push_cells
  pushed = (goal.at.After-lower-rises c).After-push_cells

  next : {points : ℕ} (ps : List Point) → Carried ps c.args.list points c.args.work.now c.args.row.now
      → Steppable c.args.job c.args.rate ps
      → Carried (stepped c.args.job c.args.rate ps) (record { place = end_of c.args.list; count = c.max-far.result })
      (c.lower-rises.result + 1) c.lower-rises.new.work c.lower-rises.new.row
  next ps carried can =
      let a = c.args in
      let some = c.requires.some in
      let told = c.requires.told in
      let g = c.requires.sweep in
      let as-far : reach ps ≡ reach g.ps = list-reach a.job a.rate a.list some told carried ∙ sym (list-reach a.job a.rate a.list some told g.carried) in
      let also : Roomy a.job ps a.list a.work.now a.pushed.now =
      record { room = omega (arith, as-far, g.roomy.room); room_more = g.roomy.room_more; buffer = g.roomy.buffer } in
      next-carried a.job a.rate a.list some told carried can also (far-is (made pushed)) (pushed-on pushed) c.wipe.ensures
      c.wipe_if.ensures c.lower-rises.ensures.row c.lower-rises.ensures.laid c.lower-rises.ensures.counted

pub returns : goal.returns
returns c points =
    let d : After-lower-rises = (goal.at.returns c).After-lower-rises in
    let a = c.args in
    let g = c.requires.sweep in
    let laid = c.lower-rises.ensures.laid in
    record {
      size = laid.size;
      stays = λ k h. laid.stays k (omega arith);
      further = omega arith;
      few = omega arith;
      buffer = still a.job a.rate a.list c.requires.some c.requires.told g.carried g.can g.roomy (far-is (made (pushed d)))
          (pushed-on (pushed d)) c.wipe.ensures;
      next = next d;
    }
