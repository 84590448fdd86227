-- `stepping::add_one` meets its contract. Assumes nothing.
use Rattle.std.proofs.Common.{◌≡◌, ◌-◌, ◌∙◌, rules, w32, to_z, of_z, to_z-of_z}
use mir.Val.{SFits}
use Rattle.codes.specs.Code.{at0}
use Rattle.pushing.specs.Pushes.{delta_of}
use Rattle.pushing.specs.Numbers.{delta-fits}
use Rattle.stepping.proofs.add_one.Goals as goal

pub waits-requires : goal.waits-requires
waits-requires c =
    let ready : SFits w32 c.args.job.ready = search rules in
    let last : SFits w32 (at0 c.args.work.now (c.end-used.result - 1)) = search rules in
    let delta : SFits w32 c.delta_of-delta.result = search rules in
    let is : to_z w32 (of_z w32 c.delta_of-delta.result) ≡ delta_of c.args.rate = to_z-of_z delta ∙ c.delta_of-delta.ensures in
    (rw (to_z-of_z ready) c.requires.starts, rw is (delta-fits c.requires.fits), rw (to_z-of_z last, c.end-used.ensures) c.requires.coded)
