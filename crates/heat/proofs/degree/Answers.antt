-- `heat::degree` meets its contract: two's complement of eight bits is what the machine reads. Assumes nothing.
use Rattle.std.proofs.Common.{◌∙◌, sym, rules, to_z-of_z}
use Rattle.std.specs.Int.{w8, w32}
use mir.Val.{SFits}
use Rattle.seconds.proofs.TwosLaws.{bits_to-to_z}
use Rattle.heat.proofs.degree.Goals as goal

pub returns : goal.returns
returns c =
    let byte : SFits w8 c.cast_signed.result = search rules in
    let wide : SFits w32 c.from.result = search rules in
    to_z-of_z wide ∙ c.from.ensures ∙ to_z-of_z byte ∙ c.cast_signed.ensures
    ∙ sym (bits_to-to_z w8 c.args.byte c.ranges.byte.fits)
