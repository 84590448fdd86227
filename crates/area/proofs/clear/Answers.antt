-- `area::clear` meets its contract: the front is filled with zeros. Assumes nothing.
use Rattle.area.specs.Clearing.{cleared-front}
use Rattle.area.proofs.clear.Goals as goal

pub returns : goal.returns
returns c = cleared-front c.fill.new.self c.args.work.now c.requires (c.fill.ensures.after (λ y k. k))
