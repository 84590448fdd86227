-- `packed::without_place` meets its contract: what it does not name is 0.
-- Assumes nothing.
use Rattle.packed.proofs.without_place.Goals as goal

pub returns : goal.returns
returns c = c.in_field.ensures
