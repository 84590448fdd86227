-- `fields::kind_in` meets its contract: the kind is the header's last byte.
-- Assumes nothing.
use mathlib.Core.Path.{sym}
use Rattle.packed.proofs.PackedLaws.{kind-byte}
use Rattle.fields.proofs.kind_in.Goals as goal

pub returns : goal.returns
returns c = sym (kind-byte c.args.bytes.now c.requires (c.type_inv.bytes 3).fits)
