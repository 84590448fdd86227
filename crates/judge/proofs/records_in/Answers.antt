-- `judge::records_in` meets its contract: the records stand where the header's checks are passed.
-- Assumes nothing.
use Rattle.packed.proofs.RefusalLaws.{header-fine}
use Rattle.judge.specs.Told.{records-told}
use Rattle.judge.proofs.records_in.Goals as goal

pub header_at-header-requires : goal.header_at-header-requires
header_at-header-requires c = ((header-fine c.args.bytes.now).0 c.requires).long

pub invariant_of-result : goal.invariant_of-result
invariant_of-result c =
    record { stand = records-told c.args.bytes.now c.header_at-header.result c.header_at-header.ensures c.requires }
