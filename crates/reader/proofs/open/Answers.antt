-- `reader::open` meets its contract: the header's verdict tells the case, and the header's count is that of the bytes.
-- Assumes nothing.
use mathlib.Core.Path.{sym, ap, ◌∙◌}
use Rattle.std.proofs.Common.{Ok}
use Rattle.packed.specs.Packed.{count_of}
use Rattle.packed.proofs.RefusalLaws.{header-fine}
use Rattle.fields.specs.Facts.{header_read}
use Rattle.reader.specs.Reading.{opened_by}
use Rattle.reader.proofs.open.Goals as goal

pub header_at-requires : goal.header_at-requires
header_at-requires c = ((header-fine c.args.bytes.now).0 (sym c.judge_header.ensures ∙ c.in_ok-judge_header.was)).long

pub returns : goal.returns
returns c =
    let bytes = c.args.bytes.now in
    let read = header_read bytes c.header_at.result c.header_at.ensures in
    ap (λ n. Ok n) read.count ∙ sym (ap (opened_by (count_of bytes)) (sym c.judge_header.ensures ∙ c.in_ok-judge_header.was))
