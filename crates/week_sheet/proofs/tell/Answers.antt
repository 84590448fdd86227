-- `week_sheet::tell` meets its contract: what is written is the text for the stream that was read. Assumes nothing.
use Rattle.std.proofs.Common.{◌∙◌}
use Rattle.week_report.specs.TellingLaws.{reached-says, wrote-front}
use Rattle.week_sheet.proofs.tell.Goals as goal

pub write-requires : goal.write-requires
write-requires c =
    record {
      stream = c.requires.reached.stream;
      is = wrote-front c.tell_held-end.result c.tell_held-end.ensures ∙ reached-says c.requires.reached;
    }
