-- `point_records::lookup_among` meets its contract: no more records are taken than there are.
-- Assumes nothing.
use Rattle.std.proofs.Common.{◌≡◌, min, refl, ◌∙◌, rules, List, length, to_z-of_z}
use Rattle.point_records.specs.Records.{most_passed}
use Rattle.point_records.specs.RecordLaws.{few-taken}
use Rattle.point_records.specs.declared.Point.{Point}
use Rattle.point_records.proofs.lookup_among.Goals as goal

pub returns : goal.returns
returns c =
    let ps : List Point = c.args.points in
    let full : length ps ≡ most_passed = search rules in
    let few : c.min.result ≡ min c.args.count most_passed = c.min.ensures in
    c.lookup_records.ensures ∙ rw (to_z-of_z c.ranges.t, few, few-taken ps c.args.count full) refl
