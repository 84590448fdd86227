-- `point_records::lookup_records` meets its contract: turn by turn one record more is laid out, and as many as are read decide the
-- answer. Assumes nothing.
use Rattle.std.proofs.Common.{ℕ, ◌≡◌, ◌≤◌, ◌*◌, min, ◌∙◌, arith, rules, List, length, get_or, take, to_z-of_z, w32}
use mir.Val.{SFits}
use Rattle.point_records.specs.Records.{flattened, most_read, blank}
use Rattle.point_records.specs.RecordLaws.{lay-more, laid-all, read-decides}
use Rattle.point_records.specs.declared.Point.{Point}
use Rattle.point_records.proofs.lookup_records.Goals as goal

pub loop-i-preserved : goal.loop-i-preserved
loop-i-preserved c =
    let ps : List Point = c.args.points.now in
    let i : ℕ = c.loop-i.i in
    let few : c.min-count.result ≤ length ps = omega arith in
    let size : length c.loop-i.numbers ≡ 2 * most_read = c.loop-i.invariant.size in
    let f : SFits w32 (get_or ps i blank).time = search rules in
    let g : SFits w32 (get_or ps i blank).weight = search rules in
    let laid = lay-more ps c.min-count.result i blank (omega arith) few (omega arith) c.loop-i.invariant in
    rw (to_z-of_z f, to_z-of_z g) laid

pub returns : goal.returns
returns c =
    let ps : List Point = c.args.points.now in
    let n : ℕ = c.min-count.result in
    let count : n ≡ min (length ps) most_read = c.min-count.ensures in
    let over : c.loop-i.i ≡ n = omega arith in
    let numbers : take (2 * n) c.loop-i.numbers ≡ flattened (take n ps) =
    laid-all ps n (omega arith) (rw over at c.loop-i.invariant) in
    c.lookup.ensures ∙ rw (numbers, to_z-of_z c.ranges.t, count) (read-decides ps c.args.t)
