-- `picking::put_next` meets its contract: the least of the next ready times is the next repeat, its job is written, and it moves on.
-- Assumes nothing.
use Prim.Native.Nat.{ℕ, ◌+◌, ◌*◌, ◌/◌}
use mathlib.Core.Path.{ap, ◌∙◌}
use mathlib.Core.List.{List, ◌++◌}
use lib.IntN.{ℤ}
use lib.ListN.{length, take, drop}
use Rattle.packed.specs.Layout.{encode, bytes_of, job_layout, record_bytes}
use Rattle.picking.specs.Picking.{IsLeast}
use Rattle.picking.specs.PuttingLaws.{can-pick, picks, job-given, can-make, next_fits, moves-on, job-next, job-room}
use Rattle.picking.proofs.put_next.Goals as goal
use Rattle.picking.proofs.put_next.Goals.{After-least-place}

pub least-place-requires : goal.least-place-requires
least-place-requires c = can-pick c.requires

-- What was picked is the least.
least : (c : After-least-place) → IsLeast c.args.next.now (length c.args.numbers.now / 6) c.least-place.result
least c = picks c.requires c.least-place.result c.least-place.ensures

pub count_of-requires : goal.count_of-requires
count_of-requires c =
    (job-given c.requires c.least-place.result (least (goal.at.count_of-requires c).After-least-place) c.read-job.result
    c.read-job.ensures).period.low

pub overflow_add-next : goal.overflow_add-next
overflow_add-next c =
    next_fits c.requires c.least-place.result (least (goal.at.overflow_add-next c).After-least-place) c.read-job.result
    c.read-job.ensures c.count_of.result c.count_of.ensures

pub job_of-requires : goal.job_of-requires
job_of-requires c =
    can-make c.requires c.least-place.result (least (goal.at.job_of-requires c).After-least-place) c.read-job.result
    c.read-job.ensures

pub put_job-requires : goal.put_job-requires
put_job-requires c =
    job-room c.requires c.least-place.result (least (goal.at.put_job-requires c).After-least-place) c.read-job.result
    c.read-job.ensures c.job_of.result c.job_of.ensures

pub returns : goal.returns
unfolding record_bytes
returns c =
    let l = least (goal.at.returns c).After-least-place in
    let k : ℕ = c.args.k in
    let order : List ℕ = c.args.order.now in
    let put : List ℤ → List ℕ = λ seven. take (4 + 8 * k) order ++ bytes_of 8 (encode (job_layout 0) seven) ++ drop (4 + 8 * k + 8) order in
    record {
      moves = moves-on c.requires c.least-place.result l c.read-job.result c.read-job.ensures c.count_of.result c.count_of.ensures;
      writes = c.put_job.ensures
          ∙ ap put (job-next c.requires c.least-place.result l c.read-job.result c.read-job.ensures c.job_of.result c.job_of.ensures);
    }
