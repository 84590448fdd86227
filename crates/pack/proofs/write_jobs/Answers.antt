-- `pack::write_jobs` meets its contract: a turn writes the bytes of one job more. Assumes nothing.
use mathlib.Core.Path.{◌≡◌, sym, refl, ap, ap₂, ◌∙◌}
use mathlib.Core.List.{List, ◌++◌}
use Prim.Native.Nat.{ℕ, ◌+◌, ◌*◌}
use native.Mathlib.Omega.{arith}
use lib.IntN.{ℤ}
use lib.ListN.{take, drop}
use Rattle.packed.specs.Layout.{encode, bytes_of, job_layout, record_bytes}
use Rattle.packed.specs.Packed.{fields_at, has_pack}
use Rattle.packed.specs.PlacesLaws.{part-below}
use Rattle.packed.specs.Refusals.{fields_within}
use Rattle.fields.specs.Fields.{fields_of}
use Rattle.fields.specs.Facts.{read-from}
use Rattle.pack.specs.WritingLaws.{none_written, one_more}
use Rattle.pack.proofs.write_jobs.Goals as goal

pub loop-k-init : goal.loop-k-init
loop-k-init c = sym (none_written c.args.kind c.args.numbers.now c.args.bytes.now)

pub put_job-requires : goal.put_job-requires
put_job-requires c =
    let k : ℕ = c.loop-k.k in
    let zs : List ℤ = c.args.numbers.now in
    let read : fields_of c.job_from-job.result ≡ fields_at c.args.numbers.now c.loop-k.k =
    read-from zs k (7 * k) c.job_from-job.result refl c.job_from-job.ensures in
    let below = part-below (record_bytes c.args.kind) c.loop-k-test.true in
    record {
      room = omega (arith, c.packed_bytes.ensures, below, c.requires.room);
      fits =
          record {
            within = ap fields_within read ∙ c.requires.within k c.loop-k-test.true;
            kinded = λ e. ap has_pack read ∙ c.requires.kinded k c.loop-k-test.true e;
          };
    }

pub loop-k-preserved : goal.loop-k-preserved
loop-k-preserved c =
    let k : ℕ = c.loop-k.k in
    let kind : ℕ = c.args.kind in
    let zs : List ℤ = c.args.numbers.now in
    let fields : List ℤ = fields_of c.job_from-job.result in
    let read : fields_of c.job_from-job.result ≡ fields_at c.args.numbers.now c.loop-k.k =
    read-from zs k (7 * k) c.job_from-job.result refl c.job_from-job.ensures in
    let job-bytes : List ℕ = bytes_of (record_bytes kind) (encode (job_layout kind) fields) in
    c.put_job.ensures
    ∙ ap₂ (λ (n : ℕ) (bs : List ℕ). take n bs ++ job-bytes ++ drop (n + record_bytes kind) bs)
    c.packed_bytes.ensures c.loop-k.invariant
    ∙ one_more kind zs c.args.bytes.now k fields (omega (arith, c.requires.room)) read
