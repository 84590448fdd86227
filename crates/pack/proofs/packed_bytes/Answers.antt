-- `pack::packed_bytes` meets its contract: the header's bytes and those of each job.
-- Assumes nothing.
use mathlib.Core.Path.{◌≡◌}
use Prim.Native.Nat.{ℕ, ◌*◌, ◌≤◌}
use native.Mathlib.Nat.{mul-le-mul}
use native.Mathlib.Omega.{arith}
use Rattle.packed.specs.Layout.{record_bytes}
use Rattle.packed.proofs.LayoutLaws.{bytes-few}
use Rattle.pack.proofs.packed_bytes.Goals as goal

-- At most nine bytes a job.
few : (kind size count : ℕ) → size ≡ record_bytes kind → count ≤ 48 → size * count ≤ 9 * 48
few kind size count sized h =
    let small : size ≤ 9 = omega (arith, sized, (bytes-few kind).1) in
    mul-le-mul small h

pub overflow_mul-result : goal.overflow_mul-result
overflow_mul-result c =
    let h = few c.args.kind c.record_bytes.result c.args.count c.record_bytes.ensures c.requires in
    omega (arith, h)

pub overflow_add-result : goal.overflow_add-result
overflow_add-result c =
    let h = few c.args.kind c.record_bytes.result c.args.count c.record_bytes.ensures c.requires in
    omega (arith, h)
