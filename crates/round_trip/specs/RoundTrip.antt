-- Both ways without loss, proved: what unpacking gave packs to the same bytes, and what packing wrote unpacks to the same
-- bus-free time and numbers.
use Rattle.std.specs.Prelude.{ℕ, ◌+◌, ◌*◌, ◌≤◌, ◌≡◌, List, ℤ, length, take}
use Rattle.std.proofs.Common.{sym, ap, ap₂, ◌∙◌, arith, take_at}
use Rattle.packed.specs.Judge.{fine, judge}
use Rattle.packed.specs.Layout.{record_bytes}
use Rattle.packed.specs.Packed.{kind_for, count_of, t0_of, numbers_of, job_count, pack_order}
use Rattle.packed.proofs.PackedLaws.{length-numbers, numbers-count, length-packed}
use Rattle.packed.specs.Refusals.{order_checks, number_checks}
use Rattle.packed.proofs.RoundTrip.{unpack-pack, pack-unpack, one_form}
use Rattle.unpack.specs.Answer.{Answer, Jobs, unpack_of, numbers_after, jobs_unpacked}
use Rattle.unpack.specs.AnswerLaws.{unpacks-order}
use Rattle.unpack.specs.AnswerSays.{jobs-accepted}
use Rattle.pack.specs.Answer.{Packed, pack_of, bytes_after, bytes_written}
use Rattle.pack.specs.AnswerLaws.{packs-order}
use Rattle.pack.specs.AnswerSays.{bytes-accepted}
use Rattle.round_trip.specs.BothWays.{Unpacking, Unpacks, time_told, numbers_lent, numbers_left, unpacked}
use Rattle.round_trip.specs.BothWays.{Packing, bytes_lent, bytes_left, packed}
use Rattle.round_trip.specs.BothWays.{SameBytes, UnpackedThenPacked, SameNumbers, PackedThenUnpacked, OneForm}

-- ---- a call with room

module _ {bytes : List ℕ} (u : Unpacking bytes) where
  -- What the contract of unpacking says of it.
  unpack-call : (u.answer ≡ unpack_of bytes (length (numbers_lent u))) × (numbers_left u ≡ numbers_after bytes (numbers_lent u))
  unpack-call = rw u.given at u.allowed

  -- An order unpacks to its bus-free time and numbers.
  unpacks : judge (order_checks bytes) ≡ fine → 7 * count_of bytes ≤ length (numbers_lent u)
      → SameNumbers (t0_of bytes) (numbers_of bytes) u
  unpacks order room =
      let done = unpacks-order bytes (numbers_lent u) order room in
      let answers : u.answer ≡ Jobs (count_of bytes) (t0_of bytes) = unpack-call.0 ∙ sym done.0 in
      let leaves = unpack-call.1 ∙ sym done.1 in
      record {
        answers = rw (numbers-count bytes) answers;
        writes =
            ap₂ (λ (r : Answer) (out : List ℤ). take (7 * jobs_unpacked r) out) answers leaves
            ∙ take_at (numbers_of bytes) _ (7 * count_of bytes) (length-numbers bytes);
        leaves = leaves;
      }

  -- So what it accepts is an order, and this is what it told and wrote of it.
  record Told : Type 0 where
    order : judge (order_checks bytes) ≡ fine
    time : time_told u ≡ t0_of bytes
    numbers : unpacked u ≡ numbers_of bytes

  told : Unpacks u → Told
  told accepted =
      let a = jobs-accepted bytes (length (numbers_lent u)) (sym unpack-call.0 ∙ accepted) in
      record { order = a.order; time = a.timed; numbers = (unpacks a.order a.enough).writes }

module _ {t0 : ℤ} {numbers : List ℤ} (p : Packing t0 numbers) where
  -- What the contract of packing says of it.
  pack-call : (p.answer ≡ pack_of t0 numbers (length (bytes_lent p))) × (bytes_left p ≡ bytes_after t0 numbers (bytes_lent p))
  pack-call = rw (p.time, p.given) at p.allowed

  -- An order in numbers packs to its bytes.
  packs : judge (number_checks t0 numbers) ≡ fine → 4 + record_bytes (kind_for numbers) * job_count numbers ≤ length (bytes_lent p)
      → SameBytes (pack_order t0 numbers) p
  packs order room =
      let done = packs-order t0 numbers (bytes_lent p) order room in
      let answers = pack-call.0 ∙ sym done.0 in
      let leaves = pack-call.1 ∙ sym done.1 in
      record {
        answers = answers;
        writes =
            ap₂ (λ (r : Packed) (out : List ℕ). take (bytes_written r) out) answers leaves
            ∙ take_at (pack_order t0 numbers) _ (length (pack_order t0 numbers)) (omega arith);
        leaves = leaves;
      }

-- ---- one after the other

-- What unpacking gave is packed to the same bytes.
pub unpacked-then-packed : UnpackedThenPacked
unpacked-then-packed bytes all u accepted p room =
    let t = told u accepted in
    let back = pack-unpack bytes all t.order in
    let same : pack_order (time_told u) (unpacked u) ≡ bytes = rw (t.time, t.numbers) back.1 in
    let order : judge (number_checks (time_told u) (unpacked u)) ≡ fine = rw (t.time, t.numbers) back.0 in
    let enough : 4 + record_bytes (kind_for (unpacked u)) * job_count (unpacked u) ≤ length (bytes_lent p) =
    omega (arith, length-packed (kind_for (unpacked u)) (time_told u) (unpacked u), ap length same) in
    rw same at (packs p order enough)

-- What packing wrote is unpacked to the same bus-free time and numbers.
pub packed-then-unpacked : PackedThenUnpacked
packed-then-unpacked t0 numbers p accepted u room =
    let a = bytes-accepted t0 numbers (length (bytes_lent p)) (sym (pack-call p).0 ∙ accepted) in
    let there = unpack-pack t0 numbers a.order in
    let wrote : packed p ≡ pack_order t0 numbers = (packs p a.order a.enough).writes in
    let order : judge (order_checks (packed p)) ≡ fine = rw wrote there.0 in
    let time : t0_of (packed p) ≡ t0 = rw wrote there.1 in
    let same : numbers_of (packed p) ≡ numbers = rw wrote there.2 in
    let enough : 7 * count_of (packed p) ≤ length (numbers_lent u) = omega (arith, length-numbers (packed p), ap length same) in
    rw (time, same) at (unpacks u order enough)

-- ---- one form

pub one-packed-form : OneForm
one-packed-form first second all others u v accepted too same-time same_numbers =
    let t = told u accepted in
    let s = told v too in
    one_form first second all others t.order s.order (sym t.time ∙ same-time ∙ s.time)
    (sym t.numbers ∙ same_numbers ∙ s.numbers)
