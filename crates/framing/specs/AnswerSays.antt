-- What an answer of framing says: with 16 the first job that may not repeat, and with bytes that planning accepts them as the order of
-- the frame, whose every job leaves the bus free by its end.
use Rattle.std.specs.Prelude.{ℕ, ◌+◌, ◌*◌, ◌%◌, ◌≤◌, ◌<◌, ◌≡◌, refl, Bool, ◌↔◌, ◌≢◌, List, [], ◌++◌, T, ltb, eqb, ℤ, pos, length, take, drop, Ok, Err}
use Rattle.std.proofs.Common.{sym, ap, ◌∙◌, arith, take_at, ltb-true, ltb-false, lt-ltb, le-ltb, eqb-true, eq-eqb}
use Rattle.std.proofs.Math.Logic.Iff
use borrow.Table.Steps.{cases}
use Rattle.order.specs.Job.{Order}
use Rattle.order.specs.Later.{AllInFrame}
use Rattle.packed.specs.declared.Refusal.{Refusal}
use Rattle.packed.specs.Judge.{plainly, at_place, no_refusal, refusal_of, Verdict, fine, refused, judge}
use Rattle.packed.specs.JudgeLaws.{stages-fine, Tells, judge-tells, every_number, number-passes, given-before}
use Rattle.packed.specs.Layout.{record_bytes}
use Rattle.packed.specs.Packed.{kind_of, order_from, order_of}
use Rattle.packed.specs.PlacesLaws.{IsFirst, first-unique}
use Rattle.packed.specs.Refusals.{weight_checks, room_checks, order_checks}
use Rattle.packed.proofs.RefusalPlaces.{nowhere, answer-says}
use Rattle.packed.proofs.RoundTrip.{unpack-pack, pack-kind}
use Rattle.frames.specs.Frames.{jobs_given, unfit_at, first_unfit, frame_of, repeat_count, frame_numbers, frame_bytes}
use Rattle.frames.specs.Frames.{given_checks, made_checks, making_checks, frame_checks}
use Rattle.frames.proofs.GivenLaws.{unfit-is-first}
use Rattle.frames.specs.Facts.{MakingFine}
use Rattle.frames.proofs.FrameLaws.{frame-kind, making-fine, made-fine, inside-frame}
use Rattle.framing.specs.Answer.{Framed, framed_by, order_by, framed_of, order_after, bytes_written, frame_told}
use Rattle.framing.specs.declared.FrameOrder.{FrameOrder}

-- ---- the order written

-- The order of a frame: the bus is free at 0, and the jobs are the repeats.
abbrev pub frame_order : List ℤ → Order
frame_order zs = order_from (pos 0) (frame_numbers zs)

-- The front of the bytes at exit is an order of kind 0 that planning accepts (1 to 7, 9 and 19 do not apply), the order of the frame
-- that the answer tells, and each of its jobs stands in that frame.
pub record FrameWritten (zs : List ℤ) (order : List ℕ) (made : FrameOrder) : Type 0 where
  pub front : take made.bytes order ≡ frame_bytes zs
  pub kind : kind_of (take made.bytes order) ≡ 0
  pub accepted : judge (order_checks (take made.bytes order)) ≡ fine
  pub says : order_of (take made.bytes order) ≡ frame_order zs
  pub frame : made.frame ≡ frame_of zs
  pub inside : AllInFrame (pos made.frame) (frame_order zs).jobs

order-says : (zs : List ℤ) → MakingFine zs → (judge (order_checks (frame_bytes zs)) ≡ fine) × (order_of (frame_bytes zs) ≡ frame_order zs)
unfolding order_of
order-says zs f =
    let back = unpack-pack (pos 0) (frame_numbers zs) (made-fine f) in
    (back.0, rw (back.1, back.2))

-- Every answer with bytes says so.
pub frame-written : (zs : List ℤ) (was order : List ℕ) (made : FrameOrder) → framed_of zs (length was) ≡ Ok made
    → order ≡ order_after zs was → FrameWritten zs order made
unfolding record_bytes
frame-written zs was order made e lent = go (judge (frame_checks zs (length was))) refl
  where
    go : (v : Verdict) → judge (frame_checks zs (length was)) ≡ v → FrameWritten zs order made
    go (refused r) f = let z : ◌≡◌ {A = ℕ} 0 1 = cc in absurd (omega arith)
    go fine f =
        let told : framed_by zs fine ≡ Ok made = ap (framed_by zs) (sym f) ∙ e in
        let long : length (frame_bytes zs) ≡ made.bytes = ap bytes_written told in
        let frame : frame_of zs ≡ made.frame = ap frame_told told in
        let behind : List ℕ = drop (length (frame_bytes zs)) was in
        let is : order ≡ frame_bytes zs ++ behind = lent ∙ ap (order_by zs was) f in
        let front : take made.bytes order ≡ frame_bytes zs =
        ap (take made.bytes) is ∙ take_at (frame_bytes zs) behind made.bytes long in
        let making = making-fine zs ((stages-fine (making_checks zs) (room_checks (4 + 8 * repeat_count zs) (length was))).0 f).0 in
        let says = order-says zs making in
        record {
          front = front;
          kind = ap kind_of front ∙ pack-kind (pos 0) (frame_numbers zs) (made-fine making) ∙ frame-kind zs;
          accepted = ap (λ (b : List ℕ). judge (order_checks b)) front ∙ says.0;
          says = ap order_of front ∙ says.1;
          frame = sym frame;
          inside = rw (← frame) (inside-frame making);
        }

-- ---- the refusal

-- With 16 it names the first job that may not repeat; with every other number it names nothing.
pub data FrameRefusal (zs : List ℤ) : Refusal → Type 0 where
  unfit : {p : ℕ} → IsFirst (unfit_at zs) 0 (jobs_given zs) p → p < jobs_given zs → FrameRefusal zs (at_place 16 p)
  unplaced : {n : ℕ} → n ≢ 16 → FrameRefusal zs (plainly n)

tells : (zs : List ℤ) (room : ℕ) → Tells (FrameRefusal zs) (frame_checks zs room)
unfolding given_checks made_checks weight_checks
tells zs room = (
  λ e. unplaced {n = 3} (λ h. absurd (omega arith)),
  (
    λ e. unplaced {n = 4} (λ h. absurd (omega arith)),
    (
      λ e. unfit (unfit-is-first zs) (ltb-true _ _ e),
      (
        λ e. unplaced {n = 17} (λ h. absurd (omega arith)),
        (
          λ e. unplaced {n = 3} (λ h. absurd (omega arith)),
          (
            λ e. unplaced {n = 9} (λ h. absurd (omega arith)),
            (λ e. unplaced {n = 10} (λ h. absurd (omega arith)), tt),
          ),
        ),
      ),
    ),
  ),
)

pub frame-refusal : (zs : List ℤ) (room : ℕ) → FrameRefusal zs (refusal_of (framed_of zs room))
frame-refusal zs room = go (judge (frame_checks zs room)) refl
  where
    go : (v : Verdict) → judge (frame_checks zs room) ≡ v → FrameRefusal zs (refusal_of (framed_by zs v))
    go fine e = unplaced {n = 0} (λ h. absurd (omega arith))
    go (refused r) e = judge-tells (FrameRefusal zs) (frame_checks zs room) (tells zs room) e

-- 16 is given with a place exactly when there are at most 96 numbers, six a job, and that is the first job that may not repeat.
pub record Unfit (zs : List ℤ) (p : ℕ) : Type 0 where
  pub few : length zs ≤ 96
  pub whole : length zs % 6 ≡ 0
  pub first : IsFirst (unfit_at zs) 0 (jobs_given zs) p
  pub there : p < jobs_given zs

given-sixteen : (zs : List ℤ) (p : ℕ) → judge (given_checks zs) ≡ refused (at_place 16 p) ↔ Unfit zs p
unfolding given_checks
given-sixteen zs p = (there, back)
  where
    number : Verdict → ℕ
    number fine = 0
    number (refused r) = r.number

    place : Verdict → ℕ
    place fine = 0
    place (refused r) = r.place

    there : judge (given_checks zs) ≡ refused (at_place 16 p) → Unfit zs p
    there e = cases (ltb 96 (length zs)) (λ a. let z : ◌≡◌ {A = ℕ} 3 16 = ap number (rw a at e) in absurd (omega arith))
        (λ a. cases (eqb (length zs % 6) 0)
        (λ b. cases (ltb (first_unfit zs) (jobs_given zs))
        (λ c. let same : first_unfit zs ≡ p = ap place (rw (a, b, c) at e) in
        record {
          few = ltb-false 96 (length zs) a;
          whole = eqb-true (length zs % 6) 0 b;
          first = rw same at (unfit-is-first zs);
          there = rw same at (ltb-true (first_unfit zs) (jobs_given zs) c);
        })
        (λ c. let z : ◌≡◌ {A = ℕ} 0 16 = ap number (rw (a, b, c) at e) in absurd (omega arith)))
        (λ b. let z : ◌≡◌ {A = ℕ} 4 16 = ap number (rw (a, b) at e) in absurd (omega arith)))

    back : Unfit zs p → judge (given_checks zs) ≡ refused (at_place 16 p)
    back u =
        let same : first_unfit zs ≡ p = first-unique (unfit_at zs) 0 (jobs_given zs) (first_unfit zs) p (unfit-is-first zs) u.first in
        rw (le-ltb 96 (length zs) u.few, eq-eqb (length zs % 6) 0 u.whole, same, lt-ltb p (jobs_given zs) u.there)

pub sixteen-is : (zs : List ℤ) (room p : ℕ) → refusal_of (framed_of zs room) ≡ at_place 16 p ↔ Unfit zs p
unfolding record_bytes made_checks weight_checks
sixteen-is zs room p =
    let rooms = room_checks (4 + 8 * repeat_count zs) room in
    let told : Verdict → Refusal = λ v. refusal_of (framed_by zs v) in
    Iff.trans (answer-says [] told (λ r. refl) (nowhere {n = 0} refl) (at_place 16 p) (λ e. omega arith) (judge (frame_checks zs room)))
    (Iff.trans (given-before (making_checks zs) rooms (at_place 16 p) tt)
    (Iff.trans (given-before (given_checks zs ++ made_checks zs) (weight_checks 0 (frame_numbers zs)) (at_place 16 p) tt)
    (Iff.trans (given-before (given_checks zs) (made_checks zs) (at_place 16 p) tt) (given-sixteen zs p))))

-- A test that 0 and the number of every check pass is passed by the number told.
pub frame-passes : (zs : List ℤ) (room : ℕ) (test : ℕ → Bool) → T (test 0) → T (every_number test (frame_checks zs room))
    → T (test (refusal_of (framed_of zs room)).number)
frame-passes zs room test none t = go (judge (frame_checks zs room)) refl
  where
    go : (v : Verdict) → judge (frame_checks zs room) ≡ v → T (test (refusal_of (framed_by zs v)).number)
    go fine p = none
    go (refused r) p = number-passes test (frame_checks zs room) t p

-- ---- the answer in numbers

-- Refused: what the first check that applies says, no bytes and no frame.
pub refused_says : (zs : List ℤ) (room : ℕ) {r : Refusal} → judge (frame_checks zs room) ≡ refused r
    → let a = framed_of zs room in (refusal_of a ≡ r) × (bytes_written a ≡ 0) × (frame_told a ≡ 0)
refused_says zs room e = rw e (refl, refl, refl)

-- Not refused: the bytes of the order, and its frame.
pub frame-says : (zs : List ℤ) (room : ℕ) → judge (frame_checks zs room) ≡ fine
    → let a = framed_of zs room in
    (refusal_of a ≡ no_refusal) × (bytes_written a ≡ length (frame_bytes zs)) × (frame_told a ≡ frame_of zs)
frame-says zs room e = rw e (refl, refl, refl)

-- Every other number of a refused answer is 0.
pub refused-else-0 : (a : Framed) → (refusal_of a).number ≢ 0 → (bytes_written a ≡ 0) × (frame_told a ≡ 0)
refused-else-0 (Err r) h = (refl, refl)
refused-else-0 (Ok f) h = absurd (h refl)
