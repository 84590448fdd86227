-- A plan written: the mask, then the starts of the jobs kept, one behind the other.
use Rattle.std.specs.Prelude.{ℕ, suc, ◌+◌, ◌*◌, ◌-◌, ◌%◌, ◌^◌, ◌≤◌, ◌<◌, ◌≡◌, refl, true, cond, List, [], ◌∷◌, ◌++◌, eqb, ltb, ℤ, pos, length, take, drop, get_or}
use Rattle.std.proofs.Common.{sym, ap, ap₂, ◌∙◌, add-one, arith, length-append, length-drop, length-take, drop_of_length-le, drop_at, drop-cons, take-suc, take_all, drop-drop, length-take-le, get_or-take, ltb-true, ltb-false, eqb-true}
use Rattle.std.proofs.Math.ListN.{get_or-append, get_or-eq_default}
use Rattle.std.proofs.lemmas.List.{take-append-le}
use Rattle.std.proofs.Math.Seq.{drop-append-add}
use Rattle.std.specs.Int.Signed.{lt_z}
use Rattle.std.proofs.lemmas.Bool.{eqb-false}
use borrow.Table.Steps.{cases}
use Rattle.seconds.specs.Limits.{left_out}
use Rattle.seconds.specs.Signed.{signed}
use Rattle.seconds.specs.Twos.{to_bits}
use Rattle.seconds.proofs.TwosLaws.{time-in}
use Rattle.packed.specs.Layout.{bytes_of, encode}
use Rattle.packed.proofs.LayoutLaws.{length-bytes_of}
use Rattle.packed_plan.specs.Plan.{plan_bytes, pad_bits, plan_number, pack_plan, starts_kept}
use Rattle.packed_plan.proofs.PlanLaws.{Starts}
use Rattle.packed_plan.proofs.BothWays.{packed-length}
use Rattle.packed_plan.proofs.Writing.{place_of, begins, goes_on, more-fits, more-at}
use Rattle.plan_bytes.specs.Asks.{begun_at, three_with, start_put, StartRoom, KeptRoom, PlanRoom}

-- ---- the mask

no-starts : (mask : ℕ) → pack_plan mask [] ≡ bytes_of 6 mask
unfolding pack_plan plan_number encode
no-starts mask = ap (bytes_of 6) (omega arith)

-- The mask is written over the front of some bytes.
module _ (bytes new : List ℕ) (mask : ℕ) (e : new ≡ take 0 bytes ++ bytes_of 6 mask ++ drop (0 + 6) bytes) where
  six : length (bytes_of 6 mask) ≡ 6
  six = length-bytes_of 6 mask

  -- It is a plan with no starts,
  pub mask-put : new ≡ pack_plan mask [] ++ drop 6 new
  mask-put =
      e ∙ ap₂ (λ x y. x ++ y) (sym (no-starts mask)) (sym (ap (drop 6) e ∙ drop_at (bytes_of 6 mask) (drop 6 bytes) 6 six))

  -- there is as much room as before,
  pub mask-room : {kept : List ℤ} → PlanRoom bytes mask kept → PlanRoom new mask kept
  mask-room r =
      let long : length new ≡ length bytes =
      ap length e ∙ length-append (bytes_of 6 mask) (drop 6 bytes) ∙ omega (arith, six, length-drop 6 bytes, r.room) in
      record { few = r.few; room = rw long r.room; small = r.small; timely = r.timely }

  -- and behind every plan all is as it was.
  pub mask-behind : (n : ℕ) → drop (plan_bytes n) new ≡ drop (plan_bytes n) bytes
  mask-behind n =
      let x : plan_bytes n ≡ length (bytes_of 6 mask) + (plan_bytes n - 6) = omega (arith, six) in
      let y : 6 + (plan_bytes n - 6) ≡ plan_bytes n = omega arith in
      ap₂ drop x e ∙ drop-append-add (bytes_of 6 mask) (drop 6 bytes) (plan_bytes n - 6) ∙ drop-drop (plan_bytes n - 6) 6 bytes
      ∙ ap (λ m. drop m bytes) y

-- ---- the starts

-- So many starts are written, of the jobs kept at the places before one; behind them all is as it was.
pub record Writing (bytes₀ : List ℕ) (mask : ℕ) (starts : List ℤ) (bytes : List ℕ) (k place : ℕ) : Type 0 where
  pub few : k ≤ length (starts_kept starts)
  pub done : bytes ≡ pack_plan mask (take k (starts_kept starts)) ++ drop (plan_bytes k) bytes₀
  pub left : drop k (starts_kept starts) ≡ starts_kept (drop place starts)

module _ (bytes₀ : List ℕ) (mask : ℕ) (starts : List ℤ) (r : PlanRoom bytes₀ mask (starts_kept starts)) where
  abbrev kept : List ℤ
  kept = starts_kept starts

  first-starts : (k : ℕ) → Starts (take k kept)
  first-starts k i = cases (ltb i (length (take k kept)))
      (λ e. let h : i < length (take k kept) = ltb-true i (length (take k kept)) e in
      let b : i < k = omega (arith, length-take k kept) in
      let there : i < length kept = omega (arith, length-take k kept) in
      rw (get_or-take k kept i (pos 0) b) (time-in (r.timely i there)))
      (λ e. rw (get_or-eq_default (take k kept) (pos 0) (ltb-false i (length (take k kept)) e))
      (record { low = omega signed; high = omega signed }))

  plan-long : (k : ℕ) → k ≤ length kept → length (pack_plan mask (take k kept)) ≡ plan_bytes k
  plan-long k h = packed-length mask (take k kept) r.small (first-starts k) ∙ ap plan_bytes (length-take-le k kept h)

  -- At first there are none.
  pub writing-starts : bytes₀ ≡ pack_plan mask [] ++ drop 6 bytes₀ → Writing bytes₀ mask starts bytes₀ 0 0
  writing-starts e = record { few = omega arith; done = e; left = refl }

  module _ (bytes : List ℕ) (k place : ℕ) (w : Writing bytes₀ mask starts bytes k place) where
    abbrev plan : List ℕ
    plan = pack_plan mask (take k kept)

    long : length plan ≡ plan_bytes k
    long = plan-long k w.few

    -- The length does not change.
    pub writing-long : length bytes ≡ length bytes₀
    writing-long =
        let b : plan_bytes k ≤ length bytes₀ = omega (arith, r.room, w.few) in
        ap length w.done ∙ length-append plan (drop (plan_bytes k) bytes₀) ∙ omega (arith, long, length-drop (plan_bytes k) bytes₀)

    -- Past the last place all are written.
    pub writing-all : length starts ≤ place
        → (k ≡ length kept) × (bytes ≡ pack_plan mask kept ++ drop (plan_bytes (length kept)) bytes₀)
    writing-all end =
        let none : drop k kept ≡ [] = w.left ∙ ap starts_kept (drop_of_length-le starts {i = place} end) in
        let all : k ≡ length kept = omega (arith, ap length none, length-drop k kept, w.few) in
        (all, w.done ∙ ap₂ (λ x y. pack_plan mask x ++ drop (plan_bytes y) bytes₀) (take_all k kept (omega arith)) all)

    -- The next start of a job kept.
    module _ (more : k < length kept) where
      abbrev start : ℤ
      start = get_or kept k (pos 0)

      -- What stands in the byte in which it begins is the plan's.
      begun-is : begun_at bytes (place_of k) k ≡ get_or plan (place_of k) 0
      begun-is = cases (eqb (k % 4) 0)
          (λ e. rw e (sym (get_or-eq_default plan 0 (rw long (begins k (eqb-true (k % 4) 0 e))))))
          (λ e. let inside : place_of k < length plan = rw long (goes_on k (eqb-false (k % 4) 0 e)) in
          let there : get_or bytes (place_of k) 0 ≡ get_or plan (place_of k) 0 =
          ap (λ l. get_or l (place_of k) 0) w.done ∙ get_or-append plan (drop (plan_bytes k) bytes₀) 0 (place_of k) inside in
          rw e there)

      three-is : three_with bytes k start ≡ get_or plan (place_of k) 0 * 65536 + to_bits 18 start * 2 ^ pad_bits (suc k)
      three-is = ap (λ x. x * 65536 + to_bits 18 start * 2 ^ pad_bits (suc k)) begun-is

      start-room : StartRoom bytes k start
      start-room =
          let in-time = r.timely k more in
          record {
            few = omega (arith, r.few);
            room = omega (arith, r.room, writing-long);
            timely = in-time;
            fits =
                rw three-is
                (more-fits mask (take k kept) start r.small (first-starts k) (time-in in-time) k (length-take-le k kept w.few));
          }

      -- With it the plan has one start more, and behind that all is as it was.
      start-done : start_put bytes k start ≡ pack_plan mask (take (suc k) kept) ++ drop (plan_bytes (suc k)) bytes₀
      start-done = ap₂ (λ x y. x ++ y) front back
        where
          front : take (place_of k) bytes ++ bytes_of 3 (three_with bytes k start) ≡ pack_plan mask (take (suc k) kept)
          front =
              ap₂ (λ x y. x ++ bytes_of 3 y)
              (ap (take (place_of k)) w.done
              ∙ take-append-le (place_of k) plan (drop (plan_bytes k) bytes₀) (omega (arith, long)))
              three-is
              ∙ sym (more-at mask (take k kept) start r.small (first-starts k) (time-in (r.timely k more)) k
              (length-take-le k kept w.few))
              ∙ ap (pack_plan mask) (sym (take-suc kept k (pos 0) more))

          back : drop (place_of k + 3) bytes ≡ drop (plan_bytes (suc k)) bytes₀
          back =
              let extra = plan_bytes (suc k) - plan_bytes k in
              let e1 : place_of k + 3 ≡ length plan + extra = omega (arith, long) in
              let e2 : plan_bytes k + extra ≡ plan_bytes (suc k) = omega arith in
              ap₂ drop e1 w.done ∙ drop-append-add plan (drop (plan_bytes k) bytes₀) extra
              ∙ drop-drop extra (plan_bytes k) bytes₀ ∙ ap (λ n. drop n bytes₀) e2

    -- The start at the next place.
    module _ (next : place < length starts) where
      abbrev here : ℤ
      here = get_or starts place (pos 0)

      to-come : drop k kept ≡ starts_kept (here ∷ drop (suc place) starts)
      to-come = w.left ∙ ap starts_kept (drop-cons starts place (pos 0) next)

      -- Where its job is kept, it is the next one of those.
      module _ (is : lt_z here left_out ≡ true) where
        next-kept : drop k kept ≡ here ∷ starts_kept (drop (suc place) starts)
        next-kept = to-come ∙ ap (λ b. cond b (here ∷ starts_kept (drop (suc place) starts)) (starts_kept (drop (suc place) starts))) is

        one_more : k < length kept
        one_more = omega (arith, ap length next-kept, length-drop k kept)

        both : get_or kept k (pos 0) ∷ drop (suc k) kept ≡ here ∷ starts_kept (drop (suc place) starts)
        both = sym (drop-cons kept k (pos 0) one_more) ∙ next-kept

        same_start : get_or kept k (pos 0) ≡ here
        same_start = ap (λ l. get_or l 0 (pos 0)) both

      pub kept-room : KeptRoom bytes k here
      kept-room = record { if_kept = λ is. rw (← (same_start is)) (start-room (one_more is)) }

      -- It is written, or left out.
      pub writing-on : (new : List ℕ) (m : ℕ) → m ≡ cond (lt_z here left_out) (suc k) k
          → new ≡ cond (lt_z here left_out) (start_put bytes k here) bytes → Writing bytes₀ mask starts new m (place + 1)
      writing-on new m counts writes = rw (add-one place) (cases (lt_z here left_out)
          (λ is. rw (counts, is)
          (record {
            few = one_more is;
            done = writes ∙ ap (λ b. cond b (start_put bytes k here) bytes) is ∙ ap (start_put bytes k) (sym (same_start is))
                ∙ start-done (one_more is);
            left = ap (drop 1) (both is);
          }))
          (λ out. rw (counts, out)
          (record {
            few = w.few;
            done = writes ∙ ap (λ b. cond b (start_put bytes k here) bytes) out ∙ w.done;
            left = to-come
                ∙ ap (λ b. cond b (here ∷ starts_kept (drop (suc place) starts)) (starts_kept (drop (suc place) starts))) out;
          })))
