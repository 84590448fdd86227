-- The laws of turns: one as the code takes it, and all of them one after the other.
use Rattle.std.specs.Prelude.{ℕ, zero, suc, ◌+◌, ◌*◌, ◌-◌, ◌/◌, ◌%◌, ◌^◌, ◌≤◌, ◌<◌, ◌≡◌, refl, Bool, true, false, cond, ◌&&◌, Option, Some, None, List, [], ◌∷◌, eqb, ℤ, nat_abs, ◌+ℤ◌, length, take, drop, ◌≤ℤ◌}
use Rattle.std.proofs.Common.{sym, ap₂, ◌∙◌, mod-lt, mod-eq_of_lt, add-one, arith, drop_of_length-le, pow_pos, SFits, of_z, eqb-true}
use Rattle.std.proofs.Math.Path.{ap}
use Rattle.std.proofs.Math.Bool.{not, and_assoc}
use Rattle.std.proofs.lemmas.Bool.{not-true, not-false, eqb-false}
use Rattle.std.proofs.Math.Option.{some}
use Rattle.std.proofs.Math.Nat.{sub-zero}
use Rattle.std.specs.Int.Count.{ones}
use Rattle.std.proofs.Math.IntN.{pos}
use Rattle.std.proofs.Math.ListN.{get_elem?}
use Rattle.std.specs.Int.Signed.{le_z}
use Rattle.std.specs.Int.{w32}
use borrow.Table.Steps.{cases}
use Rattle.seconds.specs.Limits.{rest}
use Rattle.seconds.specs.Ranges.{InTime}
use Rattle.seconds.specs.Signed.{signed, abs_is, one-zero, add_is}
use Rattle.seconds.proofs.TwosLaws.{InBits, bits_to-in}
use Rattle.order.specs.Job.{Job}
use Rattle.packed.specs.Layout.{number_of}
use Rattle.packed.specs.Packed.{job_of}
use Rattle.packed.specs.Places.{each_of}
use Rattle.fields.specs.declared.Job.{Job as Numbers}
use Rattle.fields.specs.Fields.{as_job}
use Rattle.fields.specs.Facts.{JobFacts, mark-bits}
use Rattle.fields.specs.Places.{drop_more}
use Rattle.packed_plan.specs.Plan.{plan_bytes, pad_bits}
use Rattle.packed_plan.proofs.PlanLaws.{ones-0}
use Rattle.packed_plan.proofs.Writing.{place_of}
use Rattle.plan_bytes.specs.Asks.{StartThere, start_from}
use Rattle.legal.specs.Legal.{end_of, start_legal, legal_from}
use Rattle.legal.proofs.LegalLaws.{start-legal}
use Rattle.checking.specs.Turns.{kept_by, turn_of}
use Rattle.checking.specs.Marks.{kept-none, kept_more, zeros-up, ones-left}
use Rattle.checking.specs.declared.Turn.{Turn}

-- ---- one turn, as the code takes it

-- A start is a number of 18 bits.
pub start-in : (plan : List ℕ) (k : ℕ) → InBits 18 (start_from plan k)
start-in plan k =
    let above = number_of (take 3 (drop (place_of k) plan)) / 2 ^ pad_bits (suc k) in
    bits_to-in 17 (above % 2 ^ 18) (mod-lt above (pow_pos 18))

module _ (j : Numbers) (f : JobFacts j) where
  -- Left out.
  pub turn-left : (s free : ℤ) (k : ℕ)
      → turn_of (as_job j) false s k free ≡ cond (eqb (of_z w32 j.critical) 1) None (Some (record { next = k; free = free }))
  unfolding job_of
  turn-left s free k = λ i. cond (sym (mark-bits j.critical f.critical) i) None (Some (record { next = k; free = free }))

  module _ (s free : ℤ) (inb : InBits 18 s) where
    end_is : end_of (as_job j) s ≡ s +ℤ j.length
    unfolding job_of
    end_is =
        let long : pos (nat_abs j.length) ≡ j.length = omega (signed, abs_is j.length, one-zero j.length, f.long) in
        ap (λ z. s +ℤ z) long

    -- The tests that the code makes,
    pub tests-are : (le_z free s && le_z j.ready s && le_z (s +ℤ j.length) j.deadline) ≡ start_legal (as_job j) s free
    unfolding job_of
    tests-are =
        and_assoc (le_z free s) (le_z j.ready s) (le_z (s +ℤ j.length) j.deadline)
        ∙ ap (λ e. le_z free s && (le_z j.ready s && le_z e j.deadline)) (sym end_is)

    -- of a finish that has room,
    pub end_fits : SFits w32 (s +ℤ j.length)
    end_fits = omega (signed, inb, f.long, add_is s j.length)

    -- and, where they are passed, is a time.
    pub end-in : start_legal (as_job j) s free ≡ true → InTime (s +ℤ j.length)
    unfolding job_of
    end-in e =
        let l = start-legal (as_job j) s free e in
        let d : (s +ℤ j.length) ≤ℤ j.deadline = rw end_is at l.ends_by in
        record {
          low = omega (signed, l.ready_by, f.ready, f.long, add_is s j.length);
          high = omega (signed, d, f.deadline);
        }

    -- Kept, and legal or not.
    pub turn-legal : (k : ℕ) → start_legal (as_job j) s free ≡ true
        → turn_of (as_job j) true s k free ≡ Some (record { next = k + 1; free = (s +ℤ j.length) +ℤ pos rest })
    turn-legal k e = rw (e, end_is)

    pub turn-not : (k : ℕ) → start_legal (as_job j) s free ≡ false → turn_of (as_job j) true s k free ≡ None
    turn-not k e = rw e

-- ---- one turn, and the test of a plan

-- Some starts of a plan, from a place on.
abbrev starts_from : List ℕ → ℕ → ℕ → List ℤ
starts_from plan k m = each_of (start_from plan) k m

-- The test behind a turn: a kept job has taken one of the starts that were left. Where the turn is not legal it is not passed.
abbrev behind : List Job → List Bool → List ℕ → ℕ → ℕ → Option Turn → Bool
behind js ks plan m k None = false
behind js ks plan m k (Some t) = legal_from js ks (starts_from plan t.next (m - (t.next - k))) t.free

-- The test from a job on is that behind its turn.
after_turn : (j : Job) (js : List Job) (b : Bool) (ks : List Bool) (plan : List ℕ) (m k : ℕ) (free : ℤ) → (b ≡ true → 0 < m)
    → legal_from (j ∷ js) (b ∷ ks) (starts_from plan k m) free ≡ behind js ks plan m k (turn_of j b (start_from plan k) k free)
after_turn j js false ks plan m k free h =
    let e : m - (k - k) ≡ m = omega arith in
    cases j.critical (λ c. rw c) (λ c. rw (c, e))
after_turn j js true ks plan zero k free h = absurd (omega (arith, h refl))
after_turn j js true ks plan (suc m) k free h =
    let e : suc m - (k + 1 - k) ≡ m = omega arith in
    cases (start_legal j (start_from plan k) free) (λ c. rw (c, e, add-one k)) (λ c. rw c)

-- ---- all turns

module _ (js : List Job) (n : ℕ) (t0 : ℤ) (mask : ℕ) (plan : List ℕ) where
  -- The answer.
  abbrev pub whole : Bool
  whole = legal_from js (kept_by n mask) (each_of (start_from plan) 0 (ones mask)) t0

  -- The answer is the answer from here on; as many starts are left as ones in the mask, and none of these is beyond the jobs.
  pub record Judging (free : ℤ) (left k i : ℕ) : Type 0 where
    pub few : i ≤ n
    pub fits : left < 2 ^ 64
    pub count : k + ones left ≡ ones mask
    pub zeros : left % 2 ^ (64 - (n - i)) ≡ 0
    pub answer : legal_from (drop i js) (kept_by (n - i) left) (each_of (start_from plan) k (ones left)) free ≡ whole

  pub judging-starts : mask < 2 ^ 64 → mask % 2 ^ (64 - n) ≡ 0 → Judging t0 mask 0 0
  judging-starts h z =
      record { few = omega arith; fits = h; count = omega arith; zeros = rw (sub-zero n) z; answer = rw (sub-zero n) refl }

  module _ {free : ℤ} {left k i : ℕ} (w : Judging free left k i) (more : i < n) (j : Job) (there : get_elem? js i ≡ some j) where
    abbrev kept : Bool
    kept = not (eqb (left / 2 ^ 63) 0)

    abbrev turn : Option Turn
    turn = turn_of j kept (start_from plan k) k free

    kept-one : kept ≡ true → left / 2 ^ 63 ≡ 1
    kept-one e =
        let some : left / 2 ^ 63 ≡ 0 → ⊥ = eqb-false (left / 2 ^ 63) 0 (not-true (eqb (left / 2 ^ 63) 0) e) in
        omega (arith, w.fits)

    some_left : kept ≡ true → 0 < ones left
    some_left e = omega (arith, kept-one e, ones-left left w.fits)

    -- A kept job has its start.
    pub has-start : length plan ≡ plan_bytes (ones mask) → ones mask ≤ 48 → kept ≡ true → StartThere plan k
    has-start l m e =
        let a : k < ones mask = omega (arith, w.count, some_left e) in
        record { few = omega arith; room = omega (arith, l) }

    -- The test from the next job on.
    abbrev onward : Option Turn → Bool
    onward = behind (drop (i + 1) js) (kept_by (n - (i + 1)) (left % 2 ^ 63 * 2)) plan (ones left) k

    from-here : whole ≡ onward turn
    from-here =
        let jobs-left : drop i js ≡ j ∷ drop (i + 1) js = rw (add-one i) (drop_more js i there) in
        let e : n - i ≡ suc (n - (i + 1)) = omega arith in
        let marks : kept_by (n - i) left ≡ kept ∷ kept_by (n - (i + 1)) (left % 2 ^ 63 * 2) = rw e (kept_more (n - (i + 1)) left) in
        sym w.answer
        ∙ ap₂ (λ x y. legal_from x y (starts_from plan k (ones left)) free) jobs-left marks
        ∙ after_turn j (drop (i + 1) js) kept (kept_by (n - (i + 1)) (left % 2 ^ 63 * 2)) plan (ones left) k free some_left

    -- A turn that is not legal ends it,
    pub judging-stops : turn ≡ None → false ≡ whole
    judging-stops e = sym (from-here ∙ ap onward e)

    -- and a legal one takes as many starts as its bit says.
    taken : (t : Turn) → turn ≡ Some t → t.next ≡ k + left / 2 ^ 63
    taken t e = go kept refl e
      where
        go : (b : Bool) → kept ≡ b → turn_of j b (start_from plan k) k free ≡ Some t → t.next ≡ k + left / 2 ^ 63
        go true b f =
            let one = kept-one b in
            cases (start_legal j (start_from plan k) free)
            (λ c. let s = rw c at f in let e : k + 1 ≡ t.next = cc in omega arith) (λ c. let s = rw c at f in cc)
        go false b f =
            let none : left / 2 ^ 63 ≡ 0 = eqb-true (left / 2 ^ 63) 0 (not-false (eqb (left / 2 ^ 63) 0) b) in
            cases j.critical (λ c. let s = rw c at f in cc) (λ c. let s = rw c at f in let e : k ≡ t.next = cc in omega arith)

    -- On to the next job.
    pub judging-on : n ≤ 48 → (t : Turn) → turn ≡ Some t → Judging t.free (left % 2 ^ 63 * 2) t.next (i + 1)
    judging-on most t e =
        let o = ones-left left w.fits in
        let same : ones left - (t.next - k) ≡ ones (left % 2 ^ 63 * 2) = omega (arith, taken t e, o) in
        record {
          few = omega arith;
          fits = omega (arith, w.fits);
          count = omega (arith, taken t e, o, w.count);
          zeros =
              let d = 64 - (n - i) in
              let up : 64 - (n - (i + 1)) ≡ suc d = omega arith in
              rw up (zeros-up left d (omega arith) w.zeros);
          answer =
              ap (λ m. legal_from (drop (i + 1) js) (kept_by (n - (i + 1)) (left % 2 ^ 63 * 2)) (starts_from plan t.next m) t.free)
              (sym same)
              ∙ sym (from-here ∙ ap onward e);
        }

  -- All turns are legal.
  pub judging-ends : {free : ℤ} {left k i : ℕ} → n ≤ i → length js ≡ n → Judging free left k i → true ≡ whole
  judging-ends {free} {left} {k} {i} h all w =
      let e : n - i ≡ 0 = omega arith in
      let up : 64 - (n - i) ≡ 64 = omega arith in
      let zero_left : left ≡ 0 = sym (mod-eq_of_lt w.fits) ∙ rw up at w.zeros in
      let none : ones left ≡ 0 = rw zero_left ones-0 in
      let no-jobs : drop i js ≡ [] = drop_of_length-le js {i = i} (omega arith) in
      sym (ap (λ x. legal_from x [] [] free) no-jobs)
      ∙ sym (ap₂ (λ x y. legal_from (drop i js) x y free) (ap (λ m. kept_by m left) e ∙ kept-none left) (ap (λ m. starts_from plan k m) none))
      ∙ w.answer
