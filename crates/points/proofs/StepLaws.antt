-- The three cases give the profile with one job more: the list pushed by a rate has the moves at that rate, and leaving out,
-- pushing and merging are the better of what the job may do.
use Rattle.std.specs.Prelude.{ℕ, zero, suc, ◌≤◌, ◌≡◌, refl, Bool, true, false, cond, pos, ◌+ℤ◌, length, ◌≤ℤ◌, ◌<ℤ◌}
use Rattle.std.proofs.Common.{sym, ap, ◌∙◌, subst, ⊎_elim, arith}
use mathlib.Core.List.Memᴰ.{head}
use mathlib.Core.List.Memᴰ.{tail}
use mathlib.Core.List.{List, [], ◌∷◌, ◌++◌, Memᴰ as In}
use mathlib.Core.List.Memᴰ.{append_cases}
use mathlib.Core.List.Memᴰ.{not-nil}
use Rattle.std.proofs.Math.Option.{some}
use Rattle.std.proofs.Math.ListN.{get_elem?}
use Rattle.std.specs.Int.Signed.{lt_z}
use Rattle.seconds.specs.Limits.{rest}
use Rattle.seconds.specs.Signed.{signed, max_z, max-is, add_is}
use Rattle.order.specs.Job.{Rate, Job, Point, rate_of, move}
use Rattle.order.specs.Choice.{outcomes}
use Rattle.order.specs.Given.{Covers, Given, here, Same}
use Rattle.order.proofs.GivenLaws.{given_by, given-own, given-left, given-right, given-either, giver, ⊑-by}
use Rattle.order.proofs.GivenLaws.{same_refl, same-trans, same-append}
use Rattle.order.proofs.Moves.{left-out-moves, moves-left-out, kept-moves, moves-kept, moved, pick-bounded}
use Rattle.order.proofs.Outcomes.{outcomes-none, more-outcome-of, more-outcome-in}
use Rattle.profile.specs.Profile.{profile_of, extend, better_of}
use Rattle.profile.proofs.Rising.{Below, BelowAll, below_none, below_more, below-member, Rising, rising_none, rising-more, rising-one}
use Rattle.profile.proofs.Points.{profile_of-only, profile_of-rises, profile_of-same}
use Rattle.profiles.specs.OnePass.{below_all}
use Rattle.better.specs.Heavier.{merge, merge-better}
use Rattle.points.specs.Steps.{waited, waiting, up_to_time, later_by, last_start_by, pushed_by}
use Rattle.points.specs.Steps.{leaving, last_of, too_late, step_by}
use Rattle.points.proofs.Pushing.{waiting-rises, waiting_few, waiting-from, waiting-gives, up_to-rises, up_to-few, up_to-from, up_to-has}
use Rattle.points.proofs.Pushing.{later-rises, later-length, later-from, later-in}

-- ---- the list pushed by one rate of a job

module _ (j : Job) (r : Rate) where
  pub push-rises : {P : List Point} → Rising P → Rising (pushed_by j r P)
  push-rises rising_none = rising_none
  push-rises (rising-more {p = p} b s) = later-rises r (up_to-rises (last_start_by j r) (waiting-rises j.ready p b s))

  -- It has no more points than the list.
  pub push-few : (P : List Point) → length (pushed_by j r P) ≤ length P
  push-few [] = omega arith
  push-few (p ∷ ps) =
      omega (
        arith,
        later-length r (up_to_time (last_start_by j r) (waiting j.ready p ps)),
        up_to-few (last_start_by j r) (waiting j.ready p ps),
        waiting_few j.ready p ps,
      )

  later-covers : {p q : Point} → Covers p q → Covers (later_by r p) (later_by r q)
  later-covers {p} {q} c =
      omega (
        signed,
        add_is p.time (pos r.takes),
        add_is q.time (pos r.takes),
        add_is (p.time +ℤ pos r.takes) (pos rest),
        add_is (q.time +ℤ pos r.takes) (pos rest),
      )

  module _ (k : ℕ) (is : rate_of j k ≡ some r) where
    -- Each of its points is a move at the rate,
    pub push-from : {P : List Point} → Rising P → (q : Point) → In q (pushed_by j r P)
        → (p : Point) × In p P × (move j (suc k) p ≡ some q)
    push-from rising_none q m = absurd (not-nil m)
    push-from (rising-more {p = p} {ps = ps} b s) q m =
        let l = later-from r (up_to_time (last_start_by j r) (waiting j.ready p ps)) q m in
        let u = up_to-from (last_start_by j r) (waiting j.ready p ps) l.0 l.1 in
        let w = waiting-from j.ready p s l.0 u.0 in
        let soon : (waited j.ready w.from).time ≤ℤ last_start_by j r = subst (λ (x : Point). x.time ≤ℤ last_start_by j r) w.is u.1 in
        let same : later_by r (waited j.ready w.from) ≡ q = sym (l.2 ∙ ap (later_by r) w.is) in
        (w.from, w.listed, kept-moves j k r is w.from soon ∙ ap some same)

    -- and it gives every such move.
    pub push-gives : {P : List Point} → Rising P → (p q : Point) → In p P → move j (suc k) p ≡ some q → Given q (pushed_by j r P)
    push-gives rising_none p q m e = absurd (not-nil m)
    push-gives (rising-more {p = x} {ps = ps} b s) p q m e =
        let t = moves-kept j k r is p q e in
        let g = giver (waiting-gives j.ready x b s p m) in
        let c = g.2 in
        let w = t.0 in
        let soon : g.0.time ≤ℤ last_start_by j r = omega signed in
        let u = up_to-has (last_start_by j r) (waiting-rises j.ready x b s) g.0 g.1 soon in
        rw t.1 (given_by (later-in r g.0 u) (later-covers c))

-- ---- a job of one rate: what is left without it, and the pushed list

module _ (j : Job) (r : Rate) (only : j.rates ≡ r ∷ []) where
  the-rate : rate_of j 0 ≡ some r
  the-rate = ap (λ (rs : List Rate). get_elem? rs 0) only

  leave-from : (P : List Point) (q : Point) → In q (leaving j P) → In q P × (move j 0 q ≡ some q)
  leave-from P q m = go j.critical refl m
    where
      go : (c : Bool) → j.critical ≡ c → In q (cond c [] P) → In q P × (move j 0 q ≡ some q)
      go true e n = absurd (not-nil n)
      go false e n = (n, left-out-moves j q e)

  leave-gives : (P : List Point) (p q : Point) → In p P → move j 0 p ≡ some q → Given q (leaving j P)
  leave-gives P p q m e =
      let l = moves-left-out j p q e in
      rw l.1 (given-own (ap-in (sym l.0)))
    where
      ap-in : {c : Bool} → false ≡ c → In p (cond c [] P)
      ap-in {c} f = subst (λ (b : Bool). In p (cond b [] P)) f m

  no_other : (k : ℕ) (p q : Point) → move j (suc (suc k)) p ≡ some q → ⊥
  no_other k p q e =
      let few = pick-bounded j (suc (suc k)) p.time (moved j (suc (suc k)) p e).may in
      omega (arith, ap (λ (rs : List Rate). length rs) only)

  both-same : {P : List Point} → Rising P → Same (leaving j P ++ pushed_by j r P) (outcomes (j ∷ []) P)
  both-same {P} s = record { to = ⊑-by to; back = ⊑-by back }
    where
      in-P : {x : Point} → In x P → In x (outcomes [] P)
      in-P {x} m = subst (λ (l : List Point). In x l) (sym (outcomes-none P)) m

      to : (q : Point) → In q (leaving j P ++ pushed_by j r P) → Given q (outcomes (j ∷ []) P)
      to q m = ⊎_elim
          (λ n. let k = leave-from P q n in given-own (more-outcome-in [] j P 0 (in-P k.0) k.1))
          (λ n. let k = push-from j r 0 the-rate s q n in given-own (more-outcome-in [] j P 1 (in-P k.1) k.2))
          (append_cases (leaving j P) m)

      by-pick : (x : ℕ) (p q : Point) → In p P → move j x p ≡ some q → Given q (leaving j P ++ pushed_by j r P)
      by-pick zero p q m e = given-left (pushed_by j r P) (leave-gives P p q m e)
      by-pick (suc zero) p q m e = given-right (leaving j P) (push-gives j r 0 the-rate s p q m e)
      by-pick (suc (suc k)) p q m e = absurd (no_other k p q e)

      back : (q : Point) → In q (outcomes (j ∷ []) P) → Given q (leaving j P ++ pushed_by j r P)
      back q m =
          let o = more-outcome-of [] j P m in
          by-pick o.pick o.from q (subst (λ (l : List Point). In o.from l) (outcomes-none P) o.listed) o.gives

  -- The better of both is the profile with the job.
  pub better-extends : {P : List Point} → Rising P → better_of (leaving j P) (pushed_by j r P) ≡ extend P (j ∷ [])
  better-extends {P} s =
      profile_of-only (profile_of-rises (leaving j P ++ pushed_by j r P))
      (same-trans (profile_of-same (leaving j P ++ pushed_by j r P)) (both-same s))

  -- ---- the three cases

  leave-rises : {P : List Point} → Rising P → Rising (leaving j P)
  leave-rises {P} s = go j.critical
    where
      go : (c : Bool) → Rising (cond c [] P)
      go true = rising_none
      go false = s

  -- The last point is a member, and no member is later or heavier.
  last-in : (p : Point) (ps : List Point) → In (last_of p ps) (p ∷ ps)
  last-in p [] = head refl
  last-in p (q ∷ qs) = tail (last-in q qs)

  last-tops : (p : Point) {ps : List Point} → BelowAll p ps → Rising ps → (x : Point) → In x (p ∷ ps)
      → Covers (record { time = x.time; weight = (last_of p ps).weight }) x × (x.time ≤ℤ (last_of p ps).time)
  last-tops p below_none rising_none x (head e) = rw e (omega signed, omega signed)
  last-tops p below_none rising_none x (tail n) = absurd (not-nil n)
  last-tops p (below_more {q = q} {qs = qs} b bs) (rising-more c s) x (head e) =
      let l = below-member (below_more b bs) (last-in q qs) in
      rw e (omega signed, omega signed)
  last-tops p (below_more {q = q} {qs = qs} b bs) (rising-more c s) x (tail n) = last-tops q c s x n

  -- Case 1: no point moves.
  case-1 : (p : Point) {ps : List Point} → BelowAll p ps → Rising ps → too_late j r p ≡ true
      → leaving j (p ∷ ps) ≡ better_of (leaving j (p ∷ ps)) (pushed_by j r (p ∷ ps))
  case-1 p {ps} b s h = profile_of-only (leave-rises (rising-more b s)) (record { to = λ q g. given-left _ g; back = back })
    where
      late : (x : Point) → In x (p ∷ ps) → max_z j.ready x.time ≤ℤ last_start_by j r → ⊥
      late x (head e) k = let same = ap (λ (y : Point). y.time) e in omega (signed, max-is j.ready x.time, max-is j.ready p.time)
      late x (tail n) k = let l = below-member b n in omega (signed, max-is j.ready x.time, max-is j.ready p.time)

      none-there : (q : Point) → In q (pushed_by j r (p ∷ ps)) → ⊥
      none-there q m =
          let f = push-from j r 0 the-rate (rising-more b s) q m in
          late f.0 f.1 (moves-kept j 0 r the-rate f.0 q f.2).0

      back : (q : Point) → Given q (leaving j (p ∷ ps) ++ pushed_by j r (p ∷ ps)) → Given q (leaving j (p ∷ ps))
      back q g = ⊎_elim (λ l. l) (λ l. let m = giver l in absurd (none-there m.0 m.1)) (given-either (leaving j (p ∷ ps)) g)

  -- A point above all of a rising list may be put behind it.
  snoc-below : {x q : Point} {ps : List Point} → BelowAll x ps → Below x q → BelowAll x (ps ++ (q ∷ []))
  snoc-below below_none h = below_more h below_none
  snoc-below (below_more k b) h = below_more k (snoc-below b h)

  snoc-rises : {ps : List Point} {q : Point} → Rising ps → ((x : Point) → In x ps → Below x q) → Rising (ps ++ (q ∷ []))
  snoc-rises {q = q} rising_none h = rising-one q
  snoc-rises (rising-more {p = p} b s) h = rising-more (snoc-below b (h p (head refl))) (snoc-rises s (λ x n. h x (tail n)))

  -- Case 3: all moves lead to the one time, and the last is the heaviest.
  module _ (p : Point) {ps : List Point} (b : BelowAll p ps) (s : Rising ps) (weighty : j.critical ≡ false → 1 ≤ r.gain)
      (can : too_late j r p ≡ false) (early : (last_of p ps).time <ℤ j.ready)
    where
      abbrev new : Point
      new = later_by r (waited j.ready (last_of p ps))

      before-ready : (x : Point) → In x (p ∷ ps) → (max_z j.ready x.time ≡ j.ready) × (x.weight ≤ (last_of p ps).weight)
      before-ready x m =
          let l = last-tops p b s x m in
          (omega (signed, l.1, max-is j.ready x.time), omega (signed, l.0))

      kept-now : (x : Point) → In x (p ∷ ps) → Covers new (later_by r (waited j.ready x))
      kept-now x m =
          let e = (before-ready x m).0 in
          let f = (before-ready (last_of p ps) (last-in p ps)).0 in
          let w = (before-ready x m).1 in
          let c : Covers (waited j.ready (last_of p ps)) (waited j.ready x) = omega signed in
          later-covers j r c

      below_new : (x : Point) → j.critical ≡ false → In x (p ∷ ps) → Below x new
      below_new x nc m =
          let l = (last-tops p b s x m).1 in
          let w = (before-ready x m).1 in
          let g = weighty nc in
          omega (
            signed,
            max-is j.ready (last_of p ps).time,
            add_is (max_z j.ready (last_of p ps).time) (pos r.takes),
            add_is (max_z j.ready (last_of p ps).time +ℤ pos r.takes) (pos rest),
          )

      rises : Rising (leaving j (p ∷ ps) ++ (new ∷ []))
      rises = go j.critical refl
        where
          go : (c : Bool) → j.critical ≡ c → Rising (cond c [] (p ∷ ps) ++ (new ∷ []))
          go true e = rising-one new
          go false e = snoc-rises (rising-more b s) (λ x m. below_new x e m)

      to : (q : Point) → In q (new ∷ []) → Given q (pushed_by j r (p ∷ ps))
      to q (tail n) = absurd (not-nil n)
      to q (head e) =
          let l = last-in p ps in
          let f = (before-ready (last_of p ps) l).0 in
          let soon : max_z j.ready (last_of p ps).time ≤ℤ last_start_by j r = omega (signed, max-is j.ready p.time) in
          rw e (push-gives j r 0 the-rate (rising-more b s) (last_of p ps) new l (kept-moves j 0 r the-rate (last_of p ps) soon))

      back : (q : Point) → In q (pushed_by j r (p ∷ ps)) → Given q (new ∷ [])
      back q m =
          let f = push-from j r 0 the-rate (rising-more b s) q m in
          rw (moves-kept j 0 r the-rate f.0 q f.2).1 (here (kept-now f.0 f.1))

      case-3 : leaving j (p ∷ ps) ++ (new ∷ []) ≡ better_of (leaving j (p ∷ ps)) (pushed_by j r (p ∷ ps))
      case-3 =
          profile_of-only rises (same-append (same_refl (leaving j (p ∷ ps))) (record { to = ⊑-by to; back = ⊑-by back }))

  -- The three cases are the better of leaving and pushing,
  pub step-better : {P : List Point} → Rising P → (j.critical ≡ false → 1 ≤ r.gain)
      → step_by j r P ≡ better_of (leaving j P) (pushed_by j r P)
  step-better rising_none weighty = go j.critical
    where
      go : (c : Bool) → [] ≡ profile_of (cond c [] [] ++ [])
      go true = refl
      go false = refl
  step-better (rising-more {p = p} {ps = ps} b s) weighty =
      go (too_late j r p) (lt_z (last_of p ps).time j.ready) refl refl
    where
      merged : (c : Bool) → cond c (pushed_by j r (p ∷ ps)) (merge below_all (p ∷ ps) (pushed_by j r (p ∷ ps)))
          ≡ better_of (cond c [] (p ∷ ps)) (pushed_by j r (p ∷ ps))
      merged true = profile_of-only (push-rises j r (rising-more b s)) (same_refl (pushed_by j r (p ∷ ps)))
      merged false = merge-better (rising-more b s) (push-rises j r (rising-more b s))

      go : (x y : Bool) → too_late j r p ≡ x → lt_z (last_of p ps).time j.ready ≡ y
          → cond x (leaving j (p ∷ ps)) (cond y (leaving j (p ∷ ps) ++ (later_by r (waited j.ready (last_of p ps)) ∷ []))
          (cond j.critical (pushed_by j r (p ∷ ps)) (merge below_all (p ∷ ps) (pushed_by j r (p ∷ ps)))))
          ≡ better_of (leaving j (p ∷ ps)) (pushed_by j r (p ∷ ps))
      go true y e f = case-1 p b s e
      go false true e f = case-3 p b s weighty e (omega signed)
      go false false e f = merged j.critical

  -- and so the profile with one job more.
  pub step-extends : {P : List Point} → Rising P → (j.critical ≡ false → 1 ≤ r.gain) → step_by j r P ≡ extend P (j ∷ [])
  step-extends s weighty = step-better s weighty ∙ better-extends s
