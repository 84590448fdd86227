-- Frames add up: where the jobs of a frame stand in it, the best weight of k frames is k times that of one, and there is no plan
-- exactly where one frame has none. So a stand that plans each frame by itself loses nothing.
use Rattle.std.specs.Prelude.{ℕ, zero, suc, ◌+◌, ◌*◌, ◌≤◌, ◌≡◌, refl, true, false, List, ◌++◌, ◌↔◌, ℤ, pos, length, ◌≤ℤ◌}
use Rattle.std.proofs.Common.{sym, ap, ◌∙◌, true≢false, arith}
use Rattle.std.proofs.Math.Option.{Option, none, some, map, map-eq-none_iff, map-eq-some_iff}
use borrow.Table.Steps.{cases}
use Rattle.seconds.specs.Signed.{signed, add_is}
use Rattle.order.specs.Job.{Job}
use Rattle.order.specs.Choice.{Choice, feasible, kept_weight}
use Rattle.order.specs.Later.{later_jobs, NoneBefore, AllDoneBy, AllInFrame}
use Rattle.order.proofs.LaterLaws.{frame-from, frame-until, later-none-before, join-none-before, frames-join, frames-apart}
use Rattle.plan.specs.Plan.{Ended, plan}
use Rattle.plan.proofs.PlanIs.{plan-is, plan-ran, plan-heaviest, plan-none, plan-some}
use Rattle.plan.specs.Frames.{end_weight, best_kept, both_kept, two_frames, frames}

-- ---- the best weight

-- A feasible choice keeps w, and no feasible one keeps more.
pub record Best (t : ℤ) (js : List Job) (w : ℕ) : Type 0 where
  pub choice : Choice
  pub can : feasible js choice t ≡ true
  pub keeps : kept_weight js choice ≡ w
  pub most : (d : Choice) → feasible js d t ≡ true → kept_weight js d ≤ w

-- That is what the plan keeps,
pub best-is : (t : ℤ) (js : List Job) (w : ℕ) → (best_kept t js ≡ some w) ↔ Best t js w
best-is t js w = (to, back)
  where
    of-plan : (e : Ended) → plan t js ≡ some e → Best t js e.end.weight
    of-plan e h =
        let p = (plan-is t js e).0 h in
        let r = plan-ran t js e p in
        record { choice = e.choice; can = r.can; keeps = omega (arith, r.sum); most = plan-heaviest t js e p }

    to : best_kept t js ≡ some w → Best t js w
    to h =
        let m = (map-eq-some_iff end_weight (plan t js)).0 h in
        rw (← m.2) (of-plan m.0 m.1)

    back : Best t js w → best_kept t js ≡ some w
    back b =
        let m = plan-some t js b.choice b.can in
        let p = of-plan m.0 m.1 in
        let least = p.most b.choice b.can in
        let most = b.most p.choice p.can in
        (map-eq-some_iff end_weight (plan t js)).1 (m.0, m.1, omega (arith, p.keeps, b.keeps))

-- and there is none exactly where nothing is feasible.
pub best_none : (t : ℤ) (js : List Job) → (best_kept t js ≡ none) ↔ ((c : Choice) → feasible js c t ≡ false)
best_none t js =
    let m = map-eq-none_iff end_weight (plan t js) in
    (λ h. (plan-none t js).0 (m.0 h), λ h. m.1 ((plan-none t js).1 h))

-- ---- the adding law

none-feasible : (t : ℤ) (js : List Job) → ((c : Choice) → ¬ (feasible js c t ≡ true)) → best_kept t js ≡ none
none-feasible t js out = (best_none t js).1 (λ c. cases (feasible js c t) (λ a. absurd (out c a)) (λ a. a))

-- Jobs that leave the bus free by F, and jobs ready at 0 or later that are set F seconds later: together they keep what both
-- keep, and there is no plan exactly where one of both has none.
module _ (F : ℤ) (n : ℕ) (js ks : List Job) (done : AllDoneBy F js) (from : NoneBefore (pos 0) ks) (t : ℤ) (h : t ≤ℤ F) where
  pub best-joined : best_kept t (js ++ later_jobs F n ks) ≡ both_kept (best_kept t js) (best_kept (pos 0) ks)
  best-joined = go (best_kept t js) (best_kept (pos 0) ks) refl refl
    where
      go : (a b : Option ℕ) → best_kept t js ≡ a → best_kept (pos 0) ks ≡ b
          → best_kept t (js ++ later_jobs F n ks) ≡ both_kept a b
      go none b p q =
          none-feasible t (js ++ later_jobs F n ks) λ e a.
          let s = frames-apart F n js ks done from t h e a in
          true≢false (sym s.first ∙ (best_none t js).0 p s.front)
      go (some v) none p q =
          none-feasible t (js ++ later_jobs F n ks) λ e a.
          let s = frames-apart F n js ks done from t h e a in
          true≢false (sym s.then ∙ (best_none (pos 0) ks).0 q s.back)
      go (some v) (some w) p q =
          let x = (best-is t js v).0 p in
          let y = (best-is (pos 0) ks w).0 q in
          let z = frames-join F n js ks done from t h x.choice y.choice x.can y.can in
          (best-is t (js ++ later_jobs F n ks) (v + w)).1 (record {
            choice = x.choice ++ y.choice;
            can = z.0;
            keeps = omega (arith, z.1, x.keeps, y.keeps);
            most = λ e a.
                let s = frames-apart F n js ks done from t h e a in
                omega (arith, s.keeps, x.most s.front s.first, y.most s.back s.then);
          })

-- The same with the bus free at 0 and a frame of F seconds.
pub frames-add : (F n : ℕ) (js ks : List Job) → AllDoneBy (pos F) js → NoneBefore (pos 0) ks
    → best_kept (pos 0) (js ++ later_jobs (pos F) n ks) ≡ both_kept (best_kept (pos 0) js) (best_kept (pos 0) ks)
frames-add F n js ks done from = best-joined (pos F) n js ks done from (pos 0) (omega signed)

-- ---- the same jobs frame by frame

module _ (F : ℕ) (js : List Job) (all : AllInFrame (pos F) js) where
  -- No job of any frame is ready before 0: the later frames begin at F, which is 0 or later.
  pub frames-from : (k : ℕ) → NoneBefore (pos 0) (frames k F js)
  frames-from zero = frame-from all
  frames-from (suc k) =
      join-none-before (pos 0) js (later_jobs (pos F) (length js) (frames k F js)) (frame-from all) λ j m.
      let l = later-none-before (pos F) (length js) (pos 0) (frames k F js) (frames-from k) j m in
      omega (signed, l, add_is (pos 0) (pos F))

  -- So many frames keep so many times the weight of one.
  pub frames-best : (k : ℕ) → best_kept (pos 0) (frames k F js) ≡ map (λ w. suc k * w) (best_kept (pos 0) js)
  frames-best zero = once (best_kept (pos 0) js)
    where
      once : (o : Option ℕ) → o ≡ map (λ w. 1 * w) o
      once none = refl
      once (some w) = ap {B = Option ℕ} some (omega arith)
  frames-best (suc k) =
      frames-add F (length js) js (frames k F js) (frame-until all) (frames-from k)
      ∙ ap (both_kept (best_kept (pos 0) js)) (frames-best k) ∙ more (best_kept (pos 0) js)
    where
      more : (o : Option ℕ) → both_kept o (map (λ w. suc k * w) o) ≡ map (λ w. suc (suc k) * w) o
      more none = refl
      more (some w) = ap {B = Option ℕ} some (omega arith)

  -- Nothing is feasible in so many frames exactly where nothing is feasible in one.
  pub frames-none : (k : ℕ)
      → ((c : Choice) → feasible (frames k F js) c (pos 0) ≡ false) ↔ ((c : Choice) → feasible js c (pos 0) ≡ false)
  frames-none k =
      let m = map-eq-none_iff (λ w. suc k * w) (best_kept (pos 0) js) in (
        λ h. (best_none (pos 0) js).0 (m.0 (sym (frames-best k) ∙ (best_none (pos 0) (frames k F js)).1 h)),
        λ h. (best_none (pos 0) (frames k F js)).0 (frames-best k ∙ m.1 ((best_none (pos 0) js).1 h)),
      )

  -- Where one frame has a plan, so many frames have one, of so many times the weight.
  pub frames-plan : (k : ℕ) (e : Ended) → plan (pos 0) js ≡ some e
      → (e' : Ended) × (plan (pos 0) (frames k F js) ≡ some e') × (e'.end.weight ≡ suc k * e.end.weight)
  frames-plan k e h =
      let kept = frames-best k ∙ ap (λ (o : Option Ended). map (λ w. suc k * w) (map end_weight o)) h in
      (map-eq-some_iff end_weight (plan (pos 0) (frames k F js))).0 kept

  -- ---- two frames

  pub two-frames-best : best_kept (pos 0) (two_frames F js) ≡ map (λ w. 2 * w) (best_kept (pos 0) js)
  two-frames-best = frames-best 1

  pub two-frames-none : ((c : Choice) → feasible (two_frames F js) c (pos 0) ≡ false)
      ↔ ((c : Choice) → feasible js c (pos 0) ≡ false)
  two-frames-none = frames-none 1

  pub two-frames-plan : (e : Ended) → plan (pos 0) js ≡ some e
      → (e' : Ended) × (plan (pos 0) (two_frames F js) ≡ some e') × (e'.end.weight ≡ 2 * e.end.weight)
  two-frames-plan = frames-plan 1
