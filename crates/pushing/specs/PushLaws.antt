-- What the push writes, place by place, is the pushed list of points.
use Rattle.std.specs.Prelude.{ℕ, suc, ◌+◌, ◌-◌, ◌<◌, ◌≡◌, refl, ◌⊎◌, ℤ, ◌+ℤ◌, length, ◌≤ℤ◌, ◌<ℤ◌}
use Rattle.std.proofs.Common.{sym, ap, ◌∙◌, subst, inl, inr, arith, length-append}
use mathlib.Core.List.Memᴰ.{head}
use mathlib.Core.List.Memᴰ.{tail}
use mathlib.Core.List.{List, [], ◌∷◌, ◌++◌, Memᴰ as In}
use mathlib.Core.List.Memᴰ
use Rattle.seconds.specs.Ranges.{InFree}
use Rattle.seconds.specs.RangesLaws.{time-free}
use Rattle.order.specs.Job.{Rate as JobRate, Point}
use Rattle.profile.proofs.Closure.{PointWithin}
use Rattle.points.specs.Steps.{waited, when_ready, later_by, all_later, last_of}
use Rattle.codes.specs.declared.Prefix.{Prefix}
use Rattle.codes.specs.Code.{code, limit_of, at0, points_at, end_of}
use Rattle.codes.specs.Held.{Held, held_none, held_more}
use Rattle.codes.specs.HeldLaws.{list_length}
use Rattle.codes.specs.Cuts.{Cut, cut, cut-early, cut-late}
use Rattle.pushing.specs.declared.Rate.{Rate}
use Rattle.pushing.specs.Pushes.{top, RateFits, job_rate, delta_of, waited_as, CanPush, Pushed}
use Rattle.pushing.specs.Numbers.{later-code, waited-code}
use Rattle.pushing.specs.Waits.{no-wait, none-waits, one-waits, last-early}
use Rattle.pushing.specs.Places.{Placed}

-- Moving points on keeps how many they are.
pub later-length : (r : JobRate) (ps : List Point) → length (all_later r ps) ≡ length ps
later-length r [] = refl
later-length r (p ∷ ps) = ap suc (later-length r ps)

-- The number before the end of a list is its last point's.
held-last : {l : List ℤ} {i : ℕ} (p : Point) {fs : List Point} → Held l i (p ∷ fs)
    → (at0 l (i + length fs) ≡ code (last_of p fs)) × PointWithin (last_of p fs) × In (last_of p fs) (p ∷ fs)
held-last {l} p (held_more {i = i} s d held_none) = let i0 : i + 0 ≡ i = omega arith in (ap (at0 l) i0 ∙ d, s, head refl)
held-last {l} p (held_more {i = i} s d (held_more {p = q} {ps = fs} t e h)) =
    let k = held-last {l = l} {i = suc i} q (held_more t e h) in
    let x : i + suc (length fs) ≡ suc i + length fs = omega arith in
    (ap (at0 l) x ∙ k.0, k.1, tail k.2)

-- Numbers moved on are the points moved on.
held_moved : {r : Rate} {work pushed : List ℤ} {i : ℕ} {bs : List Point} (b : ℕ) → RateFits r → Held work i bs
    → ((k : ℕ) → k < length bs → at0 pushed (b + k) ≡ at0 work (i + k) +ℤ delta_of r)
    → ((p : Point) → In p bs → PointWithin (later_by (job_rate r) p)) → Held pushed b (all_later (job_rate r) bs)
held_moved b f held_none moved within = held_none
held_moved {r} {work} {pushed} b f (held_more {i = i} {p = p} {ps = ps} s d h) moved within =
    let b0 : b + 0 ≡ b = omega arith in
    let i0 : i + 0 ≡ i = omega arith in
    let first : at0 pushed b ≡ at0 work i +ℤ delta_of r = rw (b0, i0) at (moved 0 (omega arith)) in
    let t = within p (head refl) in
    held_more t (first ∙ ap (λ (z : ℤ). z +ℤ delta_of r) d ∙ sym (later-code f s t))
    (held_moved (suc b) f h further (λ q m. within q (tail m)))
  where
    further : (k : ℕ) → k < length ps → at0 pushed (suc b + k) ≡ at0 work (suc i + k) +ℤ delta_of r
    further k l =
        let x : suc b + k ≡ b + suc k = omega arith in
        let y : suc i + k ≡ i + suc k = omega arith in
        rw (x, y) (moved (suc k) (omega arith))

-- ---- the whole list

module _ {work : List ℤ} {list : Prefix} {ready : ℤ} {rate : Rate} {was pushed : List ℤ} {r : ℕ}
    (g : CanPush work list ready rate was) (d : Placed work list ready (limit_of ready) (delta_of rate) r pushed) where
  abbrev points : List Point
  points = points_at work list

  abbrev start : InFree ready
  start = time-free g.starts

  -- The list is cut at the place found.
  count : list.place + length points ≡ end_of list
  count = omega (arith, list_length work list.place list.count)

  cutting : Cut (limit_of ready) work list.place d.i points
  cutting = cut d.i g.held g.rises (rw count d.found)

  -- The points past the ready time, moved on, stand from their place to the top.
  back-held : (fs bs : List Point) → points ≡ fs ++ bs → list.place + length fs ≡ d.i → Held work d.i bs
      → ((p : Point) → In p bs → ready <ℤ p.time)
      → Held pushed d.p (all_later (job_rate rate) bs) × (d.p + length (all_later (job_rate rate) bs) ≡ top)
  back-held fs bs whole first held late =
      let long : length points ≡ length fs + length bs = ap length whole ∙ length-append fs bs in
      let all : d.i + length bs ≡ end_of list = omega (arith, count) in
      let stands = held_moved d.p g.fits held (λ k l. d.behind.moved k (omega arith)) within in
      (stands, omega (arith, later-length (job_rate rate) bs, d.behind.place_is))
    where
      within : (p : Point) → In p bs → PointWithin (later_by (job_rate rate) p)
      within p m =
          let listed : In p points = subst (In p) (sym whole) (Memᴰ.append_right fs m) in
          subst (λ (q : Point). PointWithin (later_by (job_rate rate) q)) (no-wait (late p m)) (g.within p listed)

  -- What the push gives is the list as the job finds it, moved on.
  made : (ps : List Point) → when_ready ready points ≡ ps → Held pushed r (all_later (job_rate rate) ps)
      → r + length (all_later (job_rate rate) ps) ≡ top → Pushed work list ready rate (record { place = r; count = top - r }) pushed
  made ps is held long = record {
    held = rw is held;
    counted = rw is (omega arith);
    ends = omega arith;
    past = d.behind.past;
  }

  -- In it the last point up to the ready time waited, if there is one, and stands before the others.
  placed-pushed : Pushed work list ready rate (record { place = r; count = top - r }) pushed
  placed-pushed =
      let c = cutting in
      go c.front c.back c.whole c.count c.held c.held_back (cut-early start c) (cut-late start c) d.waits
    where
      go : (fs bs : List Point) → points ≡ fs ++ bs → list.place + length fs ≡ d.i → Held work list.place fs → Held work d.i bs
          → ((p : Point) → In p fs → p.time ≤ℤ ready) → ((p : Point) → In p bs → ready <ℤ p.time)
          → ((list.place ≡ d.i) × (r ≡ d.p))
          ⊎ ((list.place < d.i) × (suc r ≡ d.p) × (at0 pushed r ≡ waited_as ready (delta_of rate) (at0 work (d.i - 1))))
          → Pushed work list ready rate (record { place = r; count = top - r }) pushed
      go [] bs whole first held held_back early late (inl w) =
          let b = rw (← w.1) at (back-held [] bs whole first held_back late) in
          made bs (ap (when_ready ready) whole ∙ none-waits bs late) b.0 b.1
      go [] bs whole first held held_back early late (inr w) = absurd (omega (arith, w.0))
      go (q ∷ fs) bs whole first held held_back early late (inl w) = absurd (omega (arith, w.0))
      go (q ∷ fs) bs whole first held held_back early late (inr w) =
          let b = rw (← w.1) at (back-held (q ∷ fs) bs whole first held_back late) in
          let l = held-last q held in
          let before : d.i - 1 ≡ list.place + length fs = omega (arith, first) in
          let listed : In (last_of q fs) points = subst (In (last_of q fs)) (sym whole) (Memᴰ.append_left bs l.2) in
          let t = g.within (last_of q fs) listed in
          let number = w.2 ∙ ap (waited_as ready (delta_of rate)) (ap (at0 work) before ∙ l.0) in
          let is = number ∙ sym (waited-code g.fits g.starts l.1 (last-early q fs early) t) in
          made (waited ready (last_of q fs) ∷ bs) (ap (when_ready ready) whole ∙ one-waits q fs bs early late)
          (held_more t is b.0) (omega (arith, b.1))

-- So what is placed by the limit of the ready time and by what the rate adds is the pushed list.
pub pushes : {work : List ℤ} {list : Prefix} {ready : ℤ} {rate : Rate} {was pushed : List ℤ} {limit delta : ℤ} {r : ℕ}
    → CanPush work list ready rate was → limit ≡ limit_of ready → delta ≡ delta_of rate → Placed work list ready limit delta r pushed
    → Pushed work list ready rate (record { place = r; count = top - r }) pushed
pushes g e f d = placed-pushed g (rw (e, f) at d)
