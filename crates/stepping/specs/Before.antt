-- The points of a list that go before all that a job pushes: those up to the one that its first pushed point comes from.
use Rattle.std.specs.Prelude.{ℕ, ◌+◌, ◌≤◌, ◌≡◌, refl, Bool, true, false, ℤ, pos, ◌+ℤ◌, length, ◌≤ℤ◌, ◌<ℤ◌}
use Rattle.std.proofs.Common.{sym, ap, ◌∙◌, arith, length-append}
use mathlib.Core.List.Memᴰ.{head}
use mathlib.Core.List.Memᴰ.{tail}
use mathlib.Core.List.{List, [], ◌∷◌, ◌++◌, append_assoc, Memᴰ as In}
use mathlib.Core.List.Memᴰ
use mathlib.Core.List.Memᴰ.{not-nil}
use Rattle.std.proofs.Math.Seq.{append_snoc}
use Rattle.std.specs.Int.Signed.{le_z}
use Rattle.seconds.specs.Limits.{rest}
use Rattle.seconds.specs.Signed.{signed, max_z, max-is, add_is}
use Rattle.order.specs.Job.{Point}
use Rattle.profile.proofs.Rising.{Rising, rising-more, below-member}
use Rattle.profile.proofs.Closure.{PointWithin}
use Rattle.points.specs.Steps.{waited, when_ready, later_by, all_later}
use Rattle.codes.specs.declared.Prefix.{Prefix}
use Rattle.codes.specs.Code.{code, at0, points_at}
use Rattle.codes.specs.CodeLaws.{since-is}
use Rattle.codes.specs.Held.{Held, held_more}
use Rattle.codes.specs.HeldLaws.{held-within}
use Rattle.merging.specs.Joins.{CutAt}
use Rattle.pushing.specs.declared.Rate.{Rate}
use Rattle.pushing.specs.Pushes.{job_rate}

-- What a job finds of a list: one point, which waits where it is not past the ready time, and all behind it.
pub record Finds (ready : ℤ) (ps : List Point) : Type 0 where
  pub before : List Point
  pub first : Point
  pub behind : List Point
  pub whole : ps ≡ before ++ first ∷ behind
  pub found : when_ready ready ps ≡ waited ready first ∷ behind

finds-more : (ready : ℤ) (p : Point) (ps : List Point) → Finds ready (p ∷ ps)
finds-more ready p [] = record { before = []; first = p; behind = []; whole = refl; found = refl }
finds-more ready p (q ∷ qs) = go (le_z q.time ready) refl (finds-more ready q qs)
  where
    go : (b : Bool) → le_z q.time ready ≡ b → Finds ready (q ∷ qs) → Finds ready (p ∷ q ∷ qs)
    go true e f = record {
      before = p ∷ f.before;
      first = f.first;
      behind = f.behind;
      whole = ap (λ (l : List Point). p ∷ l) f.whole;
      found = rw e f.found;
    }
    go false e f = record { before = []; first = p; behind = q ∷ qs; whole = refl; found = rw e }

pub finds : (ready : ℤ) (ps : List Point) → 1 ≤ length ps → Finds ready ps
finds ready [] h = absurd (omega arith)
finds ready (p ∷ ps) h = finds-more ready p ps

-- No point of a rising list up to one of its points is later than that.
no-later : (fs : List Point) (q : Point) (bs : List Point) → Rising (fs ++ q ∷ bs) → (p : Point) → In p (fs ++ q ∷ [])
    → p.time ≤ℤ q.time
no-later [] q bs r p (head d) = rw d (omega signed)
no-later [] q bs r p (tail m) = absurd (not-nil m)
no-later (f ∷ fs) q bs (rising-more b r) p (head d) =
    let l = below-member b (Memᴰ.append_right fs (head refl)) in
    rw d (omega signed)
no-later (f ∷ fs) q bs (rising-more b r) p (tail m) = no-later fs q bs r p m

-- A list is cut behind the point that the first pushed point comes from: all up to it go before what is pushed.
module _ {work : List ℤ} (list : Prefix) {ready : ℤ} (rate : Rate) {fs : List Point} (bs : List Point) {at : ℕ} {pushed : List ℤ}
    (least : 1 ≤ rate.takes) (held : Held work list.place (points_at work list)) (rises : Rising (points_at work list))
    (whole : points_at work list ≡ fs ++ bs) (f : Finds ready fs)
    (moves : (p : Point) → In p fs → PointWithin (later_by (job_rate rate) (waited ready p)))
    (there : Held pushed at (all_later (job_rate rate) (when_ready ready fs)))
  where
    abbrev moved : Point
    moved = later_by (job_rate rate) (waited ready f.first)

    -- The first number pushed is that of the point moved on,
    first-is : at0 pushed at ≡ code moved
    first-is = go (rw f.found at there)
      where
        go : {ps : List Point} → Held pushed at (moved ∷ ps) → at0 pushed at ≡ code moved
        go (held_more s e h) = e

    moved-within : PointWithin moved
    moved-within = moves f.first (rw f.whole (Memᴰ.append_right f.before (head refl)))

    -- which is later than that point,
    later : f.first.time <ℤ moved.time
    later =
        let t = max_z ready f.first.time in
        omega (signed, max-is ready f.first.time, add_is t (pos rate.takes), add_is (t +ℤ pos rate.takes) (pos rest))

    all : points_at work list ≡ f.before ++ f.first ∷ (f.behind ++ bs)
    all = whole ∙ ap (λ (l : List Point). l ++ bs) f.whole ∙ append_assoc f.before (f.first ∷ f.behind) bs

    parts : points_at work list ≡ (f.before ++ f.first ∷ []) ++ (f.behind ++ bs)
    parts = all ∙ sym (append_snoc f.before f.first (f.behind ++ bs))

    -- and so than all before it.
    early : (p : Point) → In p (f.before ++ f.first ∷ []) → code p ≤ℤ at0 pushed at
    early p m =
        let s = held-within held p (rw parts (Memᴰ.append_left (f.behind ++ bs) m)) in
        let t = moved-within in
        let soon = no-later f.before f.first (f.behind ++ bs) (rw all at rises) p m in
        rw first-is (omega (signed, later, since-is s.time, since-is t.time, s.weight, t.weight))

    pub cut-before : (z : ℕ) → list.place + length f.before + 1 ≡ z → CutAt work list z (at0 pushed at)
    cut-before z e = record {
      front = f.before ++ f.first ∷ [];
      back = f.behind ++ bs;
      whole = parts;
      count = omega (arith, length-append f.before (f.first ∷ []));
      early = early;
    }
