-- The laws of what a list of points gives: covering, members, joined lists, and outcomes.
use Rattle.std.specs.Prelude.{refl, ◌⊎◌}
use mathlib.Core.List.{List, [], ◌∷◌, ◌++◌, Memᴰ}
use Rattle.std.proofs.Common.{inl, inr, ⊎_elim, le_refl, le_trans}
use Rattle.std.specs.Int.Signed.{≤ℤ_refl}
use Rattle.seconds.specs.Signed.{≤ℤ-trans}
use Rattle.order.specs.Job.{Job, Point}
use Rattle.order.specs.Choice.{outcomes}
use Rattle.order.specs.Given.{Covers, Given, here, there, ◌⊑◌, Same}
use Rattle.order.specs.Easier.{NoLower, EasierJobs}
use Rattle.order.proofs.EasierLaws.{same-jobs}
use Rattle.order.proofs.Runs.{easier-run}
use Rattle.order.proofs.Outcomes.{outcome-of, outcome-in, outcomes-then, then-outcomes}

-- ---- covering

-- Every point covers itself, and what a covered point covers.
pub covers-refl : (p : Point) → Covers p p
covers-refl p = record { soon = ≤ℤ_refl p.time; heavy = le_refl p.weight }

pub covers-trans : {p q r : Point} → Covers p q → Covers q r → Covers p r
covers-trans h k = record { soon = ≤ℤ-trans h.soon k.soon; heavy = le_trans k.heavy h.heavy }

-- ---- what a list gives

-- A list gives what one of its points covers.
pub given_by : {p r : Point} {ps : List Point} → Memᴰ p ps → Covers p r → Given r ps
given_by {p} {r} (Memᴰ.head e) h = here (rw e at h)
given_by (Memᴰ.tail m) h = there (given_by m h)

-- It gives its own points.
pub given-own : {p : Point} {ps : List Point} → Memᴰ p ps → Given p ps
given-own {p} m = given_by m (covers-refl p)

-- Whatever a list gives, one of its points covers.
pub giver : {r : Point} {ps : List Point} → Given r ps → (p : Point) × Memᴰ p ps × Covers p r
giver (here {p = p} h) = (p, Memᴰ.head refl, h)
giver (there g) = let k = giver g in (k.0, Memᴰ.tail k.1, k.2)

-- What is covered by something given is given.
pub given-covered : {q r : Point} {ps : List Point} → Given q ps → Covers q r → Given r ps
given-covered (here h) k = here (covers-trans h k)
given-covered (there g) k = there (given-covered g k)

-- ---- joined lists

-- A joined list gives what either part gives,
pub given-left : {r : Point} {ps : List Point} (qs : List Point) → Given r ps → Given r (ps ++ qs)
given-left qs (here h) = here h
given-left qs (there g) = there (given-left qs g)

pub given-right : {r : Point} (ps : List Point) {qs : List Point} → Given r qs → Given r (ps ++ qs)
given-right [] g = g
given-right (p ∷ ps) g = there (given-right ps g)

-- and nothing else.
pub given-either : {r : Point} (ps : List Point) {qs : List Point} → Given r (ps ++ qs) → Given r ps ⊎ Given r qs
given-either [] g = inr g
given-either (p ∷ ps) (here h) = inl (here h)
given-either {r} (p ∷ ps) {qs} (there g) = go (given-either ps g)
  where
    go : Given r ps ⊎ Given r qs → Given r (p ∷ ps) ⊎ Given r qs
    go (inl k) = inl (there k)
    go (inr k) = inr k

-- ---- one list gives all that another gives

-- It is enough that it gives each of the other's points.
pub ⊑-by : {ps qs : List Point} → ((p : Point) → Memᴰ p ps → Given p qs) → ps ⊑ qs
⊑-by h r g = let k = giver g in given-covered (h k.0 k.1) k.2

-- It is an order, kept by joining lists.
pub ⊑_refl : (ps : List Point) → ps ⊑ ps
⊑_refl ps r g = g

pub ⊑_trans : {ps qs rs : List Point} → ps ⊑ qs → qs ⊑ rs → ps ⊑ rs
⊑_trans h k r g = k r (h r g)

pub ⊑-append : {ps ps' qs qs' : List Point} → ps ⊑ ps' → qs ⊑ qs' → (ps ++ qs) ⊑ (ps' ++ qs')
⊑-append {ps} {ps'} {qs} {qs'} h k r g =
    ⊎_elim (λ l. given-left qs' (h r l)) (λ l. given-right ps' (k r l)) (given-either ps g)

-- Easier jobs, or the same, keep it so: moves are monotone.
pub easier-outcomes : {new old : List Job} → EasierJobs NoLower new old → {ps qs : List Point} → ps ⊑ qs
    → outcomes old ps ⊑ outcomes new qs
easier-outcomes {new} {old} e {ps} {qs} h = ⊑-by λ (r : Point) (m : Memᴰ r (outcomes old ps)).
    let o = outcome-of old ps m in
    let k = giver (h o.from (given-own o.listed)) in
    let n = easier-run e o.choice k.0 o.from k.2 o.gives in
    given_by (outcome-in new qs o.choice k.1 n.1) n.2

-- The same jobs keep it so: their moves are monotone.
pub ⊑-outcomes : (js : List Job) {ps qs : List Point} → ps ⊑ qs → outcomes js ps ⊑ outcomes js qs
⊑-outcomes js h = easier-outcomes (same-jobs js) h

-- ---- two lists give the same

-- It is an equivalence, kept by joining lists and by running jobs.
pub same_refl : (ps : List Point) → Same ps ps
same_refl ps = record { to = ⊑_refl ps; back = ⊑_refl ps }

pub same-sym : {ps qs : List Point} → Same ps qs → Same qs ps
same-sym s = record { to = s.back; back = s.to }

pub same-trans : {ps qs rs : List Point} → Same ps qs → Same qs rs → Same ps rs
same-trans s t = record { to = ⊑_trans s.to t.to; back = ⊑_trans t.back s.back }

pub same-append : {ps ps' qs qs' : List Point} → Same ps ps' → Same qs qs' → Same (ps ++ qs) (ps' ++ qs')
same-append s t = record { to = ⊑-append s.to t.to; back = ⊑-append s.back t.back }

pub same-outcomes : (js : List Job) {ps qs : List Point} → Same ps qs → Same (outcomes js ps) (outcomes js qs)
same-outcomes js s = record { to = ⊑-outcomes js s.to; back = ⊑-outcomes js s.back }

-- Lists with the same members give the same.
pub same-members : {ps qs : List Point} → ((p : Point) → Memᴰ p ps → Memᴰ p qs)
    → ((p : Point) → Memᴰ p qs → Memᴰ p ps) → Same ps qs
same-members h k = record { to = ⊑-by (λ p m. given-own (h p m)); back = ⊑-by (λ p m. given-own (k p m)) }

-- Jobs and then more jobs give what the joined jobs give.
pub same_then : (js ks : List Job) (ps : List Point) → Same (outcomes ks (outcomes js ps)) (outcomes (js ++ ks) ps)
same_then js ks ps = same-members (λ r m. then-outcomes js ks ps m) (λ r m. outcomes-then js ks ps m)
