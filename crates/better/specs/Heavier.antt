-- Points in order, of which only those are kept that are heavier than the last one kept: they rise, and give what all give.
-- So two rising lists, taken in turn and kept so, are the better of both.
use Rattle.std.specs.Prelude.{◌≡◌, refl, Bool, true, false, cond, List, [], ◌∷◌, ℤ, pos}
use Rattle.std.proofs.Common.{⊎_elim}
use Rattle.std.specs.Int.Signed.{lt_z}
use Rattle.seconds.specs.Signed.{signed}
use Rattle.order.specs.Job.{Point}
use Rattle.order.specs.Given.{Covers, Given, here, there, Same}
use Rattle.order.proofs.GivenLaws.{covers-trans, same_refl, same-trans, same-append}
use Rattle.profile.specs.Profile.{better_of}
use Rattle.profile.proofs.Rising.{Below, below_more, Rising, rising_none, rising-more, below-further, rising-one}
use Rattle.profile.proofs.Points.{profile_of-only}
use Rattle.profiles.specs.OnePass.{below_all}
use Rattle.better.specs.InTurn.{in_turn, AheadAll, ahead_none, ahead_more, Ordered, ordered-none, ordered-more}
use Rattle.better.specs.InTurn.{turns, turns-ordered, turns_same}

-- The points that are heavier than the last one kept, whose weight is given.
abbrev pub heavier : ℤ → List Point → List Point
heavier w [] = []
heavier w (p ∷ ps) = cond (lt_z w (pos p.weight)) (p ∷ heavier (pos p.weight) ps) (heavier w ps)

-- What is kept of two lists in turn, after a last weight.
abbrev pub merge : ℤ → List Point → List Point → List Point
merge w ps qs = heavier w (in_turn ps qs)

-- ---- after a point that is ahead of them all

-- With it they rise.
heavier-rises : {ls : List Point} → Ordered ls → {k : Point} → AheadAll k ls → Rising (k ∷ heavier (pos k.weight) ls)
heavier-rises ordered-none {k} ahead_none = rising-one k
heavier-rises (ordered-more {p = p} {ps = ls} b o) {k} (ahead_more h a) =
    go (lt_z (pos k.weight) (pos p.weight)) refl (heavier-rises o a) (heavier-rises o b)
  where
    more : Below k p → Rising (p ∷ heavier (pos p.weight) ls) → Rising (k ∷ p ∷ heavier (pos p.weight) ls)
    more b (rising-more c r) = rising-more (below_more b (below-further b c)) (rising-more c r)

    go : (c : Bool) → lt_z (pos k.weight) (pos p.weight) ≡ c
        → Rising (k ∷ heavier (pos k.weight) ls) → Rising (p ∷ heavier (pos p.weight) ls)
        → Rising (k ∷ cond c (p ∷ heavier (pos p.weight) ls) (heavier (pos k.weight) ls))
    go true e i j = more (⊎_elim (λ t. omega signed) (λ t. omega signed) h) j
    go false e i j = i

-- What a point covers adds nothing to what it gives.
covered_same : {k p : Point} (ls : List Point) → Covers k p → Same (k ∷ ls) (k ∷ p ∷ ls)
covered_same {k} {p} ls c = record { to = to; back = back }
  where
    to : (r : Point) → Given r (k ∷ ls) → Given r (k ∷ p ∷ ls)
    to r (here d) = here d
    to r (there g) = there (there g)

    back : (r : Point) → Given r (k ∷ p ∷ ls) → Given r (k ∷ ls)
    back r (here d) = here d
    back r (there (here d)) = here (covers-trans c d)
    back r (there (there g)) = there g

-- They give what all give: a point that is not heavier is covered.
heavier-same : {ls : List Point} → Ordered ls → {k : Point} → AheadAll k ls → Same (k ∷ heavier (pos k.weight) ls) (k ∷ ls)
heavier-same ordered-none {k} ahead_none = same_refl (k ∷ [])
heavier-same (ordered-more {p = p} {ps = ls} b o) {k} (ahead_more h a) =
    go (lt_z (pos k.weight) (pos p.weight)) refl (heavier-same o a) (heavier-same o b)
  where
    go : (c : Bool) → lt_z (pos k.weight) (pos p.weight) ≡ c
        → Same (k ∷ heavier (pos k.weight) ls) (k ∷ ls) → Same (p ∷ heavier (pos p.weight) ls) (p ∷ ls)
        → Same (k ∷ cond c (p ∷ heavier (pos p.weight) ls) (heavier (pos k.weight) ls)) (k ∷ p ∷ ls)
    go true e i j = same-append (same_refl (k ∷ [])) j
    go false e i j = same-trans i (covered_same ls (⊎_elim (λ t. omega signed) (λ c. c) h))

-- ---- from the start, where the first point is kept

-- They rise,
all-rise : {ls : List Point} → Ordered ls → Rising (heavier below_all ls)
all-rise ordered-none = rising_none
all-rise (ordered-more a o) = heavier-rises o a

-- and give what all give.
all_same : {ls : List Point} → Ordered ls → Same (heavier below_all ls) ls
all_same ordered-none = same_refl []
all_same (ordered-more a o) = heavier-same o a

-- Two rising lists merged are the better of both.
pub merge-better : {ps qs : List Point} → Rising ps → Rising qs → merge below_all ps qs ≡ better_of ps qs
merge-better {qs = qs} r s =
    let t = turns r qs s in
    let o = turns-ordered t in
    profile_of-only (all-rise o) (same-trans (all_same o) (turns_same t))
