-- Legal plans and feasible choices; and the test decides whether a plan is best: legal, and no feasible choice keeps more weight.
use Rattle.std.specs.Prelude.{ℕ, ◌≤◌, ◌≡◌, refl, Bool, true, not, ◌&&◌, ◌↔◌, ltb, ℤ}
use Rattle.std.proofs.Common.{ap₂, subst, arith, ltb-false, le-ltb}
use Rattle.std.proofs.lemmas.Bool.{false≢true}
use mathlib.Core.List.{List, [], ◌∷◌, Memᴰ}
use borrow.Table.Steps.{cases}
use Rattle.seconds.specs.Signed.{signed}
use Rattle.order.specs.Job.{Job, Order, Point}
use Rattle.order.specs.Choice.{Choice, feasible, starts, kept_weight, choices}
use Rattle.order.proofs.OneRate.{OneRate, one-rate-marks}
use Rattle.order.proofs.Runs.{runs, choice-listed}
use Rattle.legal.specs.Legal.{Legal, choice_of, kept_of, kept_starts, weight_kept, Best, is_legal, none_more, is_best}
use Rattle.legal.proofs.LegalLaws.{Rated, both, choice-kept, Says, legal-says, own-starts-legal}
use Rattle.legal.proofs.LegalIs.{test-legal, legal-test, legal-is}

-- ---- legal plans and feasible choices

-- Jobs of one rate each have a rate.
pub one-rated : (js : List Job) → OneRate js → Rated js
one-rated [] one = tt
one-rated (j ∷ js) one = (omega (arith, one.0), one-rated js one.1)

-- The choice of a legal plan is feasible, its own starts are no later than the plan's, and it leaves the bus free no later.
pub legal-choice : (o : Order) (ks : List Bool) (ss : List ℤ) → Rated o.jobs → Legal o ks ss
    → Says o.jobs ks ss o.t0 o.t0
legal-choice o ks ss rated l =
    legal-says o.jobs ks ss o.t0 o.t0 rated (omega signed) (legal-test o.jobs ks ss o.t0 l)

-- A feasible choice with its own starts is legal.
pub feasible-legal : (o : Order) (c : Choice) → OneRate o.jobs → feasible o.jobs c o.t0 ≡ true
    → Legal o (kept_of c) (kept_starts (kept_of c) (starts o.jobs c o.t0))
feasible-legal o c one can =
    let whole : choice_of (kept_of c) ≡ c = choice-kept c (one-rate-marks o.jobs c o.t0 one can) in
    subst (λ (d : Choice). Legal o (kept_of c) (kept_starts (kept_of c) (starts o.jobs d o.t0))) whole
    (test-legal o.jobs (kept_of c) (kept_starts (kept_of c) (starts o.jobs (choice_of (kept_of c)) o.t0)) o.t0
    (own-starts-legal o.jobs (kept_of c) o.t0 (rw whole can)))

-- ---- no choice that keeps more

-- Every feasible choice is one of the choices.
feasible-listed : (js : List Job) (c : Choice) (free : ℤ) → feasible js c free ≡ true → Memᴰ c (choices js)
feasible-listed js c free can =
    let from : Point = record { time = free; weight = 0 } in
    choice-listed js c from (runs js c from (record { can = can; free = refl; sum = refl }))

module _ (o : Order) (w : ℕ) where
  abbrev can : Choice → Bool
  can c = feasible o.jobs c o.t0

  abbrev keeps : Choice → ℕ
  keeps c = kept_weight o.jobs c

  -- Where the test of one choice is passed it does not keep more, if it is feasible;
  one_less : (c : Choice) → not (can c && ltb w (keeps c)) ≡ true → can c ≡ true → keeps c ≤ w
  one_less c e f = cases (ltb w (keeps c)) (λ m. absurd (false≢true (rw (f, m) at e))) (λ m. ltb-false w (keeps c) m)

  -- and back.
  less_one : (c : Choice) → (can c ≡ true → keeps c ≤ w) → not (can c && ltb w (keeps c)) ≡ true
  less_one c h = cases (can c) (λ f. rw (f, le-ltb w (keeps c) (h f))) (λ f. rw f)

  listed-less : (cs : List Choice) → none_more o w cs ≡ true → (c : Choice) → Memᴰ c cs → can c ≡ true → keeps c ≤ w
  listed-less [] e c x3 f = elim x3 [ ]
  listed-less (d ∷ cs) e c (Memᴰ.head same) f =
      let b = both (not (can d && ltb w (keeps d))) (none_more o w cs) e in
      rw same (one_less d b.0 (rw same at f))
  listed-less (d ∷ cs) e c (Memᴰ.tail m) f =
      listed-less cs (both (not (can d && ltb w (keeps d))) (none_more o w cs) e).1 c m f

  less-listed : ((c : Choice) → can c ≡ true → keeps c ≤ w) → (cs : List Choice) → none_more o w cs ≡ true
  less-listed h [] = refl
  less-listed h (c ∷ cs) = ap₂ (λ a b. a && b) (less_one c (h c)) (less-listed h cs)

  -- The test says that no feasible choice keeps more, whichever it is.
  pub none_more_lem : none_more o w (choices o.jobs) ≡ true
      ↔ ((c : Choice) → feasible o.jobs c o.t0 ≡ true → kept_weight o.jobs c ≤ w)
  none_more_lem =
      (λ e c f. listed-less (choices o.jobs) e c (feasible-listed o.jobs c o.t0 f) f, λ h. less-listed h (choices o.jobs))

-- ---- best

pub best-is : (o : Order) (ks : List Bool) (ss : List ℤ) → is_best o ks ss ≡ true ↔ Best o ks ss
unfolding is_best
best-is o ks ss = (there, back)
  where
    there : is_best o ks ss ≡ true → Best o ks ss
    there e =
        let b = both (is_legal o ks ss) (none_more o (weight_kept o ks) (choices o.jobs)) e in
        record { legal = (legal-is o ks ss).0 b.0; most = (none_more_lem o (weight_kept o ks)).0 b.1 }

    back : Best o ks ss → is_best o ks ss ≡ true
    back b = ap₂ (λ (l m : Bool). l && m) ((legal-is o ks ss).1 b.legal) ((none_more_lem o (weight_kept o ks)).1 b.most)
