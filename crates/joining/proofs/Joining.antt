-- Demand 3, proved: both equations of R16, over any outcomes that the contracts allow. Empty profiles and orders are among them.
use Rattle.std.specs.Prelude.{ℕ, ◌+◌, ◌*◌, ◌-◌, ◌≤◌, ◌≡◌, true, false, ◌↔◌, List, ◌++◌, T, ltb, ℤ, length, take, drop, Ok}
use Rattle.std.proofs.Math.Path.{refl, ap}
use Rattle.std.proofs.Common.{sym, ap₂, ◌∙◌, ⊎_elim, arith, take_at}
use mathlib.Core.List.Memᴰ.{append_cases as in_either}
use Rattle.std.proofs.Math.Option.{Option, none, some}
use Rattle.seconds.specs.Limits.{most_weight}
use Rattle.seconds.specs.Signed.{signed}
use Rattle.order.specs.Job.{Order, Point, jobs_within, weight_of}
use Rattle.order.proofs.Within.{weight_of-append}
use Rattle.profile.specs.Profile.{valid_profile, extend, better_of, last_point, weight_or0, last_weight}
use Rattle.profile.proofs.Points.{profile_of-member}
use Rattle.profile.proofs.Last.{last-member, last-heaviest}
use Rattle.profile.proofs.Joining.{extend-extend, extend-better_of}
use Rattle.profile.proofs.Closure.{valid-holds, extend-light, valid-extend, valid-better_of}
use Rattle.packed.specs.Judge.{Verdict, fine, refused, judge}
use Rattle.packed.specs.JudgeLaws.{stages-fine}
use Rattle.packed.specs.Packed.{order_of, jobs_in}
use Rattle.packed.specs.Refusals.{room_checks}
use Rattle.packed.proofs.Accepted.{order-fine, jobs-fit}
use Rattle.profiles.specs.Numbers.{most_numbers, alternating, holds_profile, written_over}
use Rattle.profiles.specs.NumbersLaws.{alternating-length, profile-back, held, profile-there}
use Rattle.better.specs.Answer.{Joined, joined_of, out_after as joined_after, points_written as points_joined}
use Rattle.area.specs.Area.{area}
use Rattle.extending.specs.Calls.{profile_given, extend_judged, extend_checks, extend_verdict, extension, extended_by, extended_of}
use Rattle.extending.specs.Calls.{Extended, ExtendCall, points_written}
use Rattle.extending.proofs.CallLaws.{given-read, extend-fine}
use Rattle.extending.proofs.ExtendingLaws.{Accepted as AllFine, accepted, accepted-order}
use Rattle.joining.specs.Calls.{Extending, Accepted, lent, left, extended, BetterOf, BetterAccepted, lent_better, left_better, better}
use Rattle.joining.specs.Demand3.{Joins, OneByOne, BetterFirst, Demand3}

-- ---- profiles as numbers

module _ (ps : List Point) where
  -- What is written stands in front.
  front-written : (out : List ℤ) → take (2 * length ps) (written_over (alternating ps) out) ≡ alternating ps
  front-written out = take_at (alternating ps) (drop (length (alternating ps)) out) (2 * length ps) (alternating-length ps)

  module _ (valid : T (valid_profile ps)) where
    -- A valid profile is given by its numbers.
    pub given_back : profile_given (alternating ps) ≡ ps
    given_back = rw (profile-back ps valid)

    pub holds-back : holds_profile (alternating ps) ≡ true
    holds-back = rw (profile-back ps valid)

-- A profile that numbers hold is valid.
pub given-valid : (ns : List ℤ) → holds_profile ns ≡ true → T (valid_profile (profile_given ns))
given-valid ns h = rw (given-read ns h) (held ns h).valid

-- ---- last weights

-- The last weight is at most what every weight is.
last-at-most : (ps : List Point) (m : ℕ) → ((q : Point) → last_point ps ≡ some q → q.weight ≤ m) → last_weight ps ≤ m
last-at-most ps m h = go (last_point ps) refl
  where
    go : (o : Option Point) → last_point ps ≡ o → weight_or0 o ≤ m
    go none e = omega arith
    go (some q) e = h q e

-- ---- a call of extending, and an order that is accepted

-- An order is accepted after a profile: of refusals 1 to 9 none applies.
abbrev pub AcceptedAfter : List ℤ → List ℕ → Type 0
AcceptedAfter P A = judge (extend_judged P A) ≡ fine

-- What the generated contract allows is what the record of a call says.
call : {P : List ℤ} {A : List ℕ} (e : Extending P A)
    → ExtendCall P A (lent e) e.args.1.1.1.0.now e.answer (left e) e.exit.1.1.1.0.now
call e = rw (e.profile, e.order) at e.allowed

module _ (P : List ℤ) (A : List ℕ) (after : AcceptedAfter P A) where
  all : AllFine P A
  all = (accepted P A).0 after

  given-fits : T (valid_profile (profile_given P))
  given-fits = given-valid P all.valid

  within : T (jobs_within (jobs_in A))
  within = jobs-fit A (accepted-order all)

  extension-is : extension P A ≡ extend (profile_given P) (jobs_in A)
  unfolding order_of
  extension-is = refl

  -- The result is a valid profile,
  pub valid-extension : T (valid_profile (extension P A))
  valid-extension = rw extension-is (valid-extend (profile_given P) (jobs_in A) given-fits within all.light)

  -- no heavier than the profile and the order together.
  extension-light : last_weight (extension P A) ≤ last_weight (profile_given P) + weight_of (jobs_in A)
  extension-light =
      rw extension-is
      (last-at-most (extend (profile_given P) (jobs_in A)) _
      (λ q e. extend-light (jobs_in A) (valid-holds (profile_given P) given-fits).rises within q (last-member _ e)))

  -- A call answers with it and writes it.
  module _ (e : Extending P A) where
    answers : e.answer ≡ Ok (length (extension P A))
    answers = (call e).answer ∙ rw (extend-fine P A (lent e) _ after e.room e.work-room)

    leaves : left e ≡ written_over (alternating (extension P A)) (lent e)
    leaves = (call e).written ∙ rw (extend-fine P A (lent e) _ after e.room e.work-room)

    pub writes : extended e ≡ alternating (extension P A)
    writes =
        ap₂ (λ (r : Extended) (out : List ℤ). take (2 * points_written r) out) answers leaves
        ∙ front-written (extension P A) (lent e)

    -- It is accepted.
    pub takes : Accepted e
    takes = rw answers

-- An answer with points says so.
points-accepted : (P : List ℤ) (A : List ℕ) (out work : List ℤ) {n : ℕ} → extended_of P A out work ≡ Ok n → AcceptedAfter P A
unfolding extend_checks
points-accepted P A out work {n} e = go (extend_verdict P A out work) refl e
  where
    go : (v : Verdict) → extend_verdict P A out work ≡ v → extended_by v (extension P A) ≡ Ok n → AcceptedAfter P A
    go fine f h =
        let judged = extend_judged P A in
        let places = room_checks most_numbers (length out) in
        ((stages-fine judged places).0 ((stages-fine (judged ++ places) (room_checks area (length work))).0 f).0).0
    go (refused r) f h = let z : ◌≡◌ {A = ℕ} 0 1 = cc in absurd (omega arith)

-- So, with room, a call is accepted exactly where the order is accepted after the profile.
pub accepted-after : {P : List ℤ} {A : List ℕ} (e : Extending P A) → Accepted e ↔ AcceptedAfter P A
accepted-after {P} {A} e = (λ yes. points-accepted P A _ _ (sym (call e).answer ∙ yes), λ after. takes P A after e)

-- ---- extending one by one

module _ (P : List ℤ) {A B J : List ℕ} (j : Joins A B J) (after : AcceptedAfter P J) where
  joined-jobs : jobs_in J ≡ jobs_in A ++ jobs_in B
  unfolding order_of
  joined-jobs = ap (λ (o : Order). o.jobs) j.both

  light : last_weight (profile_given P) + (weight_of (jobs_in A) + weight_of (jobs_in B)) ≤ most_weight
  light = rw (joined-jobs, weight_of-append (jobs_in A) (jobs_in B)) at (all P J after).light

  -- Where the joined order is accepted after a profile, so is the first,
  first-accepted : AcceptedAfter P A
  first-accepted =
      let order = (order-fine A).0 j.first in
      (accepted P A).1
      (record { header = order.header; jobs = order.jobs; valid = (all P J after).valid; light = omega (arith, light) })

  abbrev middle : List ℤ
  middle = alternating (extension P A)

  -- and the second after what the first gives.
  second-accepted : AcceptedAfter middle B
  second-accepted =
      let order = (order-fine B).0 j.second in
      let valid = valid-extension P A first-accepted in
      let weight = extension-light P A first-accepted in
      (accepted middle B).1
      (record {
        header = order.header;
        jobs = order.jobs;
        valid = holds-back (extension P A) valid;
        light = omega (arith, ap last_weight (given_back (extension P A) valid), weight, light);
      })

  -- Both ways give one profile.
  joined-extension : extension middle B ≡ extension P J
  unfolding order_of
  joined-extension =
      rw (given_back (extension P A) (valid-extension P A first-accepted), joined-jobs)
      (extend-extend (profile_given P) (jobs_in A) (jobs_in B))

  -- Extending by A and then by B is extending by the joined order, where that is accepted after the profile.
  pub extend-one-by-one : (by-A : Extending P A) (then-B : Extending (extended by-A) B) (by-J : Extending P J)
      → OneByOne by-A then-B by-J
  extend-one-by-one by-A then-B by-J =
      let wrote = writes P A first-accepted by-A in
      let next : AcceptedAfter (extended by-A) B = rw wrote second-accepted in
      let same : extension (extended by-A) B ≡ extension P J = rw wrote joined-extension in
      let s = answers (extended by-A) B next then-B in
      let t = answers P J after by-J in
      record {
        A-accepted = takes P A first-accepted by-A;
        B-accepted = takes (extended by-A) B next then-B;
        J-accepted = takes P J after by-J;
        answers = s ∙ ap (λ (ps : List Point). Ok (length ps)) same ∙ sym t;
        writes = writes (extended by-A) B next then-B ∙ ap alternating same ∙ sym (writes P J after by-J);
        leaves = λ e.
            leaves (extended by-A) B next then-B
            ∙ ap₂ (λ (ps : List Point) (out : List ℤ). written_over (alternating ps) out) same e
            ∙ sym (leaves P J after by-J);
      }

-- ---- extending the better

-- The better of two given profiles.
abbrev better_given : List ℤ → List ℤ → List Point
better_given P Q = better_of (profile_given P) (profile_given Q)

module _ (P Q : List ℤ) (holds-P : holds_profile P ≡ true) (holds-Q : holds_profile Q ≡ true) where
  valid-better : T (valid_profile (better_given P Q))
  valid-better = valid-better_of (profile_given P) (profile_given Q) (given-valid P holds-P) (given-valid Q holds-Q)

  -- A call of better-of answers with it and writes it.
  module _ (b : BetterOf P Q) where
    better-call : (b.answer ≡ joined_of P Q (lent_better b)) × (left_better b ≡ joined_after P Q (lent_better b))
    better-call = rw (b.first, b.second) at b.allowed

    long : ltb (length (lent_better b)) most_numbers ≡ false
    long = omega (signed, b.room)

    better-answers : b.answer ≡ Ok (length (better_given P Q))
    better-answers = better-call.0 ∙ rw (profile-there P holds-P, profile-there Q holds-Q, long)

    better-leaves : left_better b ≡ written_over (alternating (better_given P Q)) (lent_better b)
    better-leaves = better-call.1 ∙ rw (profile-there P holds-P, profile-there Q holds-Q, long)

    better-writes : better b ≡ alternating (better_given P Q)
    better-writes =
        ap₂ (λ (r : Joined) (out : List ℤ). take (2 * points_joined r) out) better-answers better-leaves
        ∙ front-written (better_given P Q) (lent_better b)

    -- It is accepted.
    better-takes : BetterAccepted b
    better-takes = rw better-answers

module _ (P Q : List ℤ) (A : List ℕ) (after-P : AcceptedAfter P A) (after-Q : AcceptedAfter Q A) where
  accepts-P : AllFine P A
  accepts-P = all P A after-P

  accepts-Q : AllFine Q A
  accepts-Q = all Q A after-Q

  better-fits : T (valid_profile (better_given P Q))
  better-fits = valid-better P Q accepts-P.valid accepts-Q.valid

  -- The better of two profiles is no heavier than the heavier of them,
  better-light : last_weight (better_given P Q) + weight_of (jobs_in A) ≤ most_weight
  better-light =
      let most = last-at-most (better_given P Q) (most_weight - weight_of (jobs_in A)) λ r e.
      ⊎_elim
      (λ m. let h = last-heaviest (valid-holds (profile_given P) (given-fits P A after-P)).rises r m in
      omega (arith, accepts-P.light))
      (λ m. let h = last-heaviest (valid-holds (profile_given Q) (given-fits Q A after-Q)).rises r m in
      omega (arith, accepts-Q.light))
      (in_either (profile_given P) (profile_of-member (profile_given P ++ profile_given Q) (last-member (better_given P Q) e))) in
      omega (arith, accepts-P.light)

  -- so an order that is accepted after both is accepted after it.
  better-accepted : AcceptedAfter (alternating (better_given P Q)) A
  better-accepted =
      (accepted (alternating (better_given P Q)) A).1
      (record {
        header = accepts-P.header;
        jobs = accepts-P.jobs;
        valid = holds-back (better_given P Q) better-fits;
        light = rw (given_back (better_given P Q) better-fits) better-light;
      })

  -- Both ways give one profile: what was extended by itself is given back by its numbers.
  better-extension : extension (alternating (better_given P Q)) A
      ≡ better_given (alternating (extension P A)) (alternating (extension Q A))
  unfolding order_of
  better-extension =
      rw (
        given_back (better_given P Q) better-fits,
        given_back (extension P A) (valid-extension P A after-P),
        given_back (extension Q A) (valid-extension Q A after-Q),
      )
      (extend-better_of (profile_given P) (profile_given Q) (jobs_in A))

  -- Extending the better of P and Q by A is the better of P and Q extended by A, where A is accepted after both.
  pub extend-better-first : (of-PQ : BetterOf P Q) (better-by-A : Extending (better of-PQ) A)
      (P-by-A : Extending P A) (Q-by-A : Extending Q A) (of-both : BetterOf (extended P-by-A) (extended Q-by-A))
      → BetterFirst of-PQ better-by-A P-by-A Q-by-A of-both
  extend-better-first of-PQ better-by-A P-by-A Q-by-A of-both =
      let holds-P = accepts-P.valid in
      let holds-Q = accepts-Q.valid in
      let wrote = better-writes P Q holds-P holds-Q of-PQ in
      let front = writes P A after-P P-by-A in
      let back = writes Q A after-Q Q-by-A in
      let holds-front : holds_profile (extended P-by-A) ≡ true = rw front (holds-back (extension P A) (valid-extension P A after-P)) in
      let holds-behind : holds_profile (extended Q-by-A) ≡ true = rw back (holds-back (extension Q A) (valid-extension Q A after-Q)) in
      let after : AcceptedAfter (better of-PQ) A = rw wrote better-accepted in
      let same : extension (better of-PQ) A ≡ better_given (extended P-by-A) (extended Q-by-A) = rw (wrote, front, back) better-extension in
      let s = answers (better of-PQ) A after better-by-A in
      let t = better-answers (extended P-by-A) (extended Q-by-A) holds-front holds-behind of-both in
      record {
        PQ-accepted = better-takes P Q holds-P holds-Q of-PQ;
        better-accepted = takes (better of-PQ) A after better-by-A;
        P-accepted = takes P A after-P P-by-A;
        Q-accepted = takes Q A after-Q Q-by-A;
        both-accepted = better-takes (extended P-by-A) (extended Q-by-A) holds-front holds-behind of-both;
        points = ap points_written s ∙ ap length same ∙ sym (ap points_joined t);
        writes =
            writes (better of-PQ) A after better-by-A
            ∙ ap alternating same
            ∙ sym (better-writes (extended P-by-A) (extended Q-by-A) holds-front holds-behind of-both);
        leaves = λ e.
            leaves (better of-PQ) A after better-by-A
            ∙ ap₂ (λ (ps : List Point) (out : List ℤ). written_over (alternating ps) out) same e
            ∙ sym (better-leaves (extended P-by-A) (extended Q-by-A) holds-front holds-behind of-both);
      }

-- ---- demand 3

pub demand-3 : Demand3
demand-3 P Q A B J j c joined-P joined-Q =
    let after-P = (accepted-after c.P-by-J).0 joined-P in
    let after-Q = (accepted-after c.Q-by-J).0 joined-Q in
    record {
      one_by_one = extend-one-by-one P j after-P c.P-by-A c.P-then-B c.P-by-J;
      one-by-one-Q = extend-one-by-one Q j after-Q c.Q-by-A c.Q-then-B c.Q-by-J;
      better-first =
          extend-better-first P Q A (first-accepted P j after-P) (first-accepted Q j after-Q)
          c.of-PQ c.better-by-A c.P-by-A c.Q-by-A c.of-both;
    }
