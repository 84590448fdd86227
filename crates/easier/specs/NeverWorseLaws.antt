-- R51 over the calls, proved: each of them answers by the definitions, over which easier orders are never worse.
use Rattle.std.specs.Prelude.{ℕ, ◌≡◌, refl, List, [], ◌∷◌, T, ℤ}
use Rattle.std.proofs.Common.{ap, ap₂, ◌∙◌, arith}
use Rattle.std.proofs.Math.Option.{Option, none, some, map, get_or}
use Rattle.seconds.specs.RangesLaws.{time-free}
use Rattle.order.specs.Job.{Point}
use Rattle.order.proofs.EasierLaws.{no_lower}
use Rattle.profile.specs.Profile.{lookup, valid_profile, last_weight, start_point}
use Rattle.profile.specs.NoWorse.{lookup_weight, NoWorse}
use Rattle.profile.proofs.NoWorseLaws.{extend-no-worse, start-no-worse}
use Rattle.profile.proofs.Rising.{Rising}
use Rattle.profile.proofs.Closure.{valid-holds, valid-start}
use Rattle.plan.specs.Plan.{Answer, plan_answer}
use Rattle.packed.specs.declared.Refusal.{Refusal}
use Rattle.packed.specs.Judge.{fine, judge, no_refusal}
use Rattle.packed.specs.Packed.{t0_of, order_of}
use Rattle.packed.specs.Refusals.{order_checks}
use Rattle.packed.proofs.Accepted.{order-fine}
use Rattle.profiles.specs.Numbers.{profile_in}
use Rattle.profiles.specs.Answer.{finding_of, finding_in, lookup_of}
use Rattle.planner.specs.Calls.{planned_by, plan_numbers}
use Rattle.planner.proofs.Planning.{Planning}
use Rattle.planner.proofs.Outcomes.{planning-says}
use Rattle.extending.specs.Calls.{profile_given, extension}
use Rattle.extending.proofs.ExtendingLaws.{accepted}
use Rattle.joining.specs.Calls.{Extending, Accepted, extended}
use Rattle.joining.proofs.Joining.{given_back, holds-back, given-valid, AcceptedAfter, valid-extension, writes, takes, accepted-after}
use Rattle.easier.specs.EasierBytes.{EasierBytes}
use Rattle.easier.specs.EasierOrders.{easier-order, easier-answer}
use Rattle.easier.specs.NeverWorse.{weight_told, NumbersNoWorse, LookingUp, LookupsNoWorse, AnswerNoWorse, start_of}
use Rattle.easier.specs.NeverWorse.{ProfileNoWorse, EasierNeverWorse}

-- ---- lookups

-- What lookup tells of any numbers is the weight that it finds in the profile that they hold.
told : (ns : List ℤ) (t : ℤ) → weight_told (lookup_of ns t) ≡ lookup_weight (profile_given ns) t
told ns t = held (profile_in ns)
  where
    found : (o : Option Point) → weight_told (finding_of o) ≡ map (λ (p : Point). p.weight) o
    found none = refl
    found (some p) = refl

    held : (o : Option (List Point)) → weight_told (finding_in o t) ≡ lookup_weight (get_or o []) t
    held none = refl
    held (some ps) = found (lookup ps t)

-- So numbers are no worse exactly as the profiles that they hold.
pub numbers-no-worse : (new old : List ℤ) → NoWorse (profile_given new) (profile_given old) → NumbersNoWorse new old
numbers-no-worse new old h t = rw (told new t, told old t) (h t)

pub no-worse-numbers : (new old : List ℤ) → NumbersNoWorse new old → NoWorse (profile_given new) (profile_given old)
no-worse-numbers new old h t = rw (told new t, told old t) at (h t)

-- A call of lookup tells it.
looked : {ns : List ℤ} {t : ℤ} (l : LookingUp ns t) → l.answer ≡ lookup_of ns t
looked l = l.allowed ∙ ap₂ lookup_of l.profile l.time

pub lookups-no-worse : {new old : List ℤ} → NumbersNoWorse new old → LookupsNoWorse new old
lookups-no-worse h t one other = rw (looked one, looked other) (h t)

-- ---- plans

pub planning-no-worse : {new old : List ℕ} → EasierBytes new old → (one : Planning new) (other : Planning old)
    → AnswerNoWorse (plan_numbers one.answer) (plan_numbers other.answer)
planning-no-worse {new} {old} e one other =
    rw (planning-says one, planning-says other) (go (plan_answer (order_of old)) refl)
  where
    go : (o : Option Answer) → plan_answer (order_of old) ≡ o
        → AnswerNoWorse (plan_numbers (planned_by fine (plan_answer (order_of new)))) (plan_numbers (planned_by fine o))
    go none is =
        record {
          feasible = λ h. absurd (eleven h);
          keeps = omega arith;
          loses = λ h. absurd (eleven h);
          sooner = λ h s. absurd (eleven h);
        }
      where
        eleven : (plan_numbers (planned_by fine none)).refusal ≡ no_refusal → ⊥
        eleven h = let z = ap (λ (r : Refusal). r.number) h in omega arith
    go (some a) is =
        let now = easier-answer e a is in
        rw now.1
        (record { feasible = λ h. refl; keeps = now.2.keeps; loses = λ h. now.2.loses; sooner = λ h. now.2.sooner })

-- ---- profiles

module _ {P : List ℤ} {bytes : List ℕ} (call : Extending P bytes) (taken : Accepted call) where
  after : AcceptedAfter P bytes
  after = (accepted-after call).0 taken

  -- The profile given rises,
  rises : Rising (profile_given P)
  rises = (valid-holds (profile_given P) (given-valid P ((accepted P bytes).0 after).valid)).rises

  -- and what is written holds the extended one.
  wrote : profile_given (extended call) ≡ extension P bytes
  wrote =
      ap profile_given (writes P bytes after call) ∙ given_back (extension P bytes) (valid-extension P bytes after)

-- Extending by an easier order numbers that are no worse.
pub extending-no-worse : {P Q : List ℤ} {new old : List ℕ} → EasierBytes new old
    → (one : Extending P new) (other : Extending Q old) → Accepted one → Accepted other → NumbersNoWorse P Q
    → ProfileNoWorse one other
extending-no-worse {P} {Q} {new} {old} e one other new-taken old-taken h = record { numbers = numbers; lookups = lookups-no-worse numbers }
  where
    extensions : NoWorse (extension P new) (extension Q old)
    extensions =
        extend-no-worse (no_lower (easier-order e)).jobs (rises one new-taken) (rises other old-taken) (no-worse-numbers P Q h)

    numbers : NumbersNoWorse (extended one) (extended other)
    numbers = numbers-no-worse (extended one) (extended other) (rw (wrote one new-taken, wrote other old-taken) extensions)

-- ---- the profile of an order

module _ (bytes : List ℕ) (fits : judge (order_checks bytes) ≡ fine) where
  abbrev start : List Point
  start = start_point (t0_of bytes) ∷ []

  valid : T (valid_profile start)
  valid = valid-start (t0_of bytes) (time-free ((order-fine bytes).0 fits).header.timely)

  start-given : profile_given (start_of bytes) ≡ start
  start-given = given_back start valid

  -- An accepted order is accepted after its bus-free time.
  start-accepted : AcceptedAfter (start_of bytes) bytes
  start-accepted =
      let order = (order-fine bytes).0 fits in
      (accepted (start_of bytes) bytes).1
      (record {
        header = order.header;
        jobs = order.jobs;
        valid = holds-back start valid;
        light = omega (arith, ap last_weight start-given, order.light);
      })

-- ---- the rule

pub easier-never-worse : EasierNeverWorse
easier-never-worse new old e =
    record {
      plan = planning-no-worse e;
      profile = λ one other.
          let new-taken = takes (start_of new) new (start-accepted new e.new-accepted) one in
          let old-taken = takes (start_of old) old (start-accepted old e.old-accepted) other in
          let starts = numbers-no-worse (start_of new) (start_of old)
          (rw (start-given new e.new-accepted, start-given old e.old-accepted) (start-no-worse e.t0)) in
          (new-taken, old-taken, extending-no-worse e one other new-taken old-taken starts);
      tail = extending-no-worse e;
    }
