-- What an answer of the question says in numbers (R17, R26), for every input: refused, what the first check that applies says
-- but for its place, and no winner; else the winner by the point of each opening at the time, or 11.
use Rattle.std.specs.Prelude.{ℕ, ◌≤◌, ◌<◌, ◌≡◌, refl, Bool, true, false, cond, ◌≢◌, ◌⊎◌, List, ltb, ℤ, Ok}
use Rattle.std.proofs.Common.{ap, inl, inr, arith}
use Rattle.std.proofs.Math.Option.{Option, none, some}
use Rattle.seconds.specs.Signed.{signed}
use Rattle.order.specs.Job.{Point}
use Rattle.packed.specs.declared.Refusal.{Refusal}
use Rattle.packed.specs.Judge.{plainly, no_refusal, without_place, fine, refused, refusal_of}
use Rattle.ties.specs.Winning.{opening_point, TieRule, by_points}
use Rattle.choosing.specs.Choosing.{choosing_verdict, chosen_of, winner_of}
use Rattle.ties.specs.declared.Winner.TheVariants.{First, Second}

-- By the points of the first and the second: the refusal, and the winner.
pub data WonBy (rule : TieRule) : Option Point → Option Point → Refusal → ℕ → Type 0 where
  neither : WonBy rule none none (plainly 11) 0
  only-first : {p : Point} → WonBy rule (some p) none no_refusal 1
  only-second : {q : Point} → WonBy rule none (some q) no_refusal 2
  first-heavier : {p q : Point} → q.weight < p.weight → WonBy rule (some p) (some q) no_refusal 1
  second-heavier : {p q : Point} → p.weight < q.weight → WonBy rule (some p) (some q) no_refusal 2
  even-first : {p q : Point} → p.weight ≡ q.weight → rule p.time q.time ≡ true → WonBy rule (some p) (some q) no_refusal 1
  even-second : {p q : Point} → p.weight ≡ q.weight → rule p.time q.time ≡ false → WonBy rule (some p) (some q) no_refusal 2

-- Which of two wins is told so.
pub won-by : (rule : TieRule) (a b : Option Point) → WonBy rule a b (refusal_of (by_points rule a b)) (winner_of (by_points rule a b))
won-by rule none none = neither
won-by rule (some p) none = only-first
won-by rule none (some q) = only-second
won-by rule (some p) (some q) =
    go (ltb q.weight p.weight) refl (ltb p.weight q.weight) refl (rule p.time q.time) refl
  where
    go : (x : Bool) → ltb q.weight p.weight ≡ x → (y : Bool) → ltb p.weight q.weight ≡ y
        → (z : Bool) → rule p.time q.time ≡ z → let c = Ok (cond x First (cond y Second (cond z First Second))) in
        WonBy rule (some p) (some q) (refusal_of c) (winner_of c)
    go true d y e z f = first-heavier {p = p} {q = q} (omega signed)
    go false d true e z f = second-heavier {p = p} {q = q} (omega signed)
    go false d false e true f = even-first {p = p} {q = q} (omega signed) f
    go false d false e false f = even-second {p = p} {q = q} (omega signed) f

-- 11 is told where neither has a point, else nothing is refused.
abbrev ElevenOrNone : Option Point → Option Point → Refusal → Type 0
ElevenOrNone a b r = ((r ≡ plainly 11) × (a ≡ none) × (b ≡ none)) ⊎ (r ≡ no_refusal)

eleven-or-none : {rule : TieRule} {a b : Option Point} {r : Refusal} {m : ℕ} → WonBy rule a b r m → ElevenOrNone a b r
eleven-or-none neither = inl (refl, refl, refl)
eleven-or-none only-first = inr refl
eleven-or-none only-second = inr refl
eleven-or-none (first-heavier h) = inr refl
eleven-or-none (second-heavier h) = inr refl
eleven-or-none (even-first h k) = inr refl
eleven-or-none (even-second h k) = inr refl

module _ {rule : TieRule} {a b : Option Point} {r : Refusal} {m : ℕ} (won : WonBy rule a b r m) where
  -- So 11 is told only there.
  pub neither-won : r.number ≡ 11 → (a ≡ none) × (b ≡ none)
  neither-won e = go (eleven-or-none won)
    where
      go : ElevenOrNone a b r → (a ≡ none) × (b ≡ none)
      go (inl h) = (h.1, h.2)
      go (inr h) = absurd (omega (arith, ap (λ (s : Refusal). s.number) h))

  pub at-most-eleven : r.number ≤ 11
  at-most-eleven = go (eleven-or-none won)
    where
      go : ElevenOrNone a b r → r.number ≤ 11
      go (inl h) = rw h.0 (omega arith)
      go (inr h) = rw h (omega arith)

  -- It is no 6, and names neither a field nor a place.
  pub plain : (r.number ≢ 6) × ((r.field ≡ 0) × (r.place ≡ 0))
  plain = go (eleven-or-none won)
    where
      go : ElevenOrNone a b r → (r.number ≢ 6) × ((r.field ≡ 0) × (r.place ≡ 0))
      go (inl h) = rw h.0 (λ e. omega arith, (refl, refl))
      go (inr h) = rw h (λ e. omega arith, (refl, refl))

module _ (rule : TieRule) (first second : List ℕ) (t : ℤ) (work : List ℤ) where
  -- Refused by a check.
  pub refused_says : {r : Refusal} → choosing_verdict first second work ≡ refused r
      → (refusal_of (chosen_of rule first second t work) ≡ without_place r) × (winner_of (chosen_of rule first second t work) ≡ 0)
  refused_says e = rw e (refl, refl)

  -- Past the checks.
  pub winner-says : choosing_verdict first second work ≡ fine
      → WonBy rule (opening_point first t) (opening_point second t)
      (refusal_of (chosen_of rule first second t work)) (winner_of (chosen_of rule first second t work))
  winner-says e = rw e (won-by rule (opening_point first t) (opening_point second t))
