-- Jobs of one rate each, as the rules have them: a feasible choice leaves such a job out or keeps it at its rate, and what easier
-- says of them.
use Rattle.std.specs.Prelude.{ℕ, zero, suc, ◌≤◌, ◌≡◌, refl, Bool, true, ℤ, length, get_or, ◌≤ℤ◌}
use Rattle.std.proofs.Math.Bool.{and-eq-true_iff}
use Rattle.std.proofs.lemmas.Bool.{false≢true}
use mathlib.Core.List.Forall₂
use mathlib.Core.List.{List, [], ◌∷◌}
use Rattle.std.proofs.Common.{arith}
use Rattle.order.specs.Job.{Job, one_rate, allowed, bus_free}
use Rattle.order.specs.Choice.{Choice, feasible}
use Rattle.order.specs.Easier.{EasierJob}
use Rattle.order.proofs.Moves.{pick-bounded}

abbrev pub OneRate : List Job → Type 0
OneRate [] = Unit {0}
OneRate (j ∷ js) = (length j.rates ≡ 1) × OneRate js

-- The picks are noughts and ones.
abbrev pub Marks : Choice → Type 0
Marks [] = Unit {0}
Marks (x ∷ c) = (x ≤ 1) × Marks c

-- So they are in every feasible choice of such jobs;
pub one-rate-marks : (js : List Job) (c : Choice) (t : ℤ) → OneRate js → feasible js c t ≡ true → Marks c
one-rate-marks [] [] t one h = tt
one-rate-marks [] (x ∷ c) t one h = absurd (false≢true h)
one-rate-marks (j ∷ js) [] t one h = tt
one-rate-marks (j ∷ js) (x ∷ c) t one h =
    let both = (and-eq-true_iff (allowed j x t) (feasible js c (bus_free j x t))).0 h in
    (omega (arith, pick-bounded j x t both.0, one.0), one-rate-marks js c (bus_free j x t) one.1 both.1)

-- place by place too.
pub mark-at : (c : Choice) → Marks c → (k : ℕ) → get_or c k 0 ≤ 1
mark-at [] m k = omega arith
mark-at (x ∷ c) m zero = m.0
mark-at (x ∷ c) m (suc k) = mark-at c m.1 k

-- Of such jobs with the same mark, easier says just this: a weight that compares so, ready no later, no longer, due no earlier.
pub easier-one-rate : (Weights : ℕ → ℕ → Type 0) (n m : ℕ) (critical : Bool) {w v : ℕ} {r s : ℤ} {l k : ℕ} {d e : ℤ}
    → Weights w v → r ≤ℤ s → l ≤ k → e ≤ℤ d
    → EasierJob Weights (one_rate n critical w r l d) (one_rate m critical v s k e)
easier-one-rate Weights n m critical weight sooner shorter longer =
    record {
      critical = refl;
      weight = weight;
      ready = sooner;
      rates = Forall₂.cons (record { takes = shorter; gain = weight }) Forall₂.nil;
      deadline = longer;
    }
