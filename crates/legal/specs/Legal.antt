-- Plans as another planner sends them, which jobs are kept and the start of each: when such a plan is legal, and when it is best;
-- and the tests that decide it. Definitions only.
use Rattle.std.specs.Prelude.{ℕ, suc, ◌≤◌, ◌≡◌, Bool, true, false, not, ◌&&◌, List, [], ◌∷◌, eqb, ltb, ℤ, pos, ◌+ℤ◌, length, ◌≤ℤ◌}
use Rattle.std.proofs.Math.Option.{some}
use Rattle.std.proofs.Math.ListN.{get_elem?}
use Rattle.std.specs.Int.Signed.{le_z}
use Rattle.seconds.specs.Limits.{rest}
use Rattle.order.specs.Job.{Job, Order, length_of}
use Rattle.order.specs.Choice.{Choice, feasible, kept_weight, choices}

-- ---- a plan's jobs and their finishes

-- Start + length.
abbrev pub end_of : Job → ℤ → ℤ
end_of j s = s +ℤ pos (length_of j)

-- The jobs that are kept, in their sequence.
abbrev pub kept_jobs : List Job → List Bool → List Job
kept_jobs [] ks = []
kept_jobs (j ∷ js) [] = []
kept_jobs (j ∷ js) (false ∷ ks) = kept_jobs js ks
kept_jobs (j ∷ js) (true ∷ ks) = j ∷ kept_jobs js ks

-- When the bus is free after them, by their starts: a rest after the last one's finish.
abbrev pub ends_at : List Job → List ℤ → ℤ → ℤ
ends_at [] ss free = free
ends_at (j ∷ js) [] free = free
ends_at (j ∷ js) (s ∷ ss) free = ends_at js ss (end_of j s +ℤ pos rest)

-- ---- legal

-- Every job is said to be kept or not, and each kept one has a start. All critical jobs are kept; every start is at or after t0 and
-- its job's ready time, and start + length is at or before the deadline; every start but the first is at or after the finish of the
-- kept job before it and the rest. Idle time is legal.
pub record Legal (o : Order) (kept : List Bool) (starts : List ℤ) : Type 0 where
  pub every : length kept ≡ length o.jobs
  pub each : length starts ≡ length (kept_jobs o.jobs kept)
  pub critical : (p : ℕ) {j : Job} → get_elem? o.jobs p ≡ some j → j.critical ≡ true → get_elem? kept p ≡ some true
  pub after-t0 : (i : ℕ) {s : ℤ} → get_elem? starts i ≡ some s → o.t0 ≤ℤ s
  pub when-ready : (i : ℕ) {j : Job} {s : ℤ} → get_elem? (kept_jobs o.jobs kept) i ≡ some j → get_elem? starts i ≡ some s
      → j.ready ≤ℤ s
  pub in-time : (i : ℕ) {j : Job} {s : ℤ} → get_elem? (kept_jobs o.jobs kept) i ≡ some j → get_elem? starts i ≡ some s
      → end_of j s ≤ℤ j.deadline
  pub rested : (i : ℕ) {j : Job} {s t : ℤ} → get_elem? (kept_jobs o.jobs kept) i ≡ some j → get_elem? starts i ≡ some s
      → get_elem? starts (suc i) ≡ some t → (end_of j s +ℤ pos rest) ≤ℤ t

-- ---- best

-- The choice that keeps some jobs at their one rate,
abbrev pub pick_of : Bool → ℕ
pick_of false = 0
pick_of true = 1

abbrev pub choice_of : List Bool → Choice
choice_of [] = []
choice_of (k ∷ ks) = pick_of k ∷ choice_of ks

-- and its weight.
abbrev pub weight_kept : Order → List Bool → ℕ
weight_kept o kept = kept_weight o.jobs (choice_of kept)

-- Legal, and no feasible choice keeps more weight.
pub record Best (o : Order) (kept : List Bool) (starts : List ℤ) : Type 0 where
  pub legal : Legal o kept starts
  pub most : (c : Choice) → feasible o.jobs c o.t0 ≡ true → kept_weight o.jobs c ≤ weight_kept o kept

-- ---- the tests

-- One start, with the bus free at a time.
abbrev pub start_legal : Job → ℤ → ℤ → Bool
start_legal j s free = le_z free s && (le_z j.ready s && le_z (end_of j s) j.deadline)

-- Job by job, with the bus free at a time; after a kept one it is free a rest after the finish.
abbrev pub legal_from : List Job → List Bool → List ℤ → ℤ → Bool
legal_from [] [] [] free = true
legal_from [] [] (s ∷ ss) free = false
legal_from [] (k ∷ ks) ss free = false
legal_from (j ∷ js) [] ss free = false
legal_from (j ∷ js) (false ∷ ks) ss free = not j.critical && legal_from js ks ss free
legal_from (j ∷ js) (true ∷ ks) [] free = false
legal_from (j ∷ js) (true ∷ ks) (s ∷ ss) free = start_legal j s free && legal_from js ks ss (end_of j s +ℤ pos rest)

-- A plan is legal.
unfoldable pub is_legal : Order → List Bool → List ℤ → Bool
is_legal o kept starts = legal_from o.jobs kept starts o.t0

-- None of some choices is feasible and keeps more than a weight.
abbrev pub none_more : Order → ℕ → List Choice → Bool
none_more o w [] = true
none_more o w (c ∷ cs) = not (feasible o.jobs c o.t0 && ltb w (kept_weight o.jobs c)) && none_more o w cs

-- A plan is best.
unfoldable pub is_best : Order → List Bool → List ℤ → Bool
is_best o kept starts = is_legal o kept starts && none_more o (weight_kept o kept) (choices o.jobs)

-- ---- the plan of a choice

-- Which jobs a choice keeps,
abbrev pub kept_of : Choice → List Bool
kept_of [] = []
kept_of (x ∷ c) = not (eqb x 0) ∷ kept_of c

-- and the starts of those alone, of the starts in place order.
abbrev pub kept_starts : List Bool → List ℤ → List ℤ
kept_starts [] ss = []
kept_starts (k ∷ ks) [] = []
kept_starts (false ∷ ks) (s ∷ ss) = kept_starts ks ss
kept_starts (true ∷ ks) (s ∷ ss) = s ∷ kept_starts ks ss
