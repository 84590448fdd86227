-- What the parts of a report ask of their callers, and the jobs' lines as the code goes through them. Definitions only.
use Rattle.std.specs.Prelude.{ℕ, ◌+◌, ◌*◌, ◌≤◌, ◌≡◌, List, [], ◌∷◌, ◌++◌, ℤ, length, take}
use Rattle.std.proofs.Math.Option.{some}
use Rattle.seconds.specs.Limits.{most_jobs}
use Rattle.plan.specs.Plan.{Answer, plan_answer}
use Rattle.packed.specs.declared.Refusal.{Refusal}
use Rattle.packed.specs.Places.{each}
use Rattle.packed.specs.Packed.{count_of, job_in, order_of}
use Rattle.packed.proofs.Accepted.{OrderFine}
use Rattle.area.specs.Area.{area}
use Rattle.planner.specs.Calls.{figures_of}
use Rattle.planner.specs.declared.Figures.{Figures}
use Rattle.text.specs.Decimal.{space, digits}
use Rattle.text.specs.declared.Writer.{Writer}
use Rattle.report.specs.Report.{job_lines, text_room}

-- The first words of every text: a refusal's number and its place, a space behind each.
abbrev pub front_words : ℕ → ℕ → List ℕ
front_words number place = digits number ++ (space ∷ (digits place ++ (space ∷ [])))

-- The words of a plan's line behind them: jobs kept, kept weight, lost weight, a space behind each.
unfoldable pub kept_words : Figures → List ℕ
kept_words f =
    digits f.kept ++ (space ∷ (digits f.kept_weight ++ (space ∷ (digits f.lost_weight ++ (space ∷ [])))))

-- The lines of the first n jobs, with the first n starts.
unfoldable pub listed : List ℕ → List ℤ → ℕ → List ℕ
listed bytes starts n = job_lines (each (job_in bytes) 0 n) (take n starts)

-- A refusal can be told: its place is one of at most 48 jobs, and there is room for its line.
pub record CanRefuse (refusal : Refusal) (out : List ℕ) : Type 0 where
  pub early : refusal.place ≤ most_jobs
  pub room : 33 ≤ length out

-- The jobs can be listed: the order is accepted, each job has a start, and there is room for a line of each.
pub record CanList (bytes : List ℕ) (n : ℕ) (starts : List ℤ) (text : Writer) : Type 0 where
  pub order : OrderFine bytes
  pub count : n ≡ count_of bytes
  pub places : n ≤ length starts
  pub room : text.at + 23 * n ≤ length text.out.now

-- A plan can be told: the order is accepted, these are the figures and the starts of its plan, and there is room for a text.
pub record CanTell (bytes : List ℕ) (figures : Figures) (starts : List ℤ) (out : List ℕ) : Type 0 where
  pub order : OrderFine bytes
  pub answer : Answer
  pub is : plan_answer (order_of bytes) ≡ some answer
  pub numbers : figures ≡ figures_of answer
  pub places : count_of bytes ≤ length starts
  pub begins : take (count_of bytes) starts ≡ answer.starts
  pub room : text_room ≤ length out

-- Any bytes can be planned and told: there is room for a start of each job, for the rows and for a text.
pub record HasRoom (starts work : List ℤ) (out : List ℕ) : Type 0 where
  pub places : most_jobs ≤ length starts
  pub space : area ≤ length work
  pub room : text_room ≤ length out
