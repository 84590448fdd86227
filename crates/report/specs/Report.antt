-- The text that the program prints, as a function of the bytes that it reads. Definitions only.
use Rattle.std.specs.Prelude.{ℕ, ◌≤◌, ◌≡◌, cond, List, [], ◌∷◌, ◌++◌, ltb, ℤ, pos, length, drop}
use Rattle.std.proofs.Math.Option.{Option, none, some}
use Rattle.seconds.specs.Limits.{left_out}
use Rattle.seconds.specs.Ranges.{same}
use Rattle.order.specs.Job.{Job, Order}
use Rattle.plan.specs.Plan.{Answer, plan_answer}
use Rattle.packed.specs.declared.Refusal.{Refusal}
use Rattle.packed.specs.Judge.{plainly, Verdict, fine, refused, judge}
use Rattle.packed.specs.Packed.{order_of}
use Rattle.packed.specs.Refusals.{order_checks}
use Rattle.planner.specs.Calls.{figures_of}
use Rattle.planner.specs.declared.Figures.{Figures}
use Rattle.text.specs.Decimal.{minus, digits, figure, words, line}

-- ---- the lines

-- Of a refusal: its number, its place and its field.
unfoldable pub refusal_line : Refusal → List ℕ
refusal_line r = line (pos r.number ∷ pos r.place ∷ pos r.field ∷ [])

-- Of a plan: no refusal and no place, jobs kept, kept weight, lost weight, bus-free time, point total.
unfoldable pub plan_line : Figures → List ℕ
plan_line f =
    line
    (pos 0 ∷ pos 0 ∷ pos f.kept ∷ pos f.kept_weight ∷ pos f.lost_weight ∷ f.finish ∷ pos f.points ∷ [])

-- The word for a job's start: a minus sign alone where the job is left out.
unfoldable pub start_word : ℤ → List ℕ
start_word start = cond (same start left_out) (minus ∷ []) (figure start)

-- Of a job: its number and its start.
unfoldable pub job_line : ℕ → ℤ → List ℕ
job_line number start = words (digits number ∷ start_word start ∷ [])

-- Of all jobs, in place order.
unfoldable pub job_lines : List Job → List ℤ → List ℕ
job_lines [] starts = []
job_lines (j ∷ js) [] = []
job_lines (j ∷ js) (start ∷ starts) = job_line j.number start ++ job_lines js starts

-- ---- the whole text

-- Of jobs that were planned: a plan's line and a line for each job; 11 where there is no feasible choice.
unfoldable pub plan_text : List Job → Option Answer → List ℕ
plan_text js none = refusal_line (plainly 11)
plan_text js (some a) = plan_line (figures_of a) ++ job_lines js a.starts

-- By the verdict on the order: a refused one has one line.
unfoldable pub text_of : Verdict → Order → List ℕ
text_of (refused r) o = refusal_line r
text_of fine o = plan_text o.jobs (plan_answer o)

-- The text for any bytes.
unfoldable pub report_of : List ℕ → List ℕ
report_of bytes = text_of (judge (order_checks bytes)) (order_of bytes)

-- ---- the calls

-- The room that is wanted for a text, in bytes: enough for that of any order.
abbrev pub text_room : ℕ
text_room = 2048

-- What is written for any bytes into any buffer: the text, or nothing where there is too little room.
unfoldable pub printed : List ℕ → List ℕ → List ℕ
printed bytes out = cond (ltb (length out) text_room) [] (report_of bytes)

-- It stands at the front of the buffer, what is behind it is as it was, and its length is handed back.
pub record Reported (bytes out out' : List ℕ) (r : ℕ) : Type 0 where
  pub text : out' ≡ printed bytes out ++ drop (length (printed bytes out)) out
  pub count : r ≡ length (printed bytes out)
  pub within : r ≤ length out
