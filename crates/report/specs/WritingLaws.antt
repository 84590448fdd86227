-- The lines as the code puts them together, and the jobs' lines place by place.
use Rattle.std.specs.Prelude.{ℕ, ◌+◌, ◌<◌, ◌≡◌, true, ◌≢◌, T, ℤ, pos, get_or}
use Rattle.std.proofs.Common.{ap, arith, take-suc, Fits, to_z, of_z, to_z-of_z}
use mathlib.Core.List.{List, [], ◌∷◌, ◌++◌, append_assoc, append-nil}
use Rattle.std.proofs.Math.Numerals.{add-one}
use Rattle.std.proofs.Math.IntN.{nat_abs}
use Rattle.std.proofs.Math.ListN.{length, take}
use Rattle.std.proofs.Math.Seq.{length-take-le}
use Rattle.std.specs.Int.Signed.{non_neg}
use Rattle.std.specs.Int.{w32}
use Rattle.seconds.specs.Limits.{left_out}
use Rattle.seconds.specs.Ranges.{Between}
use Rattle.seconds.specs.RangesLaws.{same-yes, same-no}
use Rattle.seconds.specs.Signed.{signed, add_is, abs_is}
use Rattle.order.specs.Job.{Job, allowed}
use Rattle.order.specs.Choice.{start_of}
use Rattle.order.proofs.Moves.{pick-holds}
use Rattle.order.proofs.Within.{JobWithin}
use Rattle.packed.specs.Places.{each}
use Rattle.packed.specs.PlacesLaws.{each_more, each-end, length-each}
use Rattle.packed.specs.declared.Refusal.{Refusal}
use Rattle.packed.specs.Packed.{count_of, job_fields, job_of, job_in, order_of}
use Rattle.packed.proofs.PackedLaws.{fields-of-numbers, numbers-count, order-jobs}
use Rattle.packed.proofs.RefusalLaws.{Within}
use Rattle.packed.proofs.Accepted.{OrderFine}
use Rattle.fields.specs.Fields.{fields_of}
use Rattle.fields.specs.declared.Job.{Job as Numbers}
use Rattle.planner.specs.declared.Figures.{Figures}
use Rattle.text.specs.Decimal.{newline, space, minus, digits, figure}
use Rattle.report.specs.Report.{refusal_line, plan_line, start_word, job_line, job_lines}
use Rattle.report.specs.Writing.{front_words, kept_words, listed}

-- ---- one line

-- Of a refusal.
pub refusal-line : (r : Refusal) → refusal_line r ≡ front_words r.number r.place ++ (digits r.field ++ (newline ∷ []))
unfolding refusal_line figure
refusal-line r = simp append_assoc

-- Of a plan: no refusal, the first words, the bus-free time, and the point total.
pub plan-line : (f : Figures) → plan_line f
    ≡ ((front_words 0 0 ++ kept_words f) ++ figure f.finish) ++ (space ∷ [])
    ++ (digits f.points ++ (newline ∷ []))
unfolding plan_line kept_words figure
plan-line f = simp append_assoc

-- The word for a start, of a job that is left out, and of one that is kept.
pub word-left-out : {start : ℤ} → start ≡ left_out → start_word start ≡ minus ∷ []
unfolding start_word
word-left-out {start} e = rw ((same-yes start left_out).1 e)

pub word_kept : {start : ℤ} → (start ≡ left_out → ⊥) → start_word start ≡ figure start
unfolding start_word
word_kept {start} n = rw ((same-no start left_out).1 n)

-- A kept job starts before its deadline, so a minus sign alone stands for a job left out and for no other.
pub kept-told : (j : Job) (x : ℕ) (free : ℤ) → JobWithin j → allowed j x free ≡ true → x ≢ 0
    → start_word (start_of j x free) ≡ figure (start_of j x free)
kept-told j x free within may kept =
    let ends = (pick-holds j x free may).kept kept in
    word_kept
    (λ e. omega (signed, e, ends.2, add_is (start_of j x free) (pos ends.0.takes), within.deadline))

-- ---- the number of a job that was read at a place of an accepted order

module _ (bytes : List ℕ) (order : OrderFine bytes) (k : ℕ) (below : k < count_of bytes) (job : Numbers)
    (is : fields_of job ≡ job_fields bytes k) where
  -- Its numbers are those of the place,
  fields : fields_of job ≡ job_fields bytes k
  fields = is

  -- so it is from 0 to 63.
  number_in : Between (pos 0) (pos 63) job.number
  number_in =
      let w : Within (job_fields bytes k) =
      rw (fields-of-numbers bytes k below) at (order.jobs.within k (omega (arith, numbers-count bytes))) in
      (rw (← fields) at w).number

  -- It is read back from its bits,
  number-back : to_z w32 (of_z w32 job.number) ≡ job.number
  number-back = to_z-of_z {w = w32} {z = job.number} (omega (signed, number_in))

  -- can be handed on as an unsigned number,
  pub number-casts : T (non_neg (to_z w32 (of_z w32 job.number))) × Fits w32 (nat_abs (to_z w32 (of_z w32 job.number)))
  number-casts = rw number-back (omega (signed, number_in, abs_is job.number))

  -- and is the job's.
  pub number_is : nat_abs (to_z w32 (of_z w32 job.number)) ≡ (job_in bytes k).number
  unfolding job_of
  number_is = rw number-back (ap (λ (zs : List ℤ). nat_abs (get_or zs 0 (pos 0))) fields)

-- ---- the jobs' lines

-- One job more.
lines_more : (js : List Job) (ss : List ℤ) (j : Job) (s : ℤ) → length js ≡ length ss
    → job_lines (js ++ (j ∷ [])) (ss ++ (s ∷ [])) ≡ job_lines js ss ++ job_line j.number s
unfolding job_lines
lines_more [] [] j s e = append-nil (job_line j.number s)
lines_more [] (x ∷ ss) j s e = absurd (omega arith)
lines_more (i ∷ js) [] j s e = absurd (omega arith)
lines_more (i ∷ js) (x ∷ ss) j s e = rw (lines_more js ss j s (omega arith), append_assoc)

module _ (bytes : List ℕ) (starts : List ℤ) where
  -- None yet.
  pub listed-none : listed bytes starts 0 ≡ []
  unfolding listed job_lines
  listed-none = rw (each-end (job_in bytes) 0)

  -- The next one.
  pub listed_more : (i : ℕ) → i < length starts
      → listed bytes starts (i + 1) ≡ listed bytes starts i ++ job_line (job_in bytes i).number (get_or starts i (pos 0))
  unfolding listed
  listed_more i h =
      let more : take (i + 1) starts ≡ take i starts ++ (get_or starts i (pos 0) ∷ []) = rw add-one (take-suc starts i (pos 0) h) in
      let long : length (each (job_in bytes) 0 i) ≡ length (take i starts) =
      omega (arith, length-each (job_in bytes) 0 i, length-take-le i starts (omega arith)) in
      rw (each_more (job_in bytes) 0 i (omega arith), more)
      (lines_more (each (job_in bytes) 0 i) (take i starts) (job_in bytes i) (get_or starts i (pos 0)) long)

  -- All of them.
  pub listed-all : listed bytes starts (count_of bytes) ≡ job_lines (order_of bytes).jobs (take (count_of bytes) starts)
  unfolding listed
  listed-all = rw (order-jobs bytes)
