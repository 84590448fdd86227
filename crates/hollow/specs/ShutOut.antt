-- Of every call but those of sheets (Sheets), a version that refuses everything, one with a constant answer and one that writes
-- nothing are shut out, at inputs that the call accepts, by what the definitions answer and write there.
use Rattle.std.specs.Prelude.{◌≡◌, refl, List, ℤ, pos, nat_abs, length, get_or}
use Rattle.std.proofs.Common.{ap, arith}
use Rattle.seconds.specs.Limits.{rest}
use Rattle.seconds.specs.Signed.{signed}
use Rattle.seconds.specs.Twos.{bits_to, to_bits}
use Rattle.packed.specs.Layout.{decode, encode, number_of, bytes_of, record_bytes}
use Rattle.packed.specs.Places.{part, flat, each, first}
use Rattle.packed.specs.Packed.{header_word, header_of, count_of, t0_of, kind_of, record_at, job_word, job_fields, numbers_of}
use Rattle.packed.specs.Packed.{job_count, fields_at, packed_header, packed_job, pack_in, first_packed, kind_for, job_of, jobs_of}
use Rattle.packed.specs.Refusals.{fields_within, first_bad, number_at, first_repeat, header_checks, list_checks, job_checks}
use Rattle.packed.specs.Refusals.{weight_checks}
use Rattle.packed_plan.specs.Plan.{plan_number, pack_plan}
use Rattle.profiles.specs.Numbers.{most_numbers}
use Rattle.profiles.specs.Answer.{found_of}
use Rattle.better.specs.Answer.{points_written as points_joined}
use Rattle.unpack.specs.Answer.{jobs_unpacked}
use Rattle.pack.specs.Answer.{bytes_written}
use Rattle.multiples.specs.Multiples.{gcd_in, gcd, lcm}
use Rattle.frames.specs.Frames.{may_repeat, jobs_given, given_at, first_unfit, frame_of, repeats_of, sequence_of, frame_numbers}
use Rattle.frames.specs.Frames.{given_checks, made_checks}
use Rattle.framing.specs.Answer.{frame_told}
use Rattle.reader.specs.Reading.{open_count, read_numbers}
use Rattle.heat.specs.Answer.{length_of}
use Rattle.extending.specs.Calls.{points_written}
use Rattle.planner.specs.Calls.{plan_numbers}
use Rattle.halves.specs.Calls.{halves_numbers}
use Rattle.ties.specs.Winning.{TieRule}
use Rattle.choosing.specs.Choosing.{winner_of}
use Rattle.openings.specs.Answer.{Answer, chosen_in, kind_told}
use Rattle.checking.specs.Calls.{checked_numbers}
use Rattle.plan_writer.specs.Calls.{bytes_for}
use Rattle.report.specs.AsPrinted.{morning_bytes}
use Rattle.worked.specs.Plans.{own_plan, lighter_plan}
use Rattle.hollow.specs.Contract.{ShutOut, Refuses, Writes, TellsApart, NotHollow, NotHollowIn}
use Rattle.hollow.specs.Promises.{planning, extending, joining_profiles, looking_up, looking_up_records}
use Rattle.hollow.specs.Promises.{unpacking, packing, framing, opening_reader, stepping, beginning, stepping_reader, reading_at}
use Rattle.hollow.specs.Promises.{planning_halves, reporting, heating_up, AskInput, asking, choosing}
use Rattle.hollow.specs.Promises.{checking_legal, checking_best, writing_plan}
use Rattle.hollow.specs.Laws.{other-answer, answered-wrongly, same-buffers, unwritten, not-hollow, not-hollow-in}
use Rattle.hollow.specs.Named.{ones, front, work_area, one_job_bytes, plan_morning, plan_one_job, halves_checked}
use Rattle.hollow.specs.Named.{extend_morning, extend_one_job}
use Rattle.hollow.specs.Named.{join_two, join_one, lookup_at, lookup_records_at, unpack_morning, unpack_one_job}
use Rattle.hollow.specs.Named.{pack_morning, pack_one_job, frame_checks, frame_nothing, block, reader_at, page, ask_at, choose_at}
use Rattle.hollow.specs.Named.{one_job_plan, best_morning, best_one_job, write_morning, write_one_job}
use Rattle.hollow.specs.Computed.{accepted, length-ones, front-ones, front-cleared}
use Rattle.hollow.specs.Computed.{morning-on-page, one-job-on-page, page-front}

-- ---- planning and extending, on P1 and P4; planning halves, on the README's order and P4

-- By the number of jobs kept, and the first start;
pub plan-not-hollow : NotHollowIn planning (λ b. b.0) plan_morning plan_one_job
unfolding rest
plan-not-hollow =
    not-hollow-in planning (rw (accepted.plan-morning, accepted.morning-order)) (λ r. (plan_numbers r).kept)
    (rw (accepted.plan-morning, accepted.morning-order, accepted.plan-one-job, accepted.one-job-order) (omega arith))
    (λ b. b.0) front (rw (accepted.plan-morning, accepted.morning-order, front-ones 4) (omega signed))

-- by the optional seconds lost, and the first start;
pub plan-halves-not-hollow : NotHollowIn planning_halves (λ b. b.0) halves_checked plan_one_job
unfolding rest
plan-halves-not-hollow =
    not-hollow-in planning_halves (rw (accepted.halves-checked, accepted.checked-order)) (λ r. (halves_numbers r).seconds_lost)
    (rw (accepted.halves-checked, accepted.checked-order, accepted.halves-one-job, accepted.one-job-order) (omega arith))
    (λ b. b.0) front (rw (accepted.halves-checked, accepted.checked-order, front-ones 3) (omega signed))

-- by the number of points written, and the first point's time.
pub extend-not-hollow : NotHollowIn extending (λ b. b.0) extend_morning extend_one_job
unfolding rest
extend-not-hollow =
    not-hollow-in extending (rw accepted.extend-morning) points_written
    (rw (accepted.extend-morning, accepted.morning-order, accepted.extend-one-job, accepted.one-job-order) (omega arith))
    (λ b. b.0) front (rw (accepted.extend-morning, accepted.morning-order, front-ones 601) (omega signed))

-- None may leave the work area as it was.
pub plan-clears : Writes planning (λ b. b.1) plan_morning
plan-clears f leaves =
    unwritten planning (λ b. b.1) f plan_morning front
    (rw (accepted.plan-morning, front-cleared work_area, front-ones 14748) (omega signed)) (leaves plan_morning)

pub plan-halves-clears : Writes planning_halves (λ b. b.1) halves_checked
plan-halves-clears f leaves =
    unwritten planning_halves (λ b. b.1) f halves_checked front
    (rw (accepted.halves-checked, front-cleared work_area, front-ones 14748) (omega signed)) (leaves halves_checked)

pub extend-clears : Writes extending (λ b. b.1) extend_morning
extend-clears f leaves =
    unwritten extending (λ b. b.1) f extend_morning front
    (rw (accepted.extend-morning, front-cleared work_area, front-ones 14748) (omega signed)) (leaves extend_morning)

-- ---- better-of on P9, lookup as in P3, heat-up as in P10

pub better-of-not-hollow : NotHollowIn joining_profiles (λ b. b) join_two join_one
unfolding rest
better-of-not-hollow =
    not-hollow-in joining_profiles (rw (length-ones most_numbers)) points_joined (rw (length-ones most_numbers) (omega arith))
    (λ b. b) front (rw (length-ones most_numbers, front-ones 601) (omega signed))

pub lookup-not-hollow : NotHollow looking_up (lookup_at (pos 215)) (lookup_at (pos 214))
unfolding rest
lookup-not-hollow = not-hollow looking_up refl found_of (omega arith)

pub lookup-records-not-hollow : NotHollow looking_up_records (lookup_records_at (pos 215)) (lookup_records_at (pos 214))
unfolding rest
lookup-records-not-hollow = not-hollow looking_up_records refl found_of (omega arith)

pub heat-up-not-hollow : NotHollow heating_up 255 0
unfolding bits_to
heat-up-not-hollow = not-hollow heating_up refl length_of (omega arith)

-- ---- openings, by every tie rule: P1 wins at 1,000, and P4 for pack 3 at 100, when P1 has no point yet

pub question-not-hollow : (rule : TieRule) → NotHollowIn (asking rule) (λ b. b) (ask_at (pos 1000)) (ask_at (pos 100))
unfolding rest
question-not-hollow rule =
    not-hollow-in (asking rule) (rw (accepted.choose, accepted.morning-order, accepted.one-pack-order))
    (λ r. winner_of (chosen_in r)) (rw (accepted.choose, accepted.morning-order, accepted.one-pack-order) (omega arith))
    (λ b. b) front
    (rw (accepted.choose, accepted.morning-order, accepted.one-pack-order, front-cleared work_area, front-ones 14748)
    (omega signed))

-- Nor may the kind always be 0: P4 for pack 3 has records of kind 1.
pub question-kind : (rule : TieRule) (f : AskInput → Answer × List ℤ) → kind_told (f (ask_at (pos 100))).0 ≡ 0
    → ShutOut (asking rule) f (ask_at (pos 100))
unfolding rest
question-kind rule f plain =
    other-answer (asking rule) f (ask_at (pos 100))
    (λ e.
    let told = rw (accepted.choose, accepted.morning-order, accepted.one-pack-order, accepted.one-pack-kind) at
    (ap kind_told e) in
    omega (arith, plain, told))

pub choose-not-hollow : (rule : TieRule) → NotHollowIn (choosing rule) (λ b. b) (choose_at (pos 1000)) (choose_at (pos 100))
unfolding rest
choose-not-hollow rule =
    not-hollow-in (choosing rule) (rw (accepted.choose, accepted.morning-order, accepted.one-pack-order)) (λ r. length r.0)
    (rw (accepted.choose, accepted.morning-order, accepted.one-pack-order) (omega arith)) (λ b. b) front
    (rw (accepted.choose, accepted.morning-order, accepted.one-pack-order, front-cleared work_area, front-ones 14748)
    (omega signed))

-- ---- packed orders, on P1 and P4

-- By the number of jobs or bytes, and the first number written; of a step, by the job's number and the place.
pub record PackedNotHollow : Type 0 where
  pub unpacks : NotHollowIn unpacking (λ b. b) unpack_morning unpack_one_job
  pub packs : NotHollowIn packing (λ b. b) pack_morning pack_one_job
  pub makes-frames : NotHollowIn framing (λ b. b) frame_checks frame_nothing
  pub opens : NotHollow opening_reader morning_bytes one_job_bytes
  pub steps : NotHollowIn stepping (λ b. b) (morning_bytes, 0) (morning_bytes, 1)
  pub begins : NotHollow beginning (block 0 morning_bytes) (block 0 one_job_bytes)
  pub moves : NotHollowIn stepping_reader (λ b. b.place) (reader_at 0) (reader_at 1)
  pub reads : NotHollow reading_at (morning_bytes, 0) (morning_bytes, 1)

pub packed-not-hollow : PackedNotHollow
unfolding bits_to to_bits decode encode number_of bytes_of part flat each first header_word header_of count_of t0_of kind_of record_bytes
    record_at job_word job_fields numbers_of job_count fields_at packed_header packed_job pack_in first_packed kind_for job_of jobs_of
    fields_within first_bad number_at first_repeat header_checks list_checks job_checks weight_checks ones rest gcd_in gcd lcm may_repeat
    jobs_given given_at first_unfit frame_of repeats_of sequence_of frame_numbers given_checks made_checks
packed-not-hollow =
    record {
      unpacks = not-hollow-in unpacking refl jobs_unpacked (omega arith) (λ b. b) front (omega signed);
      packs = not-hollow-in packing refl bytes_written (omega arith) (λ b. b) (λ l. pos (get_or l 0 0)) (omega signed);
      makes-frames = not-hollow-in framing refl frame_told (omega arith) (λ b. b) (λ l. pos (get_or l 0 0)) (omega signed);
      opens = not-hollow opening_reader refl open_count (omega arith);
      steps =
          not-hollow-in stepping refl (λ r. nat_abs (front (read_numbers r))) (omega arith) (λ b. b) (λ p. pos p) (omega signed);
      begins = not-hollow beginning refl (λ r. open_count r.0) (omega arith);
      moves =
          not-hollow-in stepping_reader refl (λ r. nat_abs (front (read_numbers r))) (omega arith) (λ b. b.place) (λ p. pos p)
          (omega signed);
      reads = not-hollow reading_at refl (λ r. nat_abs (front (read_numbers r.moved.answer))) (omega arith);
    }

-- ---- packed plans, for P1 and P4

-- By the verdict: for P1, yes to its own plan and no to P4's, so neither may always be said;
pub legal-not-hollow : NotHollow checking_legal (morning_bytes, own_plan) (morning_bytes, one_job_plan)
legal-not-hollow =
    not-hollow checking_legal (rw accepted.legal-own) (λ r. (checked_numbers r).yes)
    (rw (accepted.legal-own, accepted.legal-other) (omega arith))

-- of P4's plan, yes for P4 and no for P1, so it does not go by the plan alone;
pub legal-not-by-plan : NotHollow checking_legal (one_job_bytes, one_job_plan) (morning_bytes, one_job_plan)
legal-not-by-plan =
    not-hollow checking_legal (rw accepted.legal-one-job) (λ r. (checked_numbers r).yes)
    (rw (accepted.legal-one-job, accepted.legal-other) (omega arith))

-- of two plans that are legal for P1, yes to its own and no to the one of weight 30; and by the cleared work area.
pub best-not-hollow : NotHollowIn checking_best (λ b. b) (best_morning own_plan) (best_morning lighter_plan)
best-not-hollow =
    not-hollow-in checking_best (rw accepted.best-own) (λ r. (checked_numbers r).yes)
    (rw (accepted.best-own, accepted.best-lighter) (omega arith)) (λ b. b) front
    (rw (accepted.best-passed, front-cleared work_area, front-ones 14748) (omega signed))

-- Neither call may answer for P4 and P1's own plan, which has bits set beyond P4's one job.
pub legal-refuses : Refuses checking_legal (one_job_bytes, own_plan)
legal-refuses f = answered-wrongly checking_legal f (one_job_bytes, own_plan) (rw accepted.legal-refused)

pub best-refuses : Refuses checking_best (best_one_job own_plan)
best-refuses f = answered-wrongly checking_best f (best_one_job own_plan) (rw accepted.best-refused)

-- By the number of bytes, and the first one.
pub write-plan-not-hollow : NotHollowIn writing_plan (λ b. b.0) write_morning write_one_job
unfolding rest to_bits encode bytes_of plan_number pack_plan bytes_for
write-plan-not-hollow =
    not-hollow-in writing_plan (rw (accepted.write-morning, accepted.morning-order)) bytes_written
    (rw (accepted.write-morning, accepted.morning-order, accepted.write-one-job, accepted.one-job-order) (omega arith))
    (λ b. b.0) (λ l. pos (get_or l 0 0)) (rw (accepted.write-morning, accepted.morning-order) (omega signed))

-- The bytes may not be the same for both, whatever is answered,
pub write-plan-not-constant : TellsApart writing_plan (λ b. b.0) write_morning write_one_job
unfolding rest to_bits encode bytes_of plan_number pack_plan bytes_for
write-plan-not-constant f =
    same-buffers writing_plan (λ b. b.0) f write_morning write_one_job (λ l. pos (get_or l 0 0))
    (rw (accepted.write-morning, accepted.morning-order, accepted.write-one-job, accepted.one-job-order) (omega signed))

-- and the work area may not stay as it was.
pub write-plan-clears : Writes writing_plan (λ b. b.1) write_morning
write-plan-clears f leaves =
    unwritten writing_plan (λ b. b.1) f write_morning front
    (rw (accepted.write-morning, front-cleared work_area, front-ones 14748) (omega signed)) (leaves write_morning)

-- ---- the text, of P1 and P4

-- By its length, and its first byte.
pub report-not-hollow : NotHollowIn reporting (λ b. b) (morning_bytes, page) (one_job_bytes, page)
report-not-hollow =
    not-hollow-in reporting (rw morning-on-page) (λ r. r) (rw (morning-on-page, one-job-on-page) (omega arith)) (λ b. b)
    (λ l. pos (get_or l 0 0)) (rw (morning-on-page, page-front) (omega signed))
