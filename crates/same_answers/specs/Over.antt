-- The calls' answers and buffers with what they take from planning left open, as a way to compute it. Definitions only.
use Rattle.std.specs.Prelude.{ℕ, Bool, cond, ◌&&◌, List, [], ltb, ℤ, length}
use Rattle.std.proofs.Math.Option.{Option, map}
use Rattle.seconds.specs.Limits.{latest_free}
use Rattle.order.specs.Job.{Job, Order, Point}
use Rattle.order.specs.Choice.{mask, number_kept, lost_weight, starts}
use Rattle.plan.specs.Plan.{Ended, Answer}
use Rattle.points.specs.Ways.{Way}
use Rattle.packed.specs.Judge.{Verdict, fine, refused, judge}
use Rattle.packed.specs.Packed.{count_of, order_of}
use Rattle.packed.specs.Refusals.{order_checks}
use Rattle.packed_plan.specs.Plan.{kept_in}
use Rattle.legal.specs.Legal.{weight_kept}
use Rattle.planner.specs.Calls.{Planned, plan_verdict, planned_by, starts_by}
use Rattle.halves.specs.Calls.{HalvesPlanned, halves_verdict, lost_in, with_seconds}
use Rattle.extending.specs.Calls.{Extended, profile_given, extend_verdict, extended_by, out_by}
use Rattle.ties.specs.Winning.{Chosen, TieRule, by_points}
use Rattle.choosing.specs.Choosing.{choosing_verdict, chosen_by, part_of, place_of}
use Rattle.openings.specs.Answer.{Answer as Told, with_kind}
use Rattle.plan_writer.specs.Calls.{Written, write_verdict, written_by, out_by as bytes_by}
use Rattle.checking.specs.Calls.{Checked, legal_in, checked_by}
use Rattle.best_plan.specs.Calls.{best_verdict}
use Rattle.best_plan.specs.Weights.{not_above}
use Rattle.report.specs.Report.{refusal_line, plan_text, text_room}

-- ---- planning, and planning halves

-- The plan's answer with a point total.
abbrev pub answer_with : ℕ → ℤ → List Job → Ended → Answer
answer_with points t js e =
    record {
      mask = mask e.choice;
      kept = number_kept e.choice;
      kept_weight = e.end.weight;
      lost_weight = lost_weight js e.choice;
      finish = e.end.time;
      points = points;
      starts = starts js e.choice t;
    }

abbrev pub plan_answer_over : Way → Order → Option Answer
plan_answer_over w o = map (answer_with (w.total o.t0 o.jobs) o.t0 o.jobs) (w.planned o.t0 o.jobs)

-- The answer, and the starts at exit.
abbrev pub plan_over : Way → List ℕ → List ℤ → List ℤ → Planned × List ℤ
plan_over w bytes starts work =
    let v = plan_verdict bytes starts work in
    let a = plan_answer_over w (order_of bytes) in
    (planned_by v a, starts_by v a starts)

abbrev pub lost_over : Way → Order → ℕ
lost_over w o = lost_in o (w.planned o.t0 o.jobs)

abbrev pub halves_over : Way → List ℕ → List ℤ → List ℤ → HalvesPlanned × List ℤ
halves_over w bytes starts work =
    let v = halves_verdict bytes starts work in
    let a = plan_answer_over w (order_of bytes) in
    (with_seconds (lost_over w (order_of bytes)) (planned_by v a), starts_by v a starts)

-- ---- extending

-- The answer, and the numbers at exit.
abbrev pub extend_over : Way → List ℤ → List ℕ → List ℤ → List ℤ → Extended × List ℤ
extend_over w ns bytes out work =
    let v = extend_verdict ns bytes out work in
    let ps = w.extended (profile_given ns) (order_of bytes).jobs in
    (extended_by v ps, out_by v ps out)

-- ---- the question, and the choice, by a tie rule

abbrev pub point_over : Way → List ℕ → ℤ → Option Point
point_over w bytes t = w.point_at (order_of bytes).t0 (order_of bytes).jobs t

-- Which opening wins.
abbrev pub chosen_over : Way → TieRule → List ℕ → List ℕ → ℤ → List ℤ → Chosen
chosen_over w rule first second t work =
    chosen_by (choosing_verdict first second work) (by_points rule (point_over w first t) (point_over w second t))

-- The same with the kind of the winner's records.
abbrev pub question_over : Way → TieRule → List ℕ → List ℕ → ℤ → List ℤ → Told
question_over w rule first second t work = with_kind first second (chosen_over w rule first second t work)

-- The part handed back, its bytes and its place.
abbrev pub choice_over : Way → TieRule → List ℕ → List ℕ → ℕ × ℕ → ℕ × ℕ → ℤ → List ℤ → List ℕ × (ℕ × ℕ)
choice_over w rule first second at other t work =
    let c = chosen_over w rule first second t work in
    (part_of c first second, place_of c at other)

-- ---- writing the plan, and whether a plan is best

-- The answer, and the bytes at exit.
abbrev pub write_over : Way → List ℕ → List ℕ → List ℤ → Written × List ℕ
write_over w order out work =
    let v = write_verdict order out work in
    let a = plan_answer_over w (order_of order) in
    (written_by v a, bytes_by v a out)

-- A plan is best if it is legal and the order's last point, by the latest time at which the bus can be free, is no heavier.
abbrev pub best_by : List ℕ → List ℕ → Option Point → Bool
best_by order plan last =
    legal_in order plan
    && not_above (map (λ (p : Point). p.weight) last) (weight_kept (order_of order) (kept_in (count_of order) plan))

abbrev pub best_over : Way → List ℕ → List ℕ → List ℤ → Checked
best_over w order plan work = checked_by (best_verdict order plan work) (best_by order plan (point_over w order latest_free))

-- ---- the program's text

-- By the verdict and the plan.
abbrev pub text_by : List Job → Verdict → Option Answer → List ℕ
text_by js (refused r) plan = refusal_line r
text_by js fine plan = plan_text js plan

-- What is written for any bytes into any buffer.
abbrev pub report_over : Way → List ℕ → List ℕ → List ℕ
report_over w bytes out =
    let o = order_of bytes in
    cond (ltb (length out) text_room) [] (text_by o.jobs (judge (order_checks bytes)) (plan_answer_over w o))
