-- Two ways to plan that give the same for every accepted order give every call the same answer and the same buffers, for every
-- input. So rows and lists do, and both give what the contracts of the calls say.
use Rattle.std.specs.Prelude.{ℕ, ◌≡◌, refl, cond, ◌&&◌, List, [], ◌++◌, ltb, ℤ, length}
use Rattle.std.proofs.Common.{sym, ap, ap₂, ◌∙◌}
use Rattle.std.proofs.Math.Option.{Option, map}
use Rattle.seconds.specs.Limits.{latest_free}
use Rattle.order.specs.Job.{Order}
use Rattle.plan.specs.Plan.{Ended, Answer, plan_answer}
use Rattle.profile.specs.Profile.{lookup, order_profile}
use Rattle.profile.proofs.Rising.{Rising}
use Rattle.profile.proofs.Worth.{lookup-worth, order-rises}
use Rattle.points.specs.Ways.{Way, SameWay, by_rows, by_lists, by_rules}
use Rattle.points.proofs.WaysLaws.{lists-rules, rows-lists}
use Rattle.packed.specs.Judge.{Verdict, fine, refused, judge}
use Rattle.packed.specs.JudgeLaws.{stages-fine}
use Rattle.packed.specs.Packed.{count_of, numbers_of, order_of, jobs_in}
use Rattle.packed.specs.Refusals.{room_checks, order_checks, halves_checks}
use Rattle.packed.proofs.Accepted.{OrderFine, order-fine, order-within}
use Rattle.packed_plan.specs.Plan.{kept_in}
use Rattle.legal.specs.Legal.{weight_kept, is_best}
use Rattle.seconds.specs.Determined.{two}
use Rattle.profiles.specs.Numbers.{most_numbers}
use Rattle.area.specs.Area.{area}
use Rattle.filling.specs.BeginLaws.{profile-valid}
use Rattle.filling.specs.ListsLaws.{jobs-single}
use Rattle.planner.specs.Calls.{plan_checks, plan_verdict, planned_by, starts_by, planned_of, starts_after}
use Rattle.halves.specs.Calls.{plan_halves_checks, halves_verdict, lost_in, with_seconds, halves_of, halves_starts_after}
use Rattle.extending.specs.Calls.{profile_given, extend_judged, extend_checks, extend_verdict, extended_by, out_by, extended_of, out_after}
use Rattle.extending.proofs.CallLaws.{given-read}
use Rattle.extending.proofs.ExtendingLaws.{Accepted, accepted, accepted-order}
use Rattle.ties.specs.Winning.{Chosen, TieRule, by_points}
use Rattle.choosing.specs.Choosing.{choosing_checks, choosing_verdict, chosen_by, part_of, place_of, chosen_of}
use Rattle.openings.specs.Answer.{with_kind, answer_of}
use Rattle.plan_writer.specs.Calls.{plan_room, write_checks, write_verdict, written_by, out_by as bytes_by, written_of, out_after as bytes_after}
use Rattle.checking.specs.Calls.{legal_checks, legal_in, checked_by}
use Rattle.checking.specs.CallLaws.{order-passed}
use Rattle.best_plan.specs.Calls.{best_checks, best_verdict, best_in, best_of}
use Rattle.best_plan.specs.Weights.{not_above}
use Rattle.best_plan.specs.Most.{most-told}
use Rattle.same_answers.specs.Over.{answer_with, plan_answer_over, plan_over, lost_over, halves_over, extend_over, point_over}
use Rattle.same_answers.specs.Over.{chosen_over, question_over, choice_over}
use Rattle.report.specs.Report.{text_of, report_of, text_room, printed}
use Rattle.same_answers.specs.Over.{write_over, best_by, best_over, text_by, report_over}

-- Two ways give the same for every accepted order.
abbrev pub Agree : Way → Way → Type 0
Agree a b = (bytes : List ℕ) → OrderFine bytes → SameWay a b (order_of bytes).jobs

-- So do rows and lists, and lists and the rules.
pub rows-lists-agree : Agree by_rows by_lists
unfolding order_of
rows-lists-agree bytes f = rows-lists (jobs_in bytes) (jobs-single bytes f)

pub lists-rules-agree : Agree by_lists by_rules
unfolding order_of
lists-rules-agree bytes f = lists-rules (jobs_in bytes) (jobs-single bytes f)

-- What is made by a verdict is the same where, once all checks are passed, it is made of the same.
by-verdict : {X A : Type 0} (by : Verdict → X → A) (v : Verdict) (x y : X) → (v ≡ fine → x ≡ y)
    → (((r : _) → by (refused r) x ≡ by (refused r) y)) → by v x ≡ by v y
by-verdict by fine x y same none = ap (by fine) (same refl)
by-verdict by (refused r) x y same none = none r

-- An order whose plan passes the checks of Best is accepted.
best-fine : (order plan : List ℕ) (work : List ℤ) → best_verdict order plan work ≡ fine → judge (order_checks order) ≡ fine
unfolding best_checks
best-fine order plan work e =
    order-passed order plan ((stages-fine (legal_checks order plan) (room_checks area (length work))).0 e).0

module _ {a b : Way} (agree : Agree a b) where
  -- ---- the plan of an accepted order

  answers-same : (bytes : List ℕ) → OrderFine bytes → plan_answer_over a (order_of bytes) ≡ plan_answer_over b (order_of bytes)
  answers-same bytes f =
      let s = agree bytes f in
      let o = order_of bytes in
      ap₂ (λ (n : ℕ) (p : Option Ended). map (answer_with n o.t0 o.jobs) p) (s.total o.t0) (s.planned o.t0)

  -- ---- planning: the answer, and the starts at exit

  plan-fine : (bytes : List ℕ) (starts work : List ℤ) → plan_verdict bytes starts work ≡ fine → OrderFine bytes
  unfolding plan_checks
  plan-fine bytes starts work e =
      (order-fine bytes).0
      ((stages-fine (order_checks bytes) _).0
      ((stages-fine (order_checks bytes ++ room_checks (count_of bytes) (length starts)) (room_checks area (length work))).0 e).0).0

  pub plan-same : (bytes : List ℕ) (starts work : List ℤ) → plan_over a bytes starts work ≡ plan_over b bytes starts work
  plan-same bytes starts work =
      by-verdict (λ v p. (planned_by v p, starts_by v p starts)) (plan_verdict bytes starts work)
      (plan_answer_over a (order_of bytes)) (plan_answer_over b (order_of bytes))
      (λ e. answers-same bytes (plan-fine bytes starts work e)) (λ r. refl)

  -- ---- planning halves: the same with the seconds lost

  halves-fine : (bytes : List ℕ) (starts work : List ℤ) → halves_verdict bytes starts work ≡ fine → OrderFine bytes
  unfolding plan_halves_checks
  halves-fine bytes starts work e =
      let order = order_checks bytes in
      let halves = order ++ halves_checks (numbers_of bytes) in
      let rooms = halves ++ room_checks (count_of bytes) (length starts) in
      (order-fine bytes).0
      ((stages-fine order _).0 ((stages-fine halves _).0 ((stages-fine rooms (room_checks area (length work))).0 e).0).0).0

  pub halves-same : (bytes : List ℕ) (starts work : List ℤ) → halves_over a bytes starts work ≡ halves_over b bytes starts work
  halves-same bytes starts work =
      by-verdict {X = ℕ × Option Answer} (λ v p. (with_seconds p.0 (planned_by v p.1), starts_by v p.1 starts))
      (halves_verdict bytes starts work) (lost_over a (order_of bytes), plan_answer_over a (order_of bytes))
      (lost_over b (order_of bytes), plan_answer_over b (order_of bytes)) same (λ r. refl)
    where
      same : halves_verdict bytes starts work ≡ fine
          → ◌≡◌ {A = ℕ × Option Answer} (lost_over a (order_of bytes), plan_answer_over a (order_of bytes))
          (lost_over b (order_of bytes), plan_answer_over b (order_of bytes))
      same e =
          let f = halves-fine bytes starts work e in
          let o = order_of bytes in
          two (ap (lost_in o) ((agree bytes f).planned o.t0)) (answers-same bytes f)

  -- ---- extending: the answer, and the numbers at exit

  extend-fine : (ns : List ℤ) (bytes : List ℕ) (out work : List ℤ) → extend_verdict ns bytes out work ≡ fine → Accepted ns bytes
  unfolding extend_checks
  extend-fine ns bytes out work e =
      (accepted ns bytes).0
      ((stages-fine (extend_judged ns bytes) _).0
      ((stages-fine (extend_judged ns bytes ++ room_checks most_numbers (length out)) (room_checks area (length work))).0 e).0).0

  given-rises : (ns : List ℤ) {bytes : List ℕ} → Accepted ns bytes → Rising (profile_given ns)
  given-rises ns f = rw (given-read ns f.valid) (profile-valid ns f.valid).rises

  pub extend_same : (ns : List ℤ) (bytes : List ℕ) (out work : List ℤ)
      → extend_over a ns bytes out work ≡ extend_over b ns bytes out work
  extend_same ns bytes out work =
      by-verdict (λ v ps. (extended_by v ps, out_by v ps out)) (extend_verdict ns bytes out work)
      (a.extended (profile_given ns) (order_of bytes).jobs) (b.extended (profile_given ns) (order_of bytes).jobs)
      (λ e. let f = extend-fine ns bytes out work e in
      (agree bytes (accepted-order f)).extended (profile_given ns) (given-rises ns f)) (λ r. refl)

  -- ---- the question, and the part that the choice hands back

  choosing-fine : (first second : List ℕ) (work : List ℤ) → choosing_verdict first second work ≡ fine
      → OrderFine first × OrderFine second
  unfolding choosing_checks
  choosing-fine first second work e =
      let both =
      (stages-fine (order_checks first) (order_checks second)).0
      ((stages-fine (order_checks first ++ order_checks second) (room_checks area (length work))).0 e).0 in
      ((order-fine first).0 both.0, (order-fine second).0 both.1)

  chosen-same : (rule : TieRule) (first second : List ℕ) (t : ℤ) (work : List ℤ)
      → chosen_over a rule first second t work ≡ chosen_over b rule first second t work
  chosen-same rule first second t work =
      by-verdict chosen_by (choosing_verdict first second work) (by_points rule (point_over a first t) (point_over a second t))
      (by_points rule (point_over b first t) (point_over b second t)) same (λ r. refl)
    where
      same : choosing_verdict first second work ≡ fine
          → by_points rule (point_over a first t) (point_over a second t) ≡ by_points rule (point_over b first t) (point_over b second t)
      same e =
          let f = choosing-fine first second work e in
          ap₂ (by_points rule) ((agree first f.0).point_at (order_of first).t0 t)
          ((agree second f.1).point_at (order_of second).t0 t)

  pub question-same : (rule : TieRule) (first second : List ℕ) (t : ℤ) (work : List ℤ)
      → question_over a rule first second t work ≡ question_over b rule first second t work
  question-same rule first second t work = ap (with_kind first second) (chosen-same rule first second t work)

  pub choice-same : (rule : TieRule) (first second : List ℕ) (at other : ℕ × ℕ) (t : ℤ) (work : List ℤ)
      → choice_over a rule first second at other t work ≡ choice_over b rule first second at other t work
  choice-same rule first second at other t work =
      ap (λ (c : Chosen). (part_of c first second, place_of c at other)) (chosen-same rule first second t work)

  -- ---- writing the plan: the answer, and the bytes at exit

  write-fine : (order out : List ℕ) (work : List ℤ) → write_verdict order out work ≡ fine → OrderFine order
  unfolding write_checks
  write-fine order out work e =
      (order-fine order).0
      ((stages-fine (order_checks order) _).0
      ((stages-fine (order_checks order ++ room_checks plan_room (length out)) (room_checks area (length work))).0 e).0).0

  pub write_same : (order out : List ℕ) (work : List ℤ) → write_over a order out work ≡ write_over b order out work
  write_same order out work =
      by-verdict (λ v p. (written_by v p, bytes_by v p out)) (write_verdict order out work)
      (plan_answer_over a (order_of order)) (plan_answer_over b (order_of order))
      (λ e. answers-same order (write-fine order out work e)) (λ r. refl)

  -- ---- whether a plan is best

  pub best-same : (order plan : List ℕ) (work : List ℤ) → best_over a order plan work ≡ best_over b order plan work
  best-same order plan work =
      by-verdict checked_by (best_verdict order plan work) (best_by order plan (point_over a order latest_free))
      (best_by order plan (point_over b order latest_free))
      (λ e. ap (best_by order plan)
      ((agree order ((order-fine order).0 (best-fine order plan work e))).point_at (order_of order).t0 latest_free)) (λ r. refl)

  -- ---- the program's text

  pub report-same : (bytes out : List ℕ) → report_over a bytes out ≡ report_over b bytes out
  report-same bytes out =
      ap (λ (text : List ℕ). cond (ltb (length out) text_room) [] text)
      (by-verdict (text_by (order_of bytes).jobs) (judge (order_checks bytes)) (plan_answer_over a (order_of bytes))
      (plan_answer_over b (order_of bytes)) (λ e. answers-same bytes ((order-fine bytes).0 e)) (λ r. refl))

-- ---- as computed from rows and as computed from lists they are the same function

-- Of each call, rows and lists.
pub record SameCalls (a b : Way) : Type 0 where
  pub plan : (bytes : List ℕ) (starts work : List ℤ) → plan_over a bytes starts work ≡ plan_over b bytes starts work
  pub halves : (bytes : List ℕ) (starts work : List ℤ) → halves_over a bytes starts work ≡ halves_over b bytes starts work
  pub extend : (ns : List ℤ) (bytes : List ℕ) (out work : List ℤ) → extend_over a ns bytes out work ≡ extend_over b ns bytes out work
  pub question : (rule : TieRule) (first second : List ℕ) (t : ℤ) (work : List ℤ)
      → question_over a rule first second t work ≡ question_over b rule first second t work
  pub choice : (rule : TieRule) (first second : List ℕ) (at other : ℕ × ℕ) (t : ℤ) (work : List ℤ)
      → choice_over a rule first second at other t work ≡ choice_over b rule first second at other t work
  pub write : (order out : List ℕ) (work : List ℤ) → write_over a order out work ≡ write_over b order out work
  pub best : (order plan : List ℕ) (work : List ℤ) → best_over a order plan work ≡ best_over b order plan work
  pub report : (bytes out : List ℕ) → report_over a bytes out ≡ report_over b bytes out

same-calls : {a b : Way} → Agree a b → SameCalls a b
same-calls agree =
    record {
      plan = plan-same agree;
      halves = halves-same agree;
      extend = extend_same agree;
      question = question-same agree;
      choice = choice-same agree;
      write = write_same agree;
      best = best-same agree;
      report = report-same agree;
    }

pub rows-and-lists : SameCalls by_rows by_lists
rows-and-lists = same-calls rows-lists-agree

-- And they are what the contracts of the calls say: these are the calls' own definitions.
pub lists-and-contracts : SameCalls by_lists by_rules
lists-and-contracts = same-calls lists-rules-agree

pub contracts-plan : (bytes : List ℕ) (starts work : List ℤ)
    → plan_over by_rules bytes starts work ≡ (planned_of bytes starts work, starts_after bytes starts work)
contracts-plan bytes starts work = refl

pub contracts-halves : (bytes : List ℕ) (starts work : List ℤ)
    → halves_over by_rules bytes starts work ≡ (halves_of bytes starts work, halves_starts_after bytes starts work)
contracts-halves bytes starts work = refl

pub contracts-extend : (ns : List ℤ) (bytes : List ℕ) (out work : List ℤ)
    → extend_over by_rules ns bytes out work ≡ (extended_of ns bytes out work, out_after ns bytes out work)
contracts-extend ns bytes out work = refl

pub contracts-question : (rule : TieRule) (first second : List ℕ) (t : ℤ) (work : List ℤ)
    → question_over by_rules rule first second t work ≡ answer_of rule first second t work
contracts-question rule first second t work = refl

pub contracts-choice : (rule : TieRule) (first second : List ℕ) (at other : ℕ × ℕ) (t : ℤ) (work : List ℤ)
    → choice_over by_rules rule first second at other t work
    ≡ (part_of (chosen_of rule first second t work) first second, place_of (chosen_of rule first second t work) at other)
contracts-choice rule first second at other t work = refl

pub contracts-write : (order out : List ℕ) (work : List ℤ)
    → write_over by_rules order out work ≡ (written_of order out work, bytes_after order out work)
contracts-write order out work = refl

-- Of Best it is the greatest weight of the profile that decides.
pub contracts-best : (order plan : List ℕ) (work : List ℤ) → best_over by_rules order plan work ≡ best_of order plan work
unfolding is_best
contracts-best order plan work =
    by-verdict checked_by (best_verdict order plan work) (best_by order plan (lookup (order_profile o) latest_free)) (best_in order plan)
    (λ e. ap (λ m. legal_in order plan && m)
    (ap (λ m. not_above m kept) (lookup-worth (order-rises o) latest_free)
    ∙ sym (most-told o (order-within order (best-fine order plan work e)) kept))) (λ r. refl)
  where
    o : Order
    o = order_of order

    kept : ℕ
    kept = weight_kept o (kept_in (count_of order) plan)

by-plan : (v : Verdict) (o : Order) → text_by o.jobs v (plan_answer o) ≡ text_of v o
unfolding text_of
by-plan fine o = refl
by-plan (refused r) o = refl

pub contracts-report : (bytes out : List ℕ) → report_over by_rules bytes out ≡ printed bytes out
unfolding printed report_of
contracts-report bytes out =
    ap (λ (text : List ℕ). cond (ltb (length out) text_room) [] text) (by-plan (judge (order_checks bytes)) (order_of bytes))
