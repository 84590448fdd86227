-- For each answer on profiles and plans the struct that says it: the refusal's numbers and the values of the rules. In a refused
-- answer all but those of the refusal are 0 (R26). Definitions only.
use Rattle.std.specs.Prelude.{ℕ}
use Rattle.packed.specs.Judge.{refusal_of}
use Rattle.profiles.specs.Answer.{Finding, lookup_refusal, found_of, weight_found}
use Rattle.better.specs.Answer.{Joined, join_refusal, points_written as points_joined}
use Rattle.extending.specs.Calls.{Extended, points_written}
use Rattle.planner.specs.Calls.{Planned, PlanNumbers, plan_numbers}
use Rattle.halves.specs.Calls.{HalvesPlanned, halves_numbers}
use Rattle.plan_answers.specs.declared.LookupAnswer.{LookupAnswer}
use Rattle.plan_answers.specs.declared.BetterAnswer.{BetterAnswer}
use Rattle.plan_answers.specs.declared.ExtendAnswer.{ExtendAnswer}
use Rattle.plan_answers.specs.declared.PlanAnswer.{PlanAnswer}
use Rattle.plan_answers.specs.declared.HalvesAnswer.{HalvesAnswer}

-- ---- profiles

abbrev pub lookup_numbers : Finding → LookupAnswer
lookup_numbers f = record { refusal = lookup_refusal f; found = found_of f; weight = weight_found f }

abbrev pub better_numbers : Joined → BetterAnswer
better_numbers j = record { refusal = join_refusal j; points = points_joined j }

abbrev pub extend_numbers : Extended → ExtendAnswer
extend_numbers e =
    let r = refusal_of e in
    record { refusal = r.number; place = r.place; field = r.field; points = points_written e }

-- ---- plans

-- Planning's numbers,
abbrev plan_struct : PlanNumbers → PlanAnswer
plan_struct n =
    record {
      refusal = n.refusal.number;
      place = n.refusal.place;
      field = n.refusal.field;
      mask = n.mask;
      kept = n.kept;
      kept_weight = n.kept_weight;
      lost_weight = n.lost_weight;
      finish = n.finish;
      points = n.points;
    }

-- those of its answer,
abbrev pub plan_figures : Planned → PlanAnswer
plan_figures p = plan_struct (plan_numbers p)

-- and those of an answer of planning halves: the optional seconds lost stand behind them.
abbrev pub beside : PlanAnswer → ℕ → HalvesAnswer
beside p seconds =
    record {
      refusal = p.refusal;
      place = p.place;
      field = p.field;
      mask = p.mask;
      kept = p.kept;
      kept_weight = p.kept_weight;
      lost_weight = p.lost_weight;
      finish = p.finish;
      points = p.points;
      seconds_lost = seconds;
    }

abbrev pub halves_figures : HalvesPlanned → HalvesAnswer
halves_figures h = beside (plan_struct (halves_numbers h).plan) (halves_numbers h).seconds_lost
