-- By rows, by lists and by the rules, a call takes the same from planning: rows give what the rules say for all jobs, lists for
-- jobs of one rate each.
use Rattle.std.proofs.Common.{sym, ap, ◌∙◌}
use Rattle.std.specs.Prelude.{List, [], ◌∷◌}
use Rattle.order.specs.Job.{Job, Point}
use Rattle.profile.specs.Profile.{start_point, lookup}
use Rattle.profile.proofs.Rising.{rising-one}
use Rattle.profile.proofs.Last.{last-heaviest}
use Rattle.rows.specs.Row.{reach}
use Rattle.rows.proofs.RowLaws.{earliest-says, rows-say}
use Rattle.rows.proofs.Reach.{says-none-past, after-none-past, reach-none-past}
use Rattle.rows.proofs.ReadLaws.{extend-by-rows, point-total-by-rows}
use Rattle.rows.proofs.ByTimeLaws.{heaviest-lookup}
use Rattle.rows.proofs.PlanLaws.{plan-by-rows}
use Rattle.points.proofs.PrefixLaws.{Singles, list-is, points-are}
use Rattle.points.proofs.WalkLaws.{plan-by-lists}
use Rattle.points.specs.Ways.{Way, by_rows, by_lists, by_rules, SameWay}

-- Two ways that give the same as a third give the same.
same-as-third : {a b c : Way} {js : List Job} → SameWay a c js → SameWay b c js → SameWay a b js
same-as-third s r =
    record {
      planned = λ t. s.planned t ∙ sym (r.planned t);
      total = λ t. s.total t ∙ sym (r.total t);
      extended = λ P rises. s.extended P rises ∙ sym (r.extended P rises);
      point_at = λ t u. s.point_at t u ∙ sym (r.point_at t u);
    }

-- Rows give what the rules say.
pub rows-rules : (js : List Job) → SameWay by_rows by_rules js
rows-rules js =
    record {
      planned = λ t. plan-by-rows t js;
      total = λ t. sym (point-total-by-rows t js);
      extended = λ P rises.
          let light = (says-none-past (earliest-says P)).1 (last-heaviest rises) in
          sym (extend-by-rows P js _ (after-none-past js light));
      point_at = λ t u. heaviest-lookup (reach js) (rows-say js (start_point t ∷ [])) (reach-none-past t js) u;
    }

-- So do lists, for jobs of one rate each,
pub lists-rules : (js : List Job) → Singles js → SameWay by_lists by_rules js
lists-rules js one =
    record {
      planned = λ t. plan-by-lists t js one;
      total = λ t. points-are t js one;
      extended = λ P rises. list-is js one rises;
      point_at = λ t u. ap (λ (P : List Point). lookup P u) (list-is js one (rising-one (start_point t)));
    }

-- and for these, rows and lists give the same.
pub rows-lists : (js : List Job) → Singles js → SameWay by_rows by_lists js
rows-lists js one = same-as-third (rows-rules js) (lists-rules js one)
