-- `judge::judge_numbers` meets its contract: the verdict of 3 to 5, or that of the jobs where it is fine.
-- Assumes nothing.
use mathlib.Core.Path.{◌≡◌, sym, ap, ◌∙◌}
use mathlib.Core.List.{List}
use lib.IntN.{ℤ}
use mir.Syntax.{w32}
use mir.Val.{SFits, to_z, of_z}
use mir.Facts.{to_z-of_z}
use borrow.Author.Rules.{rules}
use Rattle.std.proofs.Common.{Err}
use Rattle.packed.specs.Judge.{Verdict, judge}
use Rattle.packed.specs.Refusals.{list_checks, job_checks, weight_checks}
use Rattle.judge.specs.Told.{given-told, first-refused, jobs-refused, sum-left}
use Rattle.judge.proofs.judge_numbers.Goals as goal

-- The verdict of 3 to 5.
list-says : (t0 : ℤ) (zs : List ℤ) {v w : Verdict} → SFits w32 t0 → v ≡ judge (list_checks (to_z w32 (of_z w32 t0)) zs) → v ≡ w
    → judge (list_checks t0 zs) ≡ w
list-says t0 zs fits e is = sym (e ∙ ap (λ t. judge (list_checks t zs)) (to_z-of_z fits)) ∙ is

pub returns-in_err-judge_list : goal.returns-in_err-judge_list
returns-in_err-judge_list c =
    let e : c.from_residual.result ≡ Err c.in_err-judge_list.field-0.0 = search rules in
    let zs = c.args.given.now in
    e ∙ sym (first-refused (list_checks c.args.t0 zs) (job_checks zs) (weight_checks 0 zs) (list-says c.args.t0 zs c.ranges.t0 c.judge_list.ensures c.in_err-judge_list.was))

pub invariant_of-judge_each : goal.invariant_of-judge_each
invariant_of-judge_each c =
    let zs = c.args.given.now in
    record { whole = given-told c.args.t0 zs (list-says c.args.t0 zs c.ranges.t0 c.judge_list.ensures c.in_ok-judge_list.was) }

pub returns-in_err-weight : goal.returns-in_err-weight
returns-in_err-weight c =
    let e : c.from_residual-in_err-weight.result ≡ Err c.in_err-weight.field-0.0 = search rules in
    let zs = c.args.given.now in
    let passed = list-says c.args.t0 zs c.ranges.t0 c.judge_list.ensures c.in_ok-judge_list.was in
    e ∙ sym (jobs-refused (list_checks c.args.t0 zs) zs 0 passed c.in_err-weight.ensures)

pub returns : goal.returns
returns c =
    let zs = c.args.given.now in
    let passed = list-says c.args.t0 zs c.ranges.t0 c.judge_list.ensures c.in_ok-judge_list.was in
    c.judge_sum.ensures ∙ sym (sum-left (list_checks c.args.t0 zs) zs 0 passed c.in_ok-weight.ensures)
