-- `judge::judge_each` meets its contract: 6 by the jobs, and 7 by their numbers.
-- Assumes nothing.
use Prim.Native.Nat.{◌≤◌}
use mathlib.Core.Path.{◌≡◌, sym, ◌∙◌, subst}
use native.Mathlib.Omega.{arith}
use lib.ListN.{length}
use borrow.Author.Rules.{rules}
use Rattle.std.proofs.Common.{Err}
use Rattle.judge.specs.Verdicts.{JudgedEach}
use Rattle.judge.specs.Told.{jobs-told}
use Rattle.judge.proofs.judge_each.Goals as goal

pub returns-in_err-judge_repeats : goal.returns-in_err-judge_repeats
returns-in_err-judge_repeats g c =
    let zs = g.J.Jobs.numbers c.args.jobs.now in
    let long : length c.gather.new.numbers ≡ 48 = search rules in
    let room : c.count.result ≤ length c.gather.new.numbers = omega (arith, c.count.ensures.few, long) in
    let e : c.from_residual-in_err-judge_repeats.result ≡ Err c.in_err-judge_repeats.field-0.0 = search rules in
    subst (λ r. JudgedEach zs r) (sym e)
    (jobs-told zs c.gather.new.numbers c.in_ok-weight.weight c.count.result c.in_ok-weight.ensures c.count.ensures.all room
    ∙ sym c.judge_repeats.ensures ∙ c.in_err-judge_repeats.was)

pub returns : goal.returns
returns g c =
    let zs = g.J.Jobs.numbers c.args.jobs.now in
    let long : length c.gather.new.numbers ≡ 48 = search rules in
    let room : c.count.result ≤ length c.gather.new.numbers = omega (arith, c.count.ensures.few, long) in (
      jobs-told zs c.gather.new.numbers c.in_ok-weight.weight c.count.result c.in_ok-weight.ensures c.count.ensures.all room
          ∙ sym c.judge_repeats.ensures ∙ c.in_ok-judge_repeats.was,
      c.in_ok-weight.ensures.weighed,
    )
