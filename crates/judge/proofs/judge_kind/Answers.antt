-- `judge::judge_kind` meets its contract: kind 1 is refused where no pack is found.
-- Assumes nothing.
use mathlib.Core.Path.{sym, ap, ◌∙◌}
use Rattle.std.proofs.Common.{Err}
use Rattle.judge.specs.Kind.{kind-passes, kind-has, kind-lacks}
use Rattle.judge.proofs.judge_kind.Goals as goal

pub returns-then-records-ne1 : goal.returns-then-records-ne1
returns-then-records-ne1 c =
    let r = c.args.records in kind-passes r.bytes.now r.kind r.stand.kinded c.if-records-ne1.true

pub returns-in-Some : goal.returns-in-Some
returns-in-Some c =
    let r = c.args.records in
    kind-has r.bytes.now r.kind r.stand.kinded c.if-records-ne1.false (sym c.in-Some.is ∙ c.first_packed.ensures)

pub returns-in-None : goal.returns-in-None
returns-in-None c =
    let r = c.args.records in
    ap (λ r. Err r) c.into.ensures
    ∙ kind-lacks r.bytes.now r.kind r.stand.kinded c.if-records-ne1.false (sym c.in-None.is ∙ c.first_packed.ensures)
