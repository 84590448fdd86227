-- `adding::add_into` meets its contract: what planning answers is joined. Assumes nothing.
use mathlib.Core.Path.{◌≡◌, ap, ◌∙◌}
use native.Mathlib.Omega.{arith}
use lib.Dec.{eqb}
use lib.IntN.{pos}
use lib.ListN.{get_or, drop, replicate}
use borrow.Author.Tests.{eqb-true}
use Rattle.area.specs.Area.{area}
use Rattle.sheet.specs.Sheet.{one_order, numbers_of}
use Rattle.sheet.specs.Answered.{answered}
use Rattle.sheet.specs.AnsweredLaws.{answered-is}
use Rattle.adding.specs.AddingLaws.{answer-countable, plan-behind, one-joins, one-clears, one-counted}
use Rattle.adding.proofs.add_into.Goals as goal
use Rattle.adding.proofs.add_into.Goals.{After-join_into, After-one_order-one, After-plan, Start}

-- Where planning was called.
abbrev start : After-plan → Start
start p = (goal.at.After-plan p).Start

-- What it answered is the answer for the bytes,
is-answered : (p : After-plan) → p.plan.result ≡ answered (start p).args.bytes.now
is-answered p =
    let s = start p in
    p.plan.ensures.answer ∙ answered-is s.args.bytes.now (replicate 48 (pos 0)) s.args.work.now (omega arith) s.requires.space

-- and its figures are those of one order.
abbrev planned : After-one_order-one → After-plan
planned o = (goal.at.After-one_order-one o).After-plan

one-is : (o : After-one_order-one) → o.one_order-one.result ≡ numbers_of (one_order (answered (start (planned o)).args.bytes.now))
one-is o = o.one_order-one.ensures ∙ ap (λ p. numbers_of (one_order p)) (is-answered (planned o))

pub one_order-one-requires : goal.one_order-one-requires
one_order-one-requires c =
    let p : After-plan = (goal.at.one_order-one-requires c).After-plan in
    rw (is-answered p) (answer-countable (start p).args.bytes.now)

pub join_into-requires : goal.join_into-requires
join_into-requires c =
    let o : After-one_order-one = (goal.at.join_into-requires c).After-one_order-one in
    let s = start (planned o) in
    one-joins s.args.figures.now s.args.bytes.now s.args.work.now s.requires o.one_order-one.result (one-is o)

pub returns : goal.returns
returns c =
    let j : After-join_into = (goal.at.returns c).After-join_into in
    let o : After-one_order-one = (goal.at.After-join_into j).After-one_order-one in
    let p = planned o in
    let s = start p in
    let one = o.one_order-one.result in
    one-counted s.args.figures.now s.args.bytes.now s.args.work.now s.requires one (one-is o)
    j.join_into.new.to j.join_into.ensures p.plan.new.work (eqb (get_or one 20 0) 1)
    (ap (drop area) p.plan.ensures.area ∙ plan-behind s.args.bytes.now (replicate 48 (pos 0)) s.args.work.now)
    (λ e. p.plan.ensures.area
    ∙ one-clears s.args.figures.now s.args.bytes.now s.args.work.now s.requires one (one-is o) (replicate 48 (pos 0))
    p.plan.result p.plan.ensures.answer (is-answered p) (eqb-true (get_or one 20 0) 1 e))
