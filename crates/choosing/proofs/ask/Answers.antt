-- `choosing::ask` meets its contract: the first order is judged, then the second, and where both pass they are compared.
-- Assumes nothing.
use mathlib.Core.Path.{◌≡◌, sym, ◌∙◌, subst, ap, refl}
use mathlib.Core.Bool.{Bool, false, cond}
use native.Mathlib.Omega.{arith}
use borrow.Author.Rules.{rules}
use Rattle.std.proofs.Common.{ℕ, Ok, Err}
use Rattle.std.specs.Result.{MatchResult, is_ok}
use Rattle.packed.specs.declared.Refusal.{Refusal}
use Rattle.packed.specs.Judge.{without_place, Verdict, fine, refused, judge}
use Rattle.packed.specs.Refusals.{order_checks}
use Rattle.ties.specs.Winning.{rule_of}
use Rattle.choosing.specs.Choosing.{Asked}
use Rattle.choosing.proofs.ChoosingLaws.{first-refused, second-refused}
use Rattle.choosing.proofs.ask.Goals as goal

-- What is passed on is the refusal of a verdict, without its place.
told : (v : Verdict) {f : Refusal} → false ≡ is_ok v → MatchResult v (λ x. Err f ≡ Ok x) (λ e. f ≡ without_place e)
    → (r : Refusal) × ((v ≡ refused r) × (f ≡ without_place r))
told fine e h = absurd (omega (arith, ap {B = ℕ} (λ (b : Bool). cond b 1 0) e))
told (refused r) e h = (r, (refl, h))

pub returns-in_err-map_err : goal.returns-in_err-map_err
returns-in_err-map_err c =
    let a = c.args in
    let e : c.from_residual.result ≡ Err c.in_err-map_err.field-0.0 = search rules in
    let t = told c.judge_order.result {f = c.in_err-map_err.field-0.0} c.in_err-map_err.ensures.variant c.in_err-map_err.ensures.cases in
    subst (λ r. Asked (rule_of a.tie) a.first.now a.second.now a.t a.work.now r a.work.now)
    (sym (e ∙ ap (λ r. Err r) t.1.1))
    (first-refused (rule_of a.tie) a.first.now a.second.now a.t a.work.now t.0 (sym c.judge_order.ensures ∙ t.1.0))

pub returns-in_err-map_err-2 : goal.returns-in_err-map_err-2
returns-in_err-map_err-2 c =
    let a = c.args in
    let passed : judge (order_checks a.first.now) ≡ fine = search rules in
    let e : c.from_residual-in_err-map_err-2.result ≡ Err c.in_err-map_err-2.field-0.0 = search rules in
    let t = told c.judge_order-2.result {f = c.in_err-map_err-2.field-0.0} c.in_err-map_err-2.ensures.variant c.in_err-map_err-2.ensures.cases in
    subst (λ r. Asked (rule_of a.tie) a.first.now a.second.now a.t a.work.now r a.work.now)
    (sym (e ∙ ap (λ r. Err r) t.1.1))
    (second-refused (rule_of a.tie) a.first.now a.second.now a.t a.work.now t.0 passed (sym c.judge_order-2.ensures ∙ t.1.0))
