-- `profiles::lookup` meets its contract: after `valid`, the numbers before the first later point say what is found.
-- Assumes nothing.
use Rattle.std.proofs.Common.{ℕ, ◌-◌, ◌≡◌, true, sym, ◌∙◌, arith, rules, List, ℤ, pos, to_z, of_z, to_z-of_z, w32}
use Rattle.std.specs.Prelude.{get_or, Ok, Some}
use mir.Val.{SFits}
use Rattle.seconds.specs.Signed.{signed}
use Rattle.profiles.specs.Numbers.{holds_profile}
use Rattle.profiles.specs.ByTime.{count_by}
use Rattle.profiles.specs.ByTimeLaws.{count-within}
use Rattle.profiles.specs.Answer.{lookup_of}
use Rattle.profiles.specs.AnswerLaws.{lookup-refused, lookup-nothing, lookup-found}
use Rattle.profiles.proofs.lookup.Goals as goal

pub returns-then-not-valid : goal.returns-then-not-valid
returns-then-not-valid c =
    sym (lookup-refused c.args.numbers.now c.args.t (sym c.valid.ensures ∙ c.if-not-valid.true))

pub returns-then-end-eq0 : goal.returns-then-end-eq0
returns-then-end-eq0 c =
    let ns : List ℤ = c.args.numbers.now in
    let count : c.count_by-end.result ≡ count_by c.args.t ns = rw (to_z-of_z c.ranges.t) at c.count_by-end.ensures in
    sym (lookup-nothing ns c.args.t (sym c.valid.ensures ∙ c.if-not-valid.false) (sym count ∙ c.if-end-eq0.true))

pub offset_bounds-numbers-end : goal.offset_bounds-numbers-end
offset_bounds-numbers-end c =
    let ns : List ℤ = c.args.numbers.now in
    let count : c.count_by-end.result ≡ count_by c.args.t ns = rw (to_z-of_z c.ranges.t) at c.count_by-end.ensures in
    omega (arith, count, count-within c.args.t ns)

pub bounds-numbers-end : goal.bounds-numbers-end
bounds-numbers-end c =
    let ns : List ℤ = c.args.numbers.now in
    let count : c.count_by-end.result ≡ count_by c.args.t ns = rw (to_z-of_z c.ranges.t) at c.count_by-end.ensures in
    omega (arith, count, count-within c.args.t ns)

-- The weight that stands there.
found : (ns : List ℤ) (t : ℤ) (end : ℕ) → SFits w32 t → holds_profile ns ≡ true
    → end ≡ count_by (to_z w32 (of_z w32 t)) ns → (end ≡ 0 → ⊥)
    → (w : ℕ) × (get_or ns (end - 1) (pos 0) ≡ pos w) × (lookup_of ns t ≡ Ok (Some w))
found ns t end fits valid count some =
    let counted : end ≡ count_by t ns = rw (to_z-of_z fits) at count in
    lookup-found ns t valid (end - 1) (omega (arith, counted))

pub overflow_cast-result : goal.overflow_cast-result
overflow_cast-result c =
    let ns : List ℤ = c.args.numbers.now in
    let number : ℤ = get_or ns (c.count_by-end.result - 1) (pos 0) in
    let fits : SFits w32 number = search rules in
    let f = found ns c.args.t c.count_by-end.result c.ranges.t (sym c.valid.ensures ∙ c.if-not-valid.false) c.count_by-end.ensures c.if-end-eq0.false in
    rw (to_z-of_z fits, f.1) (tt, record { fits = omega (signed, rw f.1 at fits.sfits) })

pub returns : goal.returns
returns c =
    let ns : List ℤ = c.args.numbers.now in
    let number : ℤ = get_or ns (c.count_by-end.result - 1) (pos 0) in
    let fits : SFits w32 number = search rules in
    let f = found ns c.args.t c.count_by-end.result c.ranges.t (sym c.valid.ensures ∙ c.if-not-valid.false) c.count_by-end.ensures c.if-end-eq0.false in
    rw (to_z-of_z fits, f.1) (sym f.2)
