-- `verdict_answers::verdict_answer` meets its contract: each arm is a case of the answer.
-- Assumes nothing.
use Prim.Native.Nat.{ℕ}
use mathlib.Core.Path.{◌≡◌, refl, sym, ap, ◌∙◌}
use mathlib.Core.Bool.{Bool, true, false, cond}
use mir.Val.{bool_byte}
use Rattle.verdict_answers.specs.Numbers.{verdict_numbers}
use Rattle.verdict_answers.proofs.verdict_answer.Goals as goal

byte-is : (b : Bool) → bool_byte b ≡ cond {A = ℕ} b 1 0
byte-is true = refl
byte-is false = refl

pub returns-in-Ok : goal.returns-in-Ok
returns-in-Ok c =
    ap (λ (y : ℕ). record { refusal = 0; place = 0; field = 0; yes = y }) (byte-is c.in-Ok.holds) ∙ sym (ap verdict_numbers c.in-Ok.is)

pub returns-in-Err : goal.returns-in-Err
returns-in-Err c =
    (λ i. record { refusal = c.number.ensures i; place = c.place.ensures i; field = c.figure.ensures i; yes = 0 })
    ∙ sym (ap verdict_numbers c.in-Err.is)
