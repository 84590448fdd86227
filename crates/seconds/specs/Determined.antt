-- A contract determines what it speaks of if any two outcomes that it allows agree on it. A contract is read as a claim of
-- the arguments, the result and the parameters at exit.
use Rattle.std.specs.Prelude.{◌≡◌}
use Rattle.std.proofs.Common.{sym, ◌∙◌}

module _ {A R X Z : Type 0} where
  -- Two outcomes that are allowed for the same arguments look the same.
  abbrev pub Determines : (A → R → X → Type 0) → (R → X → Z) → Type 0
  Determines allows seen = (a : A) (r s : R) (x y : X) → allows a r x → allows a s y → seen r x ≡ seen s y

  -- So they do where the contract says what is seen by a function of the arguments.
  pub determined : (allows : A → R → X → Type 0) (seen : R → X → Z) (said : A → Z)
      → ((a : A) (r : R) (x : X) → allows a r x → seen r x ≡ said a) → Determines allows seen
  determined allows seen said says a r s x y h k = says a r x h ∙ sym (says a s y k)

-- Equations of an answer and of one or two buffers, at once.
pub two : {R X : Type 0} {r s : R} {x y : X} → r ≡ s → x ≡ y → ◌≡◌ {A = R × X} (r, x) (s, y)
two e f = λ i. (e i, f i)

pub three : {R X Y : Type 0} {r s : R} {x y : X} {u v : Y} → r ≡ s → x ≡ y → u ≡ v → ◌≡◌ {A = R × X × Y} (r, x, u) (s, y, v)
three e f g = λ i. (e i, f i, g i)
