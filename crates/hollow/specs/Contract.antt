-- A call's contract as a relation of inputs and outcomes, versions of a call, and what it is for hollow ones to be shut out.
-- Definitions only.
use Rattle.std.specs.Prelude.{◌≡◌, refl, Bool, true, false}

-- An outcome is an answer and the lent buffers at exit. The contract allows some outcomes at each input: the one that the
-- definitions say, and no other. Beside it stand the buffers as they are lent, and which answers are refusals.
pub record Contract (X R B : Type 0) : Type 1 where
  pub allows : X → R → B → Type 0
  pub answer : X → R
  pub left : X → B
  pub met : (x : X) → allows x (answer x) (left x)
  pub only : (x : X) (r : R) (b : B) → allows x r b → (r ≡ answer x) × (b ≡ left x)
  pub lent : X → B
  pub refusal : R → Bool

-- A call that writes nothing: for every input its answer is said.
abbrev pub answering : {X R : Type 0} → (X → R) → (R → Bool) → Contract X R (Unit {0})
answering said refusal =
    record {
      allows = λ x r b. r ≡ said x;
      answer = said;
      left = λ x. tt;
      met = λ x. refl;
      only = λ x r b h. (h, refl);
      lent = λ x. tt;
      refusal = refusal;
    }

-- A call that writes to what it is lent: for every input its answer and what it leaves are said.
abbrev pub writing : {X R B : Type 0} → (X → R) → (X → B) → (X → B) → (R → Bool) → Contract X R B
writing said left lent refusal =
    record {
      allows = λ x r b. (r ≡ said x) × (b ≡ left x);
      answer = said;
      left = left;
      met = λ x. (refl, refl);
      only = λ x r b h. h;
      lent = lent;
      refusal = refusal;
    }

-- The same contract over inputs of another form.
abbrev pub over : {X Y R B : Type 0} → (Y → X) → Contract X R B → Contract Y R B
over read c =
    record {
      allows = λ y. c.allows (read y);
      answer = λ y. c.answer (read y);
      left = λ y. c.left (read y);
      met = λ y. c.met (read y);
      only = λ y. c.only (read y);
      lent = λ y. c.lent (read y);
      refusal = c.refusal;
    }

module _ {X R B : Type 0} (c : Contract X R B) where
  -- A version of a call has an outcome for every input. The contract allows it at an input, or shuts it out there.
  abbrev pub Allowed : (X → R × B) → X → Type 0
  Allowed f x = c.allows x (f x).0 (f x).1

  abbrev pub ShutOut : (X → R × B) → X → Type 0
  ShutOut f x = Allowed f x → ⊥

  -- One that refuses everything, with whatever numbers and places;
  abbrev pub RefusesAll : (X → R × B) → Type 0
  RefusesAll f = (x : X) → c.refusal (f x).0 ≡ true

  -- one that leaves a part of the buffers as it was.
  abbrev pub Leaves : {P : Type 0} → (B → P) → (X → R × B) → Type 0
  Leaves part f = (x : X) → part (f x).1 ≡ part (c.lent x)

  -- What a contract does to hollow versions, at two inputs. One that refuses everything is shut out at the first, whatever
  -- it writes. One with the same answer at both is shut out at one of them, whatever it writes and does elsewhere.
  pub record NotHollow (x y : X) : Type 0 where
    pub refuses-all : (f : X → R × B) → RefusesAll f → ShutOut f x
    pub constant : (f : X → R × B) → (f x).0 ≡ (f y).0 → Allowed f x → ShutOut f y

  -- And, where something is lent, one that does not write that part is shut out at the first, whatever it answers.
  pub record NotHollowIn {P : Type 0} (part : B → P) (x y : X) : Type 0 where
    pub answers : NotHollow x y
    pub writes_nothing : (f : X → R × B) → Leaves part f → ShutOut f x

  -- And alone: one that answers an input which must be refused is shut out there;
  abbrev pub Refuses : X → Type 0
  Refuses x = (f : X → R × B) → c.refusal (f x).0 ≡ false → ShutOut f x

  -- one that does not write a part is shut out at an input;
  abbrev pub Writes : {P : Type 0} → (B → P) → X → Type 0
  Writes part x = (f : X → R × B) → Leaves part f → ShutOut f x

  -- one that leaves the same in a part at two inputs is shut out at one of them.
  abbrev pub TellsApart : {P : Type 0} → (B → P) → X → X → Type 0
  TellsApart part x y = (f : X → R × B) → part (f x).1 ≡ part (f y).1 → Allowed f x → ShutOut f y
