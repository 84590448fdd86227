-- An outcome that differs from the one that the definitions say is shut out: the general law, and each kind of hollow
-- version by it.
use Rattle.std.specs.Prelude.{ℕ, ◌≡◌, true, false, ◌≢◌, ℤ}
use Rattle.std.proofs.Common.{sym, ap, ◌∙◌, true≢false, arith}
use Rattle.hollow.specs.Contract.{Contract, Allowed, ShutOut, NotHollow, NotHollowIn}

module _ {X R B : Type 0} (c : Contract X R B) where
  -- By its answer,
  pub other-answer : (f : X → R × B) (x : X) → (f x).0 ≢ c.answer x → ShutOut c f x
  other-answer f x d h = d (c.only x (f x).0 (f x).1 h).0

  -- or by a part of the buffers.
  pub other-buffers : {P : Type 0} (part : B → P) (f : X → R × B) (x : X) → part (f x).1 ≢ part (c.left x) → ShutOut c f x
  other-buffers part f x d h = d (ap part (c.only x (f x).0 (f x).1 h).1)

  -- One that refuses an input which the definitions accept;
  refused-wrongly : (f : X → R × B) (x : X) → c.refusal (c.answer x) ≡ false → c.refusal (f x).0 ≡ true → ShutOut c f x
  refused-wrongly f x accepts refuses =
      other-answer f x
      (λ e.
      let same : true ≡ false = sym refuses ∙ ap c.refusal e ∙ accepts in
      let z : ◌≡◌ {A = ℕ} 0 1 = cc in
      omega arith)

  -- one that answers an input which the definitions refuse;
  pub answered-wrongly : (f : X → R × B) (x : X) → c.refusal (c.answer x) ≡ true → c.refusal (f x).0 ≡ false → ShutOut c f x
  answered-wrongly f x refuses answers = other-answer f x (λ e. true≢false (sym refuses ∙ ap c.refusal (sym e) ∙ answers))

  -- one with the same answer where the definitions answer with different figures;
  same_answer : (f : X → R × B) (x y : X) (figure : R → ℕ) → figure (c.answer x) ≢ figure (c.answer y) → (f x).0 ≡ (f y).0
      → Allowed c f x → ShutOut c f y
  same_answer f x y figure differ same h k =
      differ (ap figure (sym (c.only x (f x).0 (f x).1 h).0 ∙ same ∙ (c.only y (f y).0 (f y).1 k).0))

  -- one that writes the same into a part where the definitions show different numbers in it;
  pub same-buffers : {P : Type 0} (part : B → P) (f : X → R × B) (x y : X) (shown : P → ℤ)
      → shown (part (c.left x)) ≢ shown (part (c.left y)) → part (f x).1 ≡ part (f y).1 → Allowed c f x → ShutOut c f y
  same-buffers part f x y shown differ same h k =
      let wrote = ap part (sym (c.only x (f x).0 (f x).1 h).1) in
      differ (ap shown (wrote ∙ same ∙ ap part (c.only y (f y).0 (f y).1 k).1))

  -- and one that leaves a part as it was where the definitions show another number in it.
  pub unwritten : {P : Type 0} (part : B → P) (f : X → R × B) (x : X) (shown : P → ℤ)
      → shown (part (c.left x)) ≢ shown (part (c.lent x)) → part (f x).1 ≡ part (c.lent x) → ShutOut c f x
  unwritten part f x shown written same = other-buffers part f x (λ e. written (ap shown (sym e ∙ same)))

  -- All three, where the first input is accepted.
  module _ {x y : X} (accepts : c.refusal (c.answer x) ≡ false) (figure : R → ℕ)
      (differ : figure (c.answer x) ≢ figure (c.answer y)) where
    pub not-hollow : NotHollow c x y
    not-hollow =
        record {
          refuses-all = λ f all. refused-wrongly f x accepts (all x);
          constant = λ f. same_answer f x y figure differ;
        }

    pub not-hollow-in : {P : Type 0} (part : B → P) (shown : P → ℤ) → shown (part (c.left x)) ≢ shown (part (c.lent x))
        → NotHollowIn c part x y
    not-hollow-in part shown written =
        record { answers = not-hollow; writes_nothing = λ f leaves. unwritten part f x shown written (leaves x) }
