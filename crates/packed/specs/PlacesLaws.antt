-- The laws of lists by places: parts and what is put together of them, one for each place, and the first place that passes.
use Prim.Native.Nat.{ℕ, zero, suc, ◌+◌, ◌*◌, ◌-◌, ◌≤◌, ◌<◌}
use Rattle.std.specs.Prelude.{◌≡◌, Bool, true, false, Option, Some, None, List, [], ◌∷◌, ◌++◌, ltb, take, drop, get_or}
use Rattle.std.proofs.Math.Path.{refl}
use Rattle.std.proofs.Common.{sym, ap, ap₂, ◌∙◌, true≢false, mul-le-mul_left, zero-add, add-zero, length-append, take_all, take_at, drop-drop, ext_get_or, get_or-take, get_or-drop}
use native.Mathlib.Omega.{arith}
use Rattle.std.proofs.Math.ListN.{length, length-drop}
use Rattle.std.proofs.lemmas.List.{take-append-le, drop-append-le}
use Rattle.std.proofs.Math.Seq.{drop-append-add, take-add, drop_at, length-take-le}
use borrow.Author.Tests.{ltb-true, ltb-false, lt-ltb, le-ltb}
use borrow.Table.Steps.{cases}
use Rattle.packed.specs.Places.{part, flat, each_of, each, first_of, first, found_below}

-- The part at a place below n ends within n parts.
pub part-below : (w : ℕ) {k n : ℕ} → k < n → w * k + w ≤ w * n
part-below w h = omega (arith, mul-le-mul_left w h)

module _ {ℓ} {A : Type ℓ} where
  -- ---- parts

  -- A part that ends within the list has its whole width.
  pub length_part : (w : ℕ) (l : List A) (k : ℕ) → w * k + w ≤ length l → length (part w l k) ≡ w
  unfolding part
  length_part w l k h = length-take-le w (drop (w * k) l) (rw length-drop (omega arith))

  -- Of two lists put together, a part that ends within the first.
  pub part-first : (w : ℕ) (a b : List A) (k : ℕ) → w * k + w ≤ length a → part w (a ++ b) k ≡ part w a k
  unfolding part
  part-first w a b k h =
      rw (drop-append-le (w * k) a b (omega arith)) (take-append-le w (drop (w * k) a) b (rw length-drop (omega arith)))

  -- Of two lists put together, a part behind the n parts of the first.
  pub part-second : (w : ℕ) (a b : List A) (n k : ℕ) → length a ≡ w * n → part w (a ++ b) (n + k) ≡ part w b k
  unfolding part
  part-second w a b n k e =
      let s : w * (n + k) ≡ length a + w * k = omega arith in
      rw (s, drop-append-add a b (w * k))

  -- ---- parts put together

  -- None.
  pub flat-zero : (f : ℕ → List A) → flat f 0 ≡ []
  unfolding flat
  flat-zero f = refl

  -- One more.
  pub flat-more : (f : ℕ → List A) (n : ℕ) → flat f (n + 1) ≡ flat f n ++ f n
  flat-more f n = let e : n + 1 ≡ suc n = omega arith in rw e (unfold flat in refl)

  -- Parts that agree.
  pub flat-cong : (f g : ℕ → List A) (n : ℕ) → ((k : ℕ) → k < n → f k ≡ g k) → flat f n ≡ flat g n
  unfolding flat
  flat-cong f g zero h = refl
  flat-cong f g (suc n) h = rw (flat-cong f g n (λ k b. h k (omega arith)), h n (omega arith))

  -- Parts of w each.
  pub length-flat : (w : ℕ) (f : ℕ → List A) → ((k : ℕ) → length (f k) ≡ w) → (n : ℕ) → length (flat f n) ≡ w * n
  unfolding flat
  length-flat w f h zero = omega arith
  length-flat w f h (suc n) = rw (length-append, length-flat w f h n, h n) (omega arith)

  -- Each part is the one that was put there.
  pub part-flat : (w : ℕ) (f : ℕ → List A) → ((k : ℕ) → length (f k) ≡ w) → (n k : ℕ) → k < n → part w (flat f n) k ≡ f k
  unfolding part flat
  part-flat w f h zero k b = absurd (omega arith)
  part-flat w f h (suc n) k b =
      let long : length (flat f n) ≡ w * n = length-flat w f h n in
      cases (ltb k n)
      (λ e. let within : w * k + w ≤ length (flat f n) = omega (arith, part-below w (ltb-true k n e)) in
      part-first w (flat f n) (f n) k within ∙ part-flat w f h n k (ltb-true k n e))
      (λ e. let last : k ≡ n = omega (arith, ltb-false k n e) in
      rw (last, drop_at (flat f n) (f n) (w * n) long) (take_all w (f n) (omega (arith, h n))))

  -- The parts of a list put together are the list again.
  pub flat-part : (w : ℕ) (l : List A) (n : ℕ) → flat (part w l) n ≡ take (w * n) l
  unfolding part flat
  flat-part w l zero = let e : w * 0 ≡ 0 = omega arith in rw e
  flat-part w l (suc n) =
      let e : w * suc n ≡ w * n + w = omega arith in
      rw (flat-part w l n, e, take-add (w * n) w l)

  fill-behind : (done old : List A) (at w : ℕ) → length done ≡ at → drop (at + w) (done ++ drop at old) ≡ drop (at + w) old
  fill-behind done old at w e = rw e at (drop-append-add done (drop at old) w ∙ drop-drop w at old)

  -- A buffer filled up to a place, with w more written there.
  pub fill_on : (done old vs : List A) (at w : ℕ) → length done ≡ at
      → take at (done ++ drop at old) ++ vs ++ drop (at + w) (done ++ drop at old) ≡ done ++ vs ++ drop (at + w) old
  fill_on done old vs at w e = rw (take_at done (drop at old) at e, fill-behind done old at w e)

  -- ---- one for each place

  -- From a place on: one, and those from the next place on.
  pub each_on : (f : ℕ → A) (at n : ℕ) → at < n → each f at n ≡ f at ∷ each f (at + 1) n
  unfolding each
  each_on f at n h =
      let e : n - at ≡ suc (n - (at + 1)) = omega arith in
      let s : at + 1 ≡ suc at = omega arith in
      rw (e, s)

  -- At the end there are none.
  pub each-end : (f : ℕ → A) (n : ℕ) → each f n n ≡ []
  unfolding each
  each-end f n = let e : n - n ≡ 0 = omega arith in rw e

  length-each_of : (f : ℕ → A) (at m : ℕ) → length (each_of f at m) ≡ m
  length-each_of f at zero = refl
  length-each_of f at (suc m) = ap suc (length-each_of f (suc at) m)

  -- As many as there are places.
  pub length-each : (f : ℕ → A) (at n : ℕ) → length (each f at n) ≡ n - at
  unfolding each
  length-each f at n = length-each_of f at (n - at)

  get_d-each_of : (f : ℕ → A) (at m i : ℕ) (d : A) → i < m → get_or (each_of f at m) i d ≡ f (at + i)
  get_d-each_of f at zero i d h = absurd (omega arith)
  get_d-each_of f at (suc m) zero d h = rw add-zero
  get_d-each_of f at (suc m) (suc i) d h =
      let e : at + suc i ≡ suc at + i = omega arith in
      rw e (get_d-each_of f (suc at) m i d (omega arith))

  -- The one for a place.
  pub get_d-each : (f : ℕ → A) (at n i : ℕ) (d : A) → at + i < n → get_or (each f at n) i d ≡ f (at + i)
  unfolding each
  get_d-each f at n i d h = get_d-each_of f at (n - at) i d (omega arith)

  -- A list of n is its elements, place by place.
  pub ext-each : (d : A) (l : List A) (n : ℕ) → length l ≡ n → each (λ k. get_or l k d) 0 n ≡ l
  ext-each d l n e =
      let long : length (each (λ k. get_or l k d) 0 n) ≡ n - 0 = length-each (λ k. get_or l k d) 0 n in
      ext_get_or d (each (λ k. get_or l k d) 0 n) l (omega arith)
      (λ i h. get_d-each (λ k. get_or l k d) 0 n i d (omega arith) ∙ ap (λ k. get_or l k d) (zero-add i))

  each_of-append : (f : ℕ → A) (at m k : ℕ) → each_of f at (m + k) ≡ each_of f at m ++ each_of f (at + m) k
  each_of-append f at zero k = simp (zero-add, add-zero)
  each_of-append f at (suc m) k =
      let e : suc m + k ≡ suc (m + k) = omega arith in
      let s : at + suc m ≡ suc at + m = omega arith in
      rw (e, s, each_of-append f (suc at) m k)

  -- Stopped on the way and gone on.
  pub each_append : (f : ℕ → A) (at k n : ℕ) → at ≤ k → k ≤ n → each f at n ≡ each f at k ++ each f k n
  unfolding each
  each_append f at k n h g =
      let e : n - at ≡ (k - at) + (n - k) = omega arith in
      let s : at + (k - at) ≡ k = omega arith in
      rw e (rw s at (each_of-append f at (k - at) (n - k)))

  -- One more at the end.
  pub each_more : (f : ℕ → A) (at n : ℕ) → at ≤ n → each f at (n + 1) ≡ each f at n ++ (f n ∷ [])
  each_more f at n h =
      rw (each_append f at n (n + 1) h (omega arith), each_on f n (n + 1) (omega arith), each-end f (n + 1))

  each_of-cong : (f g : ℕ → A) (at m : ℕ) → ((k : ℕ) → at ≤ k → k < at + m → f k ≡ g k) → each_of f at m ≡ each_of g at m
  each_of-cong f g at zero h = refl
  each_of-cong f g at (suc m) h =
      ap₂ (λ a l. a ∷ l) (h at (omega arith) (omega arith))
      (each_of-cong f g (suc at) m (λ k a b. h k (omega arith) (omega arith)))

  -- Those that agree.
  pub each-cong : (f g : ℕ → A) (at n : ℕ) → ((k : ℕ) → at ≤ k → k < n → f k ≡ g k) → each f at n ≡ each g at n
  unfolding each
  each-cong f g at n h = each_of-cong f g at (n - at) (λ k a b. h k a (omega arith))

  -- The n that stand at a place of a list, read one by one.
  pub run-read : (d : A) (n : ℕ) (l : List A) (at : ℕ) → at + n ≤ length l → each (λ k. get_or l (at + k) d) 0 n ≡ take n (drop at l)
  run-read d n l at h =
      let run : List A = take n (drop at l) in
      each-cong (λ k. get_or l (at + k) d) (λ k. get_or run k d) 0 n (λ k a b. sym (get_or-take n (drop at l) k d b ∙ get_or-drop at l k d))
      ∙ ext-each d run n (length-take-le n (drop at l) (omega (arith, length-drop at l)))

  each_of-shift : (f : ℕ → A) (by at m : ℕ) → each_of f (by + at) m ≡ each_of (λ k. f (by + k)) at m
  each_of-shift f by at zero = refl
  each_of-shift f by at (suc m) =
      let e : suc (by + at) ≡ by + suc at = omega arith in
      rw (e, each_of-shift f by (suc at) m)

  -- The places moved on.
  pub each-shift : (f : ℕ → A) (by at n : ℕ) → each f (by + at) (by + n) ≡ each (λ k. f (by + k)) at n
  unfolding each
  each-shift f by at n =
      let e : by + n - (by + at) ≡ n - at = omega arith in
      rw e (each_of-shift f by at (n - at))

-- ---- the first place that passes a test

-- What it is to be the first, from a place on and below n; or n, if none passes.
pub record IsFirst (p : ℕ → Bool) (at n r : ℕ) : Type 0 where
  pub from : at ≤ r
  pub to : r ≤ n
  pub passes : r < n → p r ≡ true
  pub before : (k : ℕ) → at ≤ k → k < r → p k ≡ false

-- One that passes is the first itself, and one that does not is passed over.
pub first_found : (p : ℕ → Bool) (at n : ℕ) → at ≤ n → (at < n → p at ≡ true) → IsFirst p at n at
first_found p at n h e = record { from = omega arith; to = h; passes = e; before = λ k a b. absurd (omega arith) }

pub first-skips : (p : ℕ → Bool) (at n r : ℕ) → p at ≡ false → IsFirst p (suc at) n r → IsFirst p at n r
first-skips p at n r e f =
    record {
      from = omega arith;
      to = f.to;
      passes = f.passes;
      before = λ k a b. cases (ltb at k)
          (λ q. f.before k (ltb-true at k q) b)
          (λ q. let same : k ≡ at = omega (arith, ltb-false at k q) in rw same e);
    }

first_of-is : (p : ℕ → Bool) (at m : ℕ) → IsFirst p at (at + m) (first_of p at m)
first_of-is p at zero = first_found p at (at + 0) (omega arith) (λ h. absurd (omega arith))
first_of-is p at (suc m) =
    let s : at + suc m ≡ suc at + m = omega arith in
    cases (p at)
    (λ e. rw e (first_found p at (at + suc m) (omega arith) (λ h. e)))
    (λ e. rw (e, s) (first-skips p at (suc at + m) (first_of p (suc at) m) e (first_of-is p (suc at) m)))

-- The search finds it.
pub first-is : (p : ℕ → Bool) (at n : ℕ) → at ≤ n → IsFirst p at n (first p at n)
unfolding first
first-is p at n h =
    let e : at + (n - at) ≡ n = omega arith in
    rw e at (first_of-is p at (n - at))

not-sooner : (p : ℕ → Bool) (at n r s : ℕ) → IsFirst p at n r → IsFirst p at n s → ¬ (r < s)
not-sooner p at n r s f g h = true≢false (sym (f.passes (omega arith)) ∙ g.before r f.from h)

-- There is only one.
pub first-unique : (p : ℕ → Bool) (at n r s : ℕ) → IsFirst p at n r → IsFirst p at n s → r ≡ s
first-unique p at n r s f g = omega (arith, not-sooner p at n r s f g, not-sooner p at n s r g f)

-- From a place on: it does not pass, and the search goes on at the next.
pub first_on : (p : ℕ → Bool) (at n : ℕ) → at < n → p at ≡ false → first p at n ≡ first p (at + 1) n
unfolding first
first_on p at n h e =
    let c : n - at ≡ suc (n - (at + 1)) = omega arith in
    let s : at + 1 ≡ suc at = omega arith in
    rw (c, s, e)

-- It passes, and the search ends.
pub first-here : (p : ℕ → Bool) (at n : ℕ) → at < n → p at ≡ true → first p at n ≡ at
unfolding first
first-here p at n h e = let c : n - at ≡ suc (n - (at + 1)) = omega arith in rw (c, e)

-- At the end the search has found none.
pub first-end : (p : ℕ → Bool) (n : ℕ) → first p n n ≡ n
unfolding first
first-end p n = let e : n - n ≡ 0 = omega arith in rw e

-- None passes.
pub first-none : (p : ℕ → Bool) (at n : ℕ) → at ≤ n → ((k : ℕ) → at ≤ k → k < n → p k ≡ false) → first p at n ≡ n
first-none p at n h g =
    first-unique p at n (first p at n) n (first-is p at n h)
    (record { from = h; to = omega arith; passes = λ b. absurd (omega arith); before = g })

-- What is found below n is there,
pub found-there : (n k : ℕ) → k < n → Some k ≡ found_below n k
found-there n k h = rw (lt-ltb k n h)

-- and what is not is at the end.
pub found-none : (n k : ℕ) → n ≤ k → None ≡ found_below n k
found-none n k h = rw (le-ltb k n h)

-- And back.
pub found-is : (n k : ℕ) {j : ℕ} → Some j ≡ found_below n k → k < n
found-is n k {j} e = cases (ltb k n) (λ t. ltb-true k n t) (λ t. absurd (some-none (rw t at e)))
  where
    some-none : ◌≡◌ {A = Option ℕ} (Some j) None → ⊥
    some-none z = let w : ◌≡◌ {A = ℕ} 0 1 = cc in omega arith

pub none-is : (n k : ℕ) → None ≡ found_below n k → n ≤ k
none-is n k e = cases (ltb k n) (λ t. absurd (none-some (rw t at e))) (λ t. ltb-false k n t)
  where
    none-some : ◌≡◌ {A = Option ℕ} None (Some k) → ⊥
    none-some z = let w : ◌≡◌ {A = ℕ} 0 1 = cc in omega arith
