-- A list written from the front, two numbers at a time, over numbers that stay where nothing is written.
use Rattle.std.specs.Prelude.{ℕ, suc, ◌+◌, ◌≤◌, ◌<◌, ◌≡◌, refl, List, [], ◌∷◌, ◌++◌, length, take, drop, set, ℤ}
use Rattle.std.proofs.Common.{sym, ap, ap₂, ◌∙◌, append_assoc, append-nil, add-one, arith, length-set, take-append-drop, take-suc-set, drop-set-lt, length-take-le, drop-drop}
use Rattle.profiles.specs.Numbers.{written_over}

-- With n numbers of `whole` written over `was`, `rest` is still to be written.
pub record Writing (whole rest : List ℤ) (n : ℕ) (out was : List ℤ) : Type 0 where
  pub size : length out ≡ length was
  pub front : whole ≡ take n out ++ rest
  pub kept : drop n out ≡ drop n was

-- At the start nothing is written.
pub writing-none : (whole was : List ℤ) → Writing whole whole 0 was was
writing-none whole was = record { size = refl; front = refl; kept = refl }

-- One number more.
writing-one : {whole rest : List ℤ} {n : ℕ} {out was : List ℤ} (x : ℤ) → n < length out
    → Writing whole (x ∷ rest) n out was → Writing whole rest (suc n) (set out n x) was
writing-one {rest = rest} {n} {out} {was} x h w = record {
  size = length-set out n x ∙ w.size;
  front = w.front ∙ sym (rw (take-suc-set out n x h) (append_assoc (take n out) (x ∷ []) rest));
  kept = drop-set-lt (suc n) out n x (omega arith) ∙ sym (drop_more out) ∙ ap (drop 1) w.kept ∙ drop_more was;
}
  where
    drop_more : (l : List ℤ) → drop 1 (drop n l) ≡ drop (suc n) l
    drop_more l = drop-drop 1 n l ∙ ap (λ (k : ℕ). drop k l) (add-one n)

-- Two numbers more.
pub writing-two : {whole rest : List ℤ} {n : ℕ} {out was : List ℤ} (x y : ℤ) → n + 1 < length out
    → Writing whole (x ∷ y ∷ rest) n out was → Writing whole rest (n + 2) (set (set out n x) (n + 1) y) was
writing-two {n = n} {out} x y h w =
    let e : n + 1 ≡ suc n = omega arith in
    let f : n + 2 ≡ suc (suc n) = omega arith in
    rw (e, f) (writing-one y (rw (length-set out n x) (omega arith)) (writing-one x (omega arith) w))

-- With nothing left to write, the whole stands in front of what was there.
pub writing-all : {whole : List ℤ} {n : ℕ} {out was : List ℤ} → n ≤ length out → Writing whole [] n out was
    → (n ≡ length whole) × (out ≡ written_over whole was)
writing-all {whole} {n} {out} {was} h w =
    let front : whole ≡ take n out = w.front ∙ append-nil (take n out) in
    let long : length whole ≡ n = ap length front ∙ length-take-le n out h in
    let parts : take n out ++ drop n out ≡ whole ++ drop n was = ap₂ (λ (a b : List ℤ). a ++ b) (sym front) w.kept in
    (sym long, sym (take-append-drop n out) ∙ parts ∙ ap (λ (k : ℕ). whole ++ drop k was) (sym long))
