-- Numbers laid at a place one by one, and a part copied in parts.
use Rattle.std.specs.Prelude.{ℕ, ◌+◌, ◌-◌, ◌≤◌, ◌<◌, ◌≡◌, refl, List, ℤ, pos, length, set}
use Rattle.std.proofs.Common.{◌∙◌, ⊎_elim, eq-or-lt_of_le, arith, length-set, get_or-set_same, get_or-set_other}
use Rattle.std.proofs.Math.Decide.{dec_lt}
use Rattle.codes.specs.Code.{at0}
use Rattle.merging.specs.Joins.{Laid, CopiedOver, Copied}

-- None yet,
pub laid_none : (at : ℕ) (pushed : List ℤ) (from : ℕ) (was : List ℤ) → Laid at pushed from 0 was was
laid_none at pushed from was = record { size = refl; laid = λ k h. absurd (omega arith); before = λ k h. refl }

-- and one more.
pub laid_more : {at : ℕ} {pushed : List ℤ} {from count : ℕ} {was after : List ℤ} (x : ℤ) → Laid at pushed from count was after
    → at + count < length was → x ≡ at0 pushed (from + count) → Laid at pushed from (count + 1) was (set after (at + count) x)
laid_more {at} {pushed} {from} {count} {was} {after} x l room is = record {
  size = length-set after (at + count) x ∙ l.size;
  laid = λ k h. ⊎_elim (λ e. rw e last) (λ m. other (at + k) (omega arith) ∙ l.laid k m) (eq-or-lt_of_le (up_to k h));
  before = λ k h. other k (omega arith) ∙ l.before k h;
}
  where
    other : (k : ℕ) → (k ≡ at + count → ⊥) → at0 (set after (at + count) x) k ≡ at0 after k
    other k = get_or-set_other after (at + count) k x (pos 0)

    last : at0 (set after (at + count) x) (at + count) ≡ at0 pushed (from + count)
    last = get_or-set_same after (at + count) x (pos 0) (omega (arith, l.size)) ∙ is

    up_to : (k : ℕ) → k < count + 1 → k ≤ count
    up_to k h = omega arith

-- Four numbers, all of them read before.
pub laid-four : {from at : ℕ} {was : List ℤ} (a b c d : ℤ) → at + 4 ≤ length was → a ≡ at0 was from → b ≡ at0 was (from + 1)
    → c ≡ at0 was (from + 2) → d ≡ at0 was (from + 3)
    → Copied from at 4 was (set (set (set (set was at a) (at + 1) b) (at + 2) c) (at + 3) d)
laid-four {from} {at} {was} a b c d room a-is b-is c-is d-is =
    let here : at + 0 ≡ at = omega arith in
    let there : from + 0 ≡ from = omega arith in
    let one = laid_more a (laid_none at was from was) (omega arith) (rw there a-is) in
    laid_more d (laid_more c (laid_more b (rw here at one) (omega arith) b-is) (omega arith) c-is) (omega arith) d-is

-- ---- copied in parts

-- None yet,
pub over_none : (from at : ℕ) (was : List ℤ) → CopiedOver from at 0 was was
over_none from at was = record { size = refl; copied = λ k h b. absurd (omega arith); before = λ k h. refl }

-- and so many more.
pub over-more : {from at m f t n : ℕ} {was mid after : List ℤ} → CopiedOver from at m was mid → f ≡ from + m → t ≡ at + m
    → Copied f t n mid after → CopiedOver from at (m + n) was after
over-more {from} {at} {m} {f} {t} {n} {was} {mid} {after} c f-is t-is d = record {
  size = d.size ∙ c.size;
  copied = λ k h b. go k h b (dec_lt k m);
  before = λ k h. d.before k (omega arith) ∙ c.before k h;
}
  where
    go : (k : ℕ) → k < m + n → from + k < at → Dec (k < m) → at0 after (at + k) ≡ at0 was (from + k)
    go k h b (yes l) = d.before (at + k) (omega arith) ∙ c.copied k l b
    go k h b (no l) =
        let there : t + (k - m) ≡ at + k = omega arith in
        let here : f + (k - m) ≡ from + k = omega arith in
        (rw (there, here) at (d.laid (k - m) (omega arith))) ∙ c.before (from + k) b

-- All of a part that stands before its copy.
pub over-all : {from at k count : ℕ} {was after : List ℤ} → CopiedOver from at k was after → count ≤ k → from + count ≤ at
    → Copied from at count was after
over-all c l apart = record {
  size = c.size;
  laid = λ i h. c.copied i (omega arith) (omega arith);
  before = c.before;
}
