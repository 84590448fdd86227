-- The laws of the greatest common divisor, which divides both numbers and is a multiple of every other divisor of both, and of the
-- least common multiple: it is a common multiple and divides every other, of two numbers and of a list; and the step of Euclid's
-- that the code takes.
use Rattle.std.specs.Prelude.{ℕ, zero, suc, ◌*◌, ◌-◌, ◌/◌, ◌%◌, ◌≤◌, ◌<◌, ◌≡◌, refl}
use Rattle.std.specs.Int.{◌∣◌}
use Rattle.std.proofs.Common.{sym, ◌∙◌, mod-lt, mul_comm, lt_of_mul-lt-mul_right}
use Rattle.std.proofs.Math.Path.{ap}
use mathlib.Core.List.{List, [], ◌∷◌, ◌++◌, Memᴰ}
use native.Mathlib.Omega.{arith}
use Rattle.std.proofs.Math.Nat.{mod_def, mul-sub, one-le-mul, div-mul_cancel, dvd_refl, dvd-zero, dvd-mul_left, dvd_trans, dvd-sub, dvd-mod_iff, mul-dvd-mul_left, mul-dvd-mul_right, dvd-mul_right_of_dvd, dvd_of_mul-dvd-mul_right, pos_of_dvd_of_pos, le_of_dvd, dvd_antisymm}
use Rattle.multiples.specs.Multiples.{Multiple, gcd_in, gcd, lcm, lcm_from, least_common, AllPositive}

-- ---- multiples

-- The library's laws are of division without remainder, which is the same.
divides : (d n : ℕ) → Multiple d n → d ∣ n
divides d n m = rw m.1 (dvd-mul_left d m.0)

multiple : (d n : ℕ) → d ∣ n → Multiple d n
multiple d n h = (n / d, sym (div-mul_cancel d h))

-- A multiple of a multiple.
pub multiple-trans : (d m n : ℕ) → Multiple d m → Multiple m n → Multiple d n
multiple-trans d m n h k = multiple d n (dvd_trans d (divides d m h) (divides m n k))

-- Every number is a multiple of 1, and of itself.
pub multiple-one : (n : ℕ) → Multiple 1 n
multiple-one n = (n, omega arith)

pub multiple-self : (n : ℕ) → Multiple n n
multiple-self n = (1, omega arith)

-- A multiple that is not 0 is no smaller.
pub multiple-above : (d n : ℕ) → 1 ≤ n → Multiple d n → d ≤ n
multiple-above d n some m = le_of_dvd some (divides d n m)

-- Divided and taken as often again, a multiple is as it was.
pub multiple-over : (d n : ℕ) → Multiple d n → n / d * d ≡ n
multiple-over d n m = div-mul_cancel d (divides d n m)

-- Two numbers that are multiples of each other are equal.
pub multiple-both : (m n : ℕ) → Multiple m n → Multiple n m → m ≡ n
multiple-both m n h k = dvd_antisymm (divides m n h) (divides n m k)

-- ---- Euclid's steps

-- More steps than enough give the same.
enough : (m n a b : ℕ) → b < m → b < n → gcd_in m a b ≡ gcd_in n a b
unfolding gcd_in
enough zero n a b h k = absurd (omega arith)
enough (suc m) zero a b h k = absurd (omega arith)
enough (suc m) (suc n) a zero h k = refl
enough (suc m) (suc n) a (suc b) h k =
    let less : a % suc b < suc b = mod-lt a (omega arith) in
    enough m n (suc b) (a % suc b) (omega arith) (omega arith)

-- With nothing to divide by, the divisor is found.
pub gcd-zero : (a : ℕ) → gcd a 0 ≡ a
unfolding gcd_in gcd
gcd-zero a = refl

-- One step.
pub gcd-step : (a b : ℕ) → 1 ≤ b → gcd a b ≡ gcd b (a % b)
unfolding gcd_in gcd
gcd-step a zero some = absurd (omega arith)
gcd-step a (suc b) some = enough (suc b) (suc (a % suc b)) (suc b) (a % suc b) (mod-lt a some) (omega arith)

-- ---- the greatest common divisor

-- It divides both.
divides_in : (n a b : ℕ) → b < n → (gcd_in n a b ∣ a) × (gcd_in n a b ∣ b)
unfolding gcd_in
divides_in zero a b h = absurd (omega arith)
divides_in (suc n) a zero h = (dvd_refl a, dvd-zero a)
divides_in (suc n) a (suc b) h =
    let less : a % suc b < suc b = mod-lt a (omega arith) in
    let g = gcd_in n (suc b) (a % suc b) in
    let d = divides_in n (suc b) (a % suc b) (omega arith) in
    ((dvd-mod_iff g d.0).0 d.1, d.0)

-- What divides m times each divides m times their greatest common divisor.
span_in : (n a b k m : ℕ) → b < n → k ∣ m * a → k ∣ m * b → k ∣ m * gcd_in n a b
unfolding gcd_in
span_in zero a b k m h p q = absurd (omega arith)
span_in (suc n) a zero k m h p q = p
span_in (suc n) a (suc b) k m h p q =
    let less : a % suc b < suc b = mod-lt a (omega arith) in
    let whole : m * (a % suc b) ≡ m * a - m * (suc b * (a / suc b)) = rw (mod_def a (suc b)) (mul-sub m a (suc b * (a / suc b))) in
    let times : m * (suc b * (a / suc b)) ≡ m * suc b * (a / suc b) = omega arith in
    let rest : k ∣ m * (a % suc b) = rw (whole, times) (dvd-sub k p (dvd-mul_right_of_dvd k q (a / suc b))) in
    span_in n (suc b) (a % suc b) k m (omega arith) q rest

module _ (a b : ℕ) where
  -- The same with enough steps.
  gcd-left : gcd a b ∣ a
  unfolding gcd
  gcd-left = (divides_in (suc b) a b (omega arith)).0

  gcd-right : gcd a b ∣ b
  unfolding gcd
  gcd-right = (divides_in (suc b) a b (omega arith)).1

  gcd-span : (k m : ℕ) → k ∣ m * a → k ∣ m * b → k ∣ m * gcd a b
  unfolding gcd
  gcd-span k m = span_in (suc b) a b k m (omega arith)

  -- Both are multiples of it,
  pub gcd-of-first : Multiple (gcd a b) a
  gcd-of-first = multiple (gcd a b) a gcd-left

  pub gcd-of-second : Multiple (gcd a b) b
  gcd-of-second = multiple (gcd a b) b gcd-right

  -- and it is a multiple of whatever both are multiples of, also where all three are taken m times.
  pub gcd-spans : (k m : ℕ) → Multiple k (m * a) → Multiple k (m * b) → Multiple k (m * gcd a b)
  gcd-spans k m p q = multiple k (m * gcd a b) (gcd-span k m (divides k (m * a) p) (divides k (m * b) q))

  pub gcd-greatest : (k : ℕ) → Multiple k a → Multiple k b → Multiple k (gcd a b)
  gcd-greatest k p q =
      let once : (n : ℕ) → 1 * n ≡ n = λ n. omega arith in
      rw (once (gcd a b)) at (gcd-spans k 1 (rw (once a) p) (rw (once b) q))

  -- It is not 0 where the first number is not, or the second.
  pub gcd-positive : 1 ≤ a → 1 ≤ gcd a b
  gcd-positive some = pos_of_dvd_of_pos gcd-left some

  pub gcd-some : 1 ≤ b → 1 ≤ gcd a b
  gcd-some some = pos_of_dvd_of_pos gcd-right some

  -- ---- the least common multiple of two numbers

  -- It and the divisor together make the product.
  lcm-times : lcm a b * gcd a b ≡ a * b
  unfolding lcm
  lcm-times =
      let e : a / gcd a b * gcd a b ≡ a = div-mul_cancel (gcd a b) gcd-left in
      let f : a / gcd a b * b * gcd a b ≡ a / gcd a b * gcd a b * b = omega arith in
      f ∙ ap (λ x. x * b) e

  -- It is a multiple of the first,
  pub lcm-left : Multiple a (lcm a b)
  unfolding lcm
  lcm-left =
      let g = gcd a b in
      let e : a / g * g ≡ a = div-mul_cancel g gcd-left in
      let f : b / g * g ≡ b = div-mul_cancel g gcd-right in
      let turned : a / g * (b / g * g) ≡ b / g * (a / g * g) = omega arith in
      (b / g, ap (λ x. a / g * x) (sym f) ∙ turned ∙ ap (λ x. b / g * x) e)

  -- and of the second.
  pub lcm-right : Multiple b (lcm a b)
  unfolding lcm
  lcm-right = (a / gcd a b, refl)

  -- Every other common multiple is a multiple of it.
  pub lcm-least : (m : ℕ) → 1 ≤ a → Multiple a m → Multiple b m → Multiple (lcm a b) m
  lcm-least m some h k =
      let left : a * b ∣ m * a = rw (mul_comm m a) (mul-dvd-mul_left b a (divides b m k)) in
      let right : a * b ∣ m * b = mul-dvd-mul_right a (divides a m h) b in
      let both : lcm a b * gcd a b ∣ m * gcd a b = rw lcm-times (gcd-span (a * b) m left right) in
      multiple (lcm a b) m (dvd_of_mul-dvd-mul_right (lcm a b) (gcd-positive some) both)

  module _ (some : 1 ≤ a) (more : 1 ≤ b) where
    -- It is not 0 where neither is,
    pub lcm-positive : 1 ≤ lcm a b
    lcm-positive =
        let product : 0 * gcd a b < lcm a b * gcd a b = rw lcm-times (omega (arith, one-le-mul some more)) in
        lt_of_mul-lt-mul_right (gcd a b) product

    -- and no smaller than the first.
    pub lcm-above : a ≤ lcm a b
    lcm-above = multiple-above a (lcm a b) lcm-positive lcm-left

-- ---- the least common multiple of a list

-- What holds of a list with a number in front holds of the rest, and of what that number makes of f.
rest-positive : (p : ℕ) (ps : List ℕ) → AllPositive (p ∷ ps) → AllPositive ps
rest-positive p ps all x m = all x (Memᴰ.tail m)

next-positive : (f p : ℕ) (ps : List ℕ) → 1 ≤ f → AllPositive (p ∷ ps) → 1 ≤ lcm f p
next-positive f p ps some all = lcm-positive f p some (all p (Memᴰ.head refl))

-- Each number of the list makes a multiple of what was before,
pub from-multiple : (f : ℕ) (ps : List ℕ) → Multiple f (lcm_from f ps)
from-multiple f [] = multiple-self f
from-multiple f (p ∷ ps) = multiple-trans f (lcm f p) (lcm_from (lcm f p) ps) (lcm-left f p) (from-multiple (lcm f p) ps)

-- which is not 0 where no number is.
pub from-positive : (f : ℕ) (ps : List ℕ) → 1 ≤ f → AllPositive ps → 1 ≤ lcm_from f ps
from-positive f [] some all = some
from-positive f (p ∷ ps) some all = from-positive (lcm f p) ps (next-positive f p ps some all) (rest-positive p ps all)

-- One number more at the end.
pub from_more : (f : ℕ) (ps : List ℕ) (p : ℕ) → lcm_from f (ps ++ (p ∷ [])) ≡ lcm (lcm_from f ps) p
from_more f [] p = refl
from_more f (q ∷ ps) p = from_more (lcm f q) ps p

-- A multiple of each number of the list.
from_each : (f : ℕ) (ps : List ℕ) (p : ℕ) → Memᴰ p ps → Multiple p (lcm_from f ps)
from_each f [] p x' = elim x' [ ]
from_each f (q ∷ ps) p (Memᴰ.head e) =
    rw e (multiple-trans q (lcm f q) (lcm_from (lcm f q) ps) (lcm-right f q) (from-multiple (lcm f q) ps))
from_each f (q ∷ ps) p (Memᴰ.tail m) = from_each (lcm f q) ps p m

-- Every other multiple of f and of each is a multiple of it.
from-least : (f : ℕ) (ps : List ℕ) (m : ℕ) → 1 ≤ f → AllPositive ps
    → Multiple f m → ((p : ℕ) → Memᴰ p ps → Multiple p m) → Multiple (lcm_from f ps) m
from-least f [] m some all h each = h
from-least f (q ∷ ps) m some all h each =
    from-least (lcm f q) ps m (next-positive f q ps some all) (rest-positive q ps all)
    (lcm-least f q m some h (each q (Memᴰ.head refl))) (λ p k. each p (Memᴰ.tail k))

module _ (ps : List ℕ) where
  -- It is a multiple of each,
  pub common-multiple : (p : ℕ) → Memᴰ p ps → Multiple p (least_common ps)
  common-multiple = from_each 1 ps

  module _ (all : AllPositive ps) where
    -- it is not 0 where none is,
    pub common-positive : 1 ≤ least_common ps
    common-positive = from-positive 1 ps (omega arith) all

    -- every other common multiple is a multiple of it,
    pub common-least : (m : ℕ) → ((p : ℕ) → Memᴰ p ps → Multiple p m) → Multiple (least_common ps) m
    common-least m = from-least 1 ps m (omega arith) all (multiple-one m)

    -- and no other number is so.
    pub common-one : (n : ℕ) → ((p : ℕ) → Memᴰ p ps → Multiple p n)
        → ((m : ℕ) → ((p : ℕ) → Memᴰ p ps → Multiple p m) → Multiple n m) → n ≡ least_common ps
    common-one n each least =
        multiple-both n (least_common ps) (least (least_common ps) common-multiple) (common-least n each)
