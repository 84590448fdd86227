-- One start, as the code reads it and as it writes it.
use Rattle.std.specs.Prelude.{ℕ, suc, ◌+◌, ◌*◌, ◌-◌, ◌/◌, ◌%◌, ◌^◌, ◌<◌, ◌≡◌, List, ◌++◌, ℤ, take, drop}
use Rattle.std.proofs.Common.{ap, ap₂, ◌∙◌, add-one, arith}
use Rattle.seconds.specs.Twos.{bits_to, to_bits}
use Rattle.packed.specs.Layout.{number_of, bytes_of}
use Rattle.packed_plan.specs.Plan.{plan_bytes, pad_bits}
use Rattle.packed_plan.proofs.Writing.{place_of}
use Rattle.plan_bytes.specs.Asks.{start_from, begun_at, three_with, start_put, StartRoom}

-- The place of the three bytes, and what one more of the start counts for, of the plan that ends with it.
place_is : (k p : ℕ) → p ≡ plan_bytes (k + 1) → p - 3 ≡ place_of k
place_is k p e = ap (λ n. n - 3) (e ∙ ap plan_bytes (add-one k))

unit-is : (k u : ℕ) → u ≡ 2 ^ pad_bits (k + 1) → u ≡ 2 ^ pad_bits (suc k)
unit-is k u e = e ∙ ap (λ n. 2 ^ pad_bits n) (add-one k)

-- What is read is the start.
pub read_is : (bytes : List ℕ) (k p w u : ℕ) → p ≡ plan_bytes (k + 1) → w ≡ number_of (take 3 (drop (p - 3) bytes))
    → u ≡ 2 ^ pad_bits (k + 1) → bits_to 18 (w / u % 262144) ≡ start_from bytes k
read_is bytes k p w u e f g =
    ap₂ (λ x y. bits_to 18 (x / y % 262144)) (f ∙ ap (λ n. number_of (take 3 (drop n bytes))) (place_is k p e)) (unit-is k u g)

-- What is computed is the three bytes' place and number,
pub record Made (bytes : List ℕ) (k : ℕ) (start : ℤ) (at word : ℕ) : Type 0 where
  pub place : at ≡ place_of k
  pub number : word ≡ three_with bytes k start

module _ (bytes : List ℕ) (k : ℕ) (start : ℤ) (p b : ℕ) (e : p ≡ plan_bytes (k + 1)) (f : b ≡ begun_at bytes (p - 3) k) where
  begun-is : b ≡ begun_at bytes (place_of k) k
  begun-is = f ∙ ap (λ n. begun_at bytes n k) (place_is k p e)

  pub made : (t u : ℕ) → t ≡ to_bits 18 start → u ≡ 2 ^ pad_bits (k + 1) → Made bytes k start (p - 3) (b * 65536 + t * u)
  made t u g h =
      record {
        place = place_is k p e;
        number = ap₂ (λ x y. x * 65536 + y) begun-is (ap₂ (λ x y. x * y) g (unit-is k u h));
      }

  -- of which what stands in the first byte is a part,
  pub begun-small : StartRoom bytes k start → b * 65536 < 2 ^ 24
  begun-small room = omega (arith, begun-is, room.fits)

-- and what is then written is the start.
pub put_is : (bytes new : List ℕ) (k : ℕ) (start : ℤ) (at word : ℕ) → Made bytes k start at word
    → new ≡ take at bytes ++ bytes_of 3 word ++ drop (at + 3) bytes → new ≡ start_put bytes k start
put_is bytes new k start at word m e =
    e ∙ ap₂ (λ x y. take x bytes ++ bytes_of 3 y ++ drop (x + 3) bytes) m.place m.number
