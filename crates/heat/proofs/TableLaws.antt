-- The two slopes give what the table gave: its rule, by one test that is computed over all entries, and the answers, equal for
-- every byte.
use Rattle.std.specs.Prelude.{◌≡◌, Bool, true, ◌&&◌, List, [], ◌∷◌, ℕ, zero, suc, ◌+◌, ◌<◌, T, eqb, length, get_or, ℤ, pos, negsuc, ◌+ℤ◌, ◌-ℤ◌, nat_abs, ◌≤ℤ◌, Ok}
use Rattle.std.proofs.Common.{sym, ap, ◌∙◌, zero-add, add-zero, le_of_suc-le-suc, not-suc-le-zero, arith, eqb→eq}
use Rattle.std.specs.Int.Signed.{lt_z}
use Rattle.std.proofs.Math.Facts.{and_yes}
use borrow.Table.Steps.{cases}
use Rattle.seconds.specs.Signed.{signed, add_is, sub_is, abs_is, one-zero}
use Rattle.heat.specs.Heat.{degree_of, heat_at}
use Rattle.heat.specs.Answer.{heating_of}
use Rattle.heat.specs.Table.{lengths, tabled_at, tabled}

-- The test passes at every entry and its place, counted from i.
abbrev every_entry : (ℕ → ℕ → Bool) → ℕ → List ℕ → Bool
every_entry test i [] = true
every_entry test i (x ∷ xs) = test i x && every_entry test (suc i) xs

entry-from : (test : ℕ → ℕ → Bool) (xs : List ℕ) (i : ℕ) → T (every_entry test i xs)
    → (k : ℕ) → k < length xs → T (test (i + k) (get_or xs k 0))
entry-from test [] i t k h = absurd (not-suc-le-zero h)
entry-from test (x ∷ xs) i t zero h =
    rw add-zero (and_yes (test i x) (every_entry test (suc i) xs) t).0
entry-from test (x ∷ xs) i t (suc k) h =
    let e : i + suc k ≡ suc i + k = omega arith in
    rw e (entry-from test xs (suc i) (and_yes (test i x) (every_entry test (suc i) xs) t).1 k (le_of_suc-le-suc h))

-- What the test says holds at each place.
entry_at : (test : ℕ → ℕ → Bool) (xs : List ℕ) → T (every_entry test 0 xs)
    → (k : ℕ) → k < length xs → T (test k (get_or xs k 0))
entry_at test xs t k h = rw zero-add at (entry-from test xs 0 t k h)

-- The two slopes, at every entry.
slopes : (k : ℕ) → k < 40 → T (eqb (get_or lengths k 0) (heat_at (pos k -ℤ pos 30)))
slopes k h = entry_at (λ i x. eqb x (heat_at (pos i -ℤ pos 30))) lengths tt k h

-- The entry of a degree, at the degree plus 30, is its length.
pub table-says : (z : ℤ) → negsuc 29 ≤ℤ z → z ≤ℤ pos 9 → get_or lengths (nat_abs (z +ℤ pos 30)) 0 ≡ heat_at z
table-says z low high =
    let k : ℕ = nat_abs (z +ℤ pos 30) in
    let e : pos k -ℤ pos 30 ≡ z = omega (signed, sub_is (pos k) (pos 30), add_is z (pos 30), abs_is (z +ℤ pos 30), one-zero (z +ℤ pos 30)) in
    let small : k < 40 = omega (signed, add_is z (pos 30), abs_is (z +ℤ pos 30), one-zero (z +ℤ pos 30)) in
    eqb→eq (get_or lengths k 0) (heat_at (pos k -ℤ pos 30)) (slopes k small) ∙ ap heat_at e

-- So at every degree from -30 up,
tabled-at : (z : ℤ) → negsuc 29 ≤ℤ z → heat_at z ≡ tabled_at z
tabled-at z low =
    cases (lt_z (pos 9) z)
    (λ e. rw e)
    (λ e. let high : z ≤ℤ pos 9 = omega (signed, e) in sym (table-says z low high) ∙ rw e)

-- and for every byte the answer is what it was.
pub unchanged : (b : ℕ) → heating_of b ≡ tabled b
unchanged b =
    cases (lt_z (degree_of b) (negsuc 29))
    (λ e. rw e)
    (λ e. let low : negsuc 29 ≤ℤ degree_of b = omega (signed, e) in rw e (ap Ok (tabled-at (degree_of b) low)))
