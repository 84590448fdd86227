-- The laws of a stream in pieces: two pieces are one, bytes inside an entry are one step, and behind too many entries nothing changes.
use Rattle.std.specs.Prelude.{ℕ, ◌+◌, ◌≤◌, ◌≡◌, refl, true, false, List, [], ◌∷◌, ◌++◌, eqb, length}
use Rattle.std.proofs.Common.{ap, ◌∙◌, arith, ne_eqb}
use Rattle.sheet.specs.Sheet.{Sheet}
use Rattle.streams.specs.Stream.{State, over, within, kept_byte, byte, run}
use Rattle.streams.proofs.Kept.{kept_in}

-- Feeding x and then y is feeding x ++ y.
pub run-append : (s : State) (x y : List ℕ) → run s (x ++ y) ≡ run (run s x) y
run-append s [] y = refl
run-append s (b ∷ x) y = run-append (byte s b) x y

-- Behind too many entries nothing changes.
pub run-over : (s : State) (x : List ℕ) → over s.done ≡ true → run s x ≡ s
unfolding byte
run-over s [] h = refl
run-over s (b ∷ x) h = rw h (run-over s x h)

-- Inside an entry some bytes are one step.
pub run_inside : (d : Sheet) (size got : ℕ) (room x : List ℕ) → 1 ≤ length x → over d ≡ false → got + length x ≤ size
    → run (record { done = d; known = 2; size = size; got = got; room = room }) x
    ≡ within d size (got + length x) (kept_in room got x)
unfolding byte
run_inside d size got room [] some h fits = absurd (omega arith)
run_inside d size got room (b ∷ []) some h fits = rw h
run_inside d size got room (b ∷ c ∷ cs) some h fits =
    let e : eqb (got + 1) size ≡ false = ne_eqb (got + 1) size (λ q. omega arith) in
    let n : (got + 1) + length (c ∷ cs) ≡ got + length (b ∷ c ∷ cs) = omega arith in
    rw (h, e)
    (run_inside d size (got + 1) (kept_byte room got b) (c ∷ cs) (omega arith) h (omega arith)
    ∙ ap (λ k. within d size k (kept_in room got (b ∷ c ∷ cs))) n)
