-- What a reader that is opened over bytes reads from a place: over accepted bytes, and over others.
use Rattle.std.specs.Prelude.{ℕ, ◌≡◌, List, Ok, Err}
use Rattle.std.proofs.Common.{ap}
use Rattle.packed.specs.declared.Refusal.{Refusal}
use Rattle.packed.specs.Judge.{plainly}
use Rattle.packed.specs.Refusals.{header_checks}
use Rattle.reader.specs.Reading.{Opened, open_of, step_of}
use Rattle.reader_struct.specs.Standing.{kept_bytes, read_at}

-- Over accepted bytes, reading from a place is the step over them.
pub read-accepted : (bytes : List ℕ) (place count : ℕ) → open_of bytes ≡ Ok count
    → (read_at bytes place).moved ≡ step_of bytes place
read-accepted bytes place count e = ap (λ (o : Opened). step_of (kept_bytes o bytes) place) e

-- Over others it is a step over an empty part: refusal 1, and the reader stays.
pub read-refused : (bytes : List ℕ) (place : ℕ) (r : Refusal) → open_of bytes ≡ Err r
    → (read_at bytes place).moved ≡ record { answer = Err (plainly 1); place = place }
unfolding header_checks
read-refused bytes place r e = ap (λ (o : Opened). step_of (kept_bytes o bytes) place) e
