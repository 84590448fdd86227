-- The answer of framing and the lent bytes after the call, for every input, and its numbers for each case (R42, R43, R26).
-- Definitions only.
use Rattle.std.specs.Prelude.{ℕ, List, ◌++◌, ℤ, length, drop, Result, Ok, Err}
use Rattle.packed.specs.declared.Refusal.{Refusal}
use Rattle.packed.specs.Judge.{Verdict, fine, refused, judge}
use Rattle.frames.specs.Frames.{frame_of, frame_bytes, frame_checks}
use Rattle.framing.specs.declared.FrameOrder.{FrameOrder}

-- What framing answers: a refusal, or the order that was written.
abbrev pub Framed : Type 0
Framed = Result FrameOrder Refusal

-- The answer for a verdict on repeating jobs: the bytes of the order of one frame, and the frame.
abbrev pub framed_by : List ℤ → Verdict → Framed
framed_by zs fine = Ok (record { bytes = length (frame_bytes zs); frame = frame_of zs })
framed_by zs (refused r) = Err r

-- The lent bytes after the call: with no refusal the packed order stands in front, and the rest stays.
abbrev pub order_by : List ℤ → List ℕ → Verdict → List ℕ
order_by zs order fine = frame_bytes zs ++ drop (length (frame_bytes zs)) order
order_by zs order (refused r) = order

-- Both, of any numbers: the answer with room for so many bytes,
abbrev pub framed_of : List ℤ → ℕ → Framed
framed_of zs room = framed_by zs (judge (frame_checks zs room))

-- and the bytes that were lent.
abbrev pub order_after : List ℤ → List ℕ → List ℕ
order_after zs order = order_by zs order (judge (frame_checks zs (length order)))

-- The bytes written, 0 where it refuses,
abbrev pub bytes_written : Framed → ℕ
bytes_written (Err r) = 0
bytes_written (Ok f) = f.bytes

-- and the frame.
abbrev pub frame_told : Framed → ℕ
frame_told (Err r) = 0
frame_told (Ok f) = f.frame
