-- What the calls over a reader give: the answer, and the reader, by the memory and the bytes that it stands over and by its
-- place. Definitions only.
use Rattle.std.specs.Prelude.{ℕ, List, [], Ok, Err}
use Rattle.std.specs.Borrow.{Bor}
use Rattle.reader.specs.Reading.{Opened, open_of, step_of}
use Rattle.reader_struct.specs.declared.Reader.{Reader}
use Rattle.reader_struct.specs.declared.Stepped.{Stepped}
use Rattle.reader_struct.specs.declared.Reading.{Reading}

-- All that can be seen of a reader: where its bytes lie (block and offset), what they are, and its place.
pub record Seen : Type 0 where
  pub memory : ℕ × ℕ
  pub bytes : List ℕ
  pub place : ℕ

-- It, of a reader.
abbrev pub seen : Reader → Seen
seen r = record { memory = r.bytes.ref_ptr; bytes = r.bytes.now; place = r.place }

-- The bytes that an opened reader stands over: all of them if they were accepted, else none.
abbrev pub kept_bytes : Opened → List ℕ → List ℕ
kept_bytes (Ok count) bytes = bytes
kept_bytes (Err r) bytes = []

-- A reader opened over a slice: it begins where the slice begins.
abbrev pub begun_over : Bor (List ℕ) → Seen
begun_over slice = record { memory = slice.ref_ptr; bytes = kept_bytes (open_of slice.now) slice.now; place = 0 }

-- A step: the same slice, and the answer and the place of the step over its bytes.
abbrev pub stepped_of : Reader → Stepped
stepped_of r =
    record {
      reader = record { bytes = r.bytes; place = (step_of r.bytes.now r.place).place };
      answer = (step_of r.bytes.now r.place).answer;
    }

-- Opening over bytes, and a step from a place over what was kept of them.
abbrev pub read_at : List ℕ → ℕ → Reading
read_at bytes place = record { opened = open_of bytes; moved = step_of (kept_bytes (open_of bytes) bytes) place }
