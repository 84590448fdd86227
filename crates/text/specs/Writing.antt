-- Writing through a writer: the room that a call wants, and what it leaves. Definitions only.
use Rattle.std.specs.Prelude.{ℕ, ◌+◌, ◌≤◌, ◌≡◌, List, length}
use Rattle.text.specs.Buffer.{Wrote}
use Rattle.text.specs.declared.Writer.{Writer}

-- There is room for so many bytes more.
pub record Room (bytes : ℕ) (w : Writer) : Type 0 where
  pub fits : w.at + bytes ≤ length w.out.now

-- Text of at most so many bytes was written behind what was there, into the same buffer.
pub record Writes (text : List ℕ) (most : ℕ) (before after : Writer) : Type 0 where
  pub wrote : Wrote before.out.now before.at text after.out.now after.at
  pub few : after.at ≤ before.at + most
  pub same : after.out.ghost_name ≡ before.out.ghost_name
