-- Laws of writing through a writer: two writings one after the other are one.
use Rattle.std.specs.Prelude.{ℕ, ◌+◌, ◌≤◌, refl, List, [], ◌++◌, length, ℤ}
use Rattle.std.proofs.Common.{◌∙◌, arith, SFits, to_z, of_z, to_z-of_z}
use Rattle.std.specs.Int.{w32}
use Rattle.text.specs.Decimal.{figure}
use Rattle.text.specs.BufferLaws.{wrote_none, wrote-more}
use Rattle.text.specs.Writing.{Writes}
use Rattle.text.specs.declared.Writer.{Writer}

pub writes-more : {text more : List ℕ} {few most : ℕ} {a b c : Writer} → Writes text few a b → Writes more most b c
    → Writes (text ++ more) (few + most) a c
writes-more w v = record { wrote = wrote-more w.wrote v.wrote; few = omega (arith, w.few, v.few); same = v.same ∙ w.same }

-- Text of at most so many bytes is of at most more.
pub writes-wider : {text : List ℕ} {few most : ℕ} {a b : Writer} → few ≤ most → Writes text few a b → Writes text most a b
writes-wider h w = record { wrote = w.wrote; few = omega (arith, w.few); same = w.same }

-- No text yet.
pub writes-none : {w : Writer} → w.at ≤ length w.out.now → Writes [] 0 w w
writes-none h = record { wrote = wrote_none h; few = omega arith; same = refl }

-- A caller hears of a signed number through its bits: here of the number itself.
pub writes-number : {most : ℕ} {z : ℤ} {a b : Writer} → SFits w32 z → Writes (figure (to_z w32 (of_z w32 z))) most a b → Writes (figure z) most a b
writes-number f w = rw (to_z-of_z f) at w
