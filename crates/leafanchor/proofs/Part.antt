-- The choice for C and the choice that hands a part back agree: the part is what the offset and the length of the numbers
-- say, in the winner's bytes; and offset and length stay within these bytes.
use Prim.Native.Nat.{ℕ, ◌+◌, ◌≤◌}
use mathlib.Core.Path.{◌≡◌, refl, sym, ap, ◌∙◌}
use mathlib.Core.Bool.{cond}
use mathlib.Core.List.{List}
use Rattle.std.specs.Prelude.{Ok, Err}
use native.Mathlib.Omega.{arith}
use contract.Lifetimes.{Lfts}
use denote.Ref.{Bor}
use lib.Dec.{eqb}
use lib.IntN.{ℤ}
use lib.ListN.{length, take, drop}
use borrow.Author.Rules.{part_to_end}
use Rattle.packed.specs.Layout.{header_bytes}
use Rattle.ties.specs.Winning.{Chosen, TieRule, sooner, to_first}
use Rattle.ties.specs.declared.Winner.TheVariants.{First, Second}
use Rattle.choosing.specs.Choosing.{chosen_of, Asked, Handed, work_after, part_of, place_of, winner_of}
use Rattle.choosing.proofs.ChoosingLaws.{headers-there}
use Rattle.openings.specs.Answer.{chosen_in, answer_of}
use Rattle.openings.specs.AnswerLaws.{chosen-told}
use Rattle.openings.proofs.Inputs.{Given, work_in}
use Rattle.openings.proofs.choose.Reads as handing
use Rattle.openings.proofs.choose_first.Reads as handing-first
use Rattle.opening_answers.specs.Numbers.{offset_of, length_chosen, choose_numbers}
use Rattle.opening_answers.specs.declared.ChooseAnswer.{ChooseAnswer}
use Rattle.leafanchor.proofs.leafanchor_choose.Reads as choose
use Rattle.leafanchor.proofs.leafanchor_choose_first.Reads as choose-first

-- The opening that a winner's number names: 2 is the second; 1, and 0 where refused, the first.
abbrev named : {X : Type 0} → ℕ → X → X → X
named n first second = cond (eqb n 2) second first

-- The place so many bytes on; a place is a block of memory and how far into it.
abbrev on_by : ℕ → ℕ × ℕ → ℕ × ℕ
on_by n place = (place.0, n + place.1)

-- A part is the one that some numbers say, of two openings.
pub record IsPart (r : ChooseAnswer) (first second part : Bor (List ℕ)) : Type 0 where
  pub bytes : part.now ≡ take r.length (drop r.offset (named r.winner first.now second.now))
  pub place : part.ref_ptr ≡ on_by r.offset (named r.winner first.ref_ptr second.ref_ptr)

-- So is the part of each answer of the question.
bytes-said : (c : Chosen) (first second : List ℕ)
    → part_of c first second ≡ take (length_chosen c (length first) (length second)) (drop (offset_of c) (named (winner_of c) first second))
bytes-said (Err r) first second = refl
bytes-said (Ok First) first second = sym (part_to_end first header_bytes)
bytes-said (Ok Second) first second = sym (part_to_end second header_bytes)

place-said : (c : Chosen) (first second : ℕ × ℕ) → place_of c first second ≡ on_by (offset_of c) (named (winner_of c) first second)
place-said (Err r) first second = let e : first.1 ≡ 0 + first.1 = omega arith in ap (λ (o : ℕ). (first.0, o)) e
place-said (Ok First) first second = refl
place-said (Ok Second) first second = refl

module _ (rule : TieRule) (first second : Bor (List ℕ)) (t : ℤ) (work : List ℤ) where
  -- Who wins, as the definitions say it, and the numbers.
  abbrev won : Chosen
  won = chosen_of rule first.now second.now t work

  abbrev numbers : ChooseAnswer
  numbers = choose_numbers (answer_of rule first.now second.now t work) (length first.now) (length second.now)

  told : chosen_in (answer_of rule first.now second.now t work) ≡ won
  told = chosen-told first.now second.now won

  asked : Asked rule first.now second.now t work won (work_after rule first.now second.now t work)
  asked = record { answer = refl; area = refl }

  -- What is handed back by a tie rule is the part that the numbers by it say.
  is-part : {r : ChooseAnswer} {part : Bor (List ℕ)} {work' : List ℤ}
      → r ≡ numbers → Handed rule first second t work part work' → IsPart r first second part
  is-part e h =
      let bytes = h.bytes ∙ bytes-said won first.now second.now in
      let place = h.place ∙ place-said won first.ref_ptr second.ref_ptr in
      rw (e, told) (record { bytes = bytes; place = place })

  -- Offset and length stay within the bytes of the winner, for a winner has a header; they are 0 if refused.
  within : (c : Chosen) → won ≡ c
      → offset_of c + length_chosen c (length first.now) (length second.now) ≤ length (named (winner_of c) first.now second.now)
  within (Err r) e = omega arith
  within (Ok First) e = let h = headers-there rule first second t work asked e in omega arith
  within (Ok Second) e = let h = headers-there rule first second t work asked e in omega arith

  inside : numbers.offset + numbers.length ≤ length (named numbers.winner first.now second.now)
  inside = rw told (within won refl)

-- On the same inputs the part that is handed back is the one that the numbers say, and the work area is left the same.
module _ (κs : Lfts 3) (μs : Lfts 2) (a x y : Given) (r : ChooseAnswer) (part : Bor (List ℕ)) where
  pub part-handed : choose.Post κs a r x → handing.Post μs a part y
      → IsPart r a.0 a.1.0 part × (work_in y ≡ work_in x)
  part-handed h k =
      (is-part sooner a.0 a.1.0 a.1.1.0 (work_in a) h.0 k, k.area ∙ sym h.1)

  pub part-handed-first : choose-first.Post κs a r x → handing-first.Post μs a part y
      → IsPart r a.0 a.1.0 part × (work_in y ≡ work_in x)
  part-handed-first h k =
      (is-part to_first a.0 a.1.0 a.1.1.0 (work_in a) h.0 k, k.area ∙ sym h.1)

-- Offset and length stay within the winner's bytes in every answer of the calls.
abbrev Inside : ChooseAnswer → Given → Type 0
Inside r a = r.offset + r.length ≤ length (named r.winner a.0.now a.1.0.now)

pub part-inside : (κs : Lfts 3) (a x : Given) (r : ChooseAnswer) → choose.Post κs a r x → Inside r a
part-inside κs a x r h = rw h.0 (inside sooner a.0 a.1.0 a.1.1.0 (work_in a))

pub part-inside-first : (κs : Lfts 3) (a x : Given) (r : ChooseAnswer) → choose-first.Post κs a r x → Inside r a
part-inside-first κs a x r h = rw h.0 (inside to_first a.0 a.1.0 a.1.1.0 (work_in a))
