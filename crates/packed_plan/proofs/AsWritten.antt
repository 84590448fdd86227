-- R37 by hand, as computed facts: P1's plan and the least and the greatest start, both ways; which jobs a mask keeps; and checks 14 and 15,
-- each condition on both sides.
use Rattle.std.specs.Prelude.{ℕ, ◌≡◌, refl, true, false, List, [], ◌∷◌, map, pos, negsuc}
use Rattle.std.specs.Int.Count.{ones}
use Rattle.seconds.specs.Twos.{bits_to, to_bits}
use Rattle.packed.specs.Layout.{decode, encode, number_of, bytes_of}
use Rattle.packed.specs.Places.{each}
use Rattle.packed.specs.Judge.{plainly, Verdict, fine, refused, judge}
use Rattle.packed_plan.specs.Plan.{plan_number, pack_plan, starts_kept, mask_in, count_in, plan_fields, starts_in, pad_in, kept_at, kept_in, sent_checks}

-- ---- both ways

-- P1's plan after the rest: four starts, 15 bytes.
abbrev p1 : List ℕ
p1 = 216 ∷ 0 ∷ 0 ∷ 0 ∷ 0 ∷ 0 ∷ 255 ∷ 106 ∷ 63 ∷ 250 ∷ 96 ∷ 3 ∷ 132 ∷ 1 ∷ 84 ∷ []

pub p1-plan : pack_plan 237494511599616 (negsuc 599 ∷ negsuc 89 ∷ pos 225 ∷ pos 340 ∷ []) ≡ p1
unfolding pack_plan plan_number encode bytes_of to_bits
p1-plan = refl

-- The least and the greatest start, four bits of padding.
pub ends-plan : pack_plan 175921860444160 (negsuc 131071 ∷ pos 131071 ∷ [])
    ≡ 160 ∷ 0 ∷ 0 ∷ 0 ∷ 0 ∷ 0 ∷ 128 ∷ 0 ∷ 31 ∷ 255 ∷ 240 ∷ []
unfolding pack_plan plan_number encode bytes_of to_bits
ends-plan = refl

pub ends_read : plan_fields 2 (160 ∷ 0 ∷ 0 ∷ 0 ∷ 0 ∷ 0 ∷ 128 ∷ 0 ∷ 31 ∷ 255 ∷ 240 ∷ [])
    ≡ pos 175921860444160 ∷ negsuc 131071 ∷ pos 131071 ∷ pos 0 ∷ []
unfolding plan_fields decode number_of bits_to
ends_read = refl

-- Of the starts in place order only those of the jobs kept are written.
pub starts-kept : starts_kept (negsuc 599 ∷ pos 200000 ∷ pos 199999 ∷ []) ≡ negsuc 599 ∷ pos 199999 ∷ []
starts-kept = refl

-- ---- which jobs are kept

-- The highest of 48 bits is that of place 0, the lowest that of place 47.
pub kept-places : map (kept_at 0x800000000002) (0 ∷ 1 ∷ 45 ∷ 46 ∷ 47 ∷ []) ≡ true ∷ false ∷ false ∷ true ∷ false ∷ []
kept-places = refl

-- P1's plan leaves out the third of five jobs.
pub p1-kept : kept_in 5 p1 ≡ true ∷ true ∷ false ∷ true ∷ true ∷ []
unfolding kept_in each mask_in number_of
p1-kept = refl

-- ---- a plan with bits at places 40 to 47 alone, in its sixth byte, against so many jobs

abbrev sent : ℕ → List ℕ → List ℕ
sent kept starts = 0 ∷ 0 ∷ 0 ∷ 0 ∷ 0 ∷ kept ∷ starts

abbrev judged : ℕ → List ℕ → Verdict
judged n plan = judge (sent_checks n plan)

-- Each one in the mask asks for a start of its own, read from its place on.
pub starts-read : starts_in (sent 3 (128 ∷ 0 ∷ 31 ∷ 255 ∷ 240 ∷ [])) ≡ negsuc 131071 ∷ pos 131071 ∷ []
unfolding starts_in count_in mask_in plan_fields decode number_of bits_to ones
starts-read = refl

-- 14: five bytes, and six; a start for one in the mask, with a byte too few and one too many; four starts, with no padding; and a one
-- beyond the jobs that has no start, which is not 15.
pub by_length :
    judged 48 (0 ∷ 0 ∷ 0 ∷ 0 ∷ 0 ∷ []) ∷ judged 48 (sent 0 [])
    ∷ judged 48 (sent 1 (0 ∷ 0 ∷ [])) ∷ judged 48 (sent 1 (0 ∷ 0 ∷ 0 ∷ [])) ∷ judged 48 (sent 1 (0 ∷ 0 ∷ 0 ∷ 0 ∷ []))
    ∷ judged 48 (sent 15 (0 ∷ 0 ∷ 0 ∷ 0 ∷ 0 ∷ 0 ∷ 0 ∷ 0 ∷ 0 ∷ []))
    ∷ judged 47 (sent 1 [])
    ∷ []
    ≡ refused (plainly 14) ∷ fine
    ∷ refused (plainly 14) ∷ fine ∷ refused (plainly 14)
    ∷ fine
    ∷ refused (plainly 14)
    ∷ []
unfolding sent_checks pad_in count_in mask_in plan_fields decode number_of bits_to ones
by_length = refl

-- 15: the last of 48 jobs kept, and the same against 47; the one before it; against no jobs; and of the six bits at the end none set, the
-- highest and the lowest, behind a start of 1, -1 and 0.
pub by-zeros :
    judged 48 (sent 1 (0 ∷ 0 ∷ 0x40 ∷ [])) ∷ judged 47 (sent 1 (0 ∷ 0 ∷ 0x40 ∷ []))
    ∷ judged 47 (sent 2 (0xFF ∷ 0xFF ∷ 0xC0 ∷ [])) ∷ judged 0 (sent 2 (0xFF ∷ 0xFF ∷ 0xC0 ∷ []))
    ∷ judged 48 (sent 1 (0xFF ∷ 0xFF ∷ 0xE0 ∷ [])) ∷ judged 48 (sent 1 (0 ∷ 0 ∷ 0x01 ∷ []))
    ∷ []
    ≡ fine ∷ refused (plainly 15)
    ∷ fine ∷ refused (plainly 15)
    ∷ refused (plainly 15) ∷ refused (plainly 15)
    ∷ []
unfolding sent_checks pad_in count_in mask_in plan_fields decode number_of bits_to ones
by-zeros = refl
