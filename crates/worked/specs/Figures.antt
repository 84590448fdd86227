-- The figures of the rules, each beside the name that the definitions have for it; and the refusals of each call by number, in
-- the sequence in which they are judged. One statement holds of each whole list, by computation.
use Rattle.std.specs.Prelude.{ℕ, ◌*◌, ◌≡◌, List, [], ◌∷◌, map, ℤ, pos, negsuc}
use Rattle.std.proofs.Math.Path.{refl}
use Rattle.seconds.specs.Limits.{rest, earliest, latest, latest_free, highest_number, highest_pack, longest, heaviest, most_weight, most_jobs}
use Rattle.seconds.specs.Limits.{most_points, left_out, coldest, highest_half, halves_apart, seconds_per_weight, most_repeating, longest_frame}
use Rattle.order.specs.Choice.{mask}
use Rattle.packed.specs.Layout.{widths, header_layout, job_layout, header_bytes, record_bytes, job_numbers}
use Rattle.packed.specs.Judge.{Check}
use Rattle.packed.specs.Refusals.{header_checks, list_checks, job_checks, weight_checks, halves_checks, unpack_checks, pack_checks}
use Rattle.frames.specs.Frames.{repeating_numbers, given_checks, made_checks, frame_checks}
use Rattle.profiles.specs.Numbers.{most_numbers}
use Rattle.area.specs.Area.{row_size, area}
use Rattle.reader.specs.Reading.{step_checks}
use Rattle.extending.specs.Calls.{extend_judged, extend_checks}
use Rattle.planner.specs.Calls.{plan_checks}
use Rattle.halves.specs.Calls.{plan_halves_checks}
use Rattle.packed_plan.specs.Plan.{mask_bits, mask_bytes, start_bits, pad_bits, sent_checks}
use Rattle.plan_writer.specs.Calls.{plan_room, write_checks}
use Rattle.checking.specs.Calls.{legal_checks}
use Rattle.best_plan.specs.Calls.{best_checks}
use Rattle.choosing.specs.Choosing.{choosing_checks}
use Rattle.planner.specs.Calls.{longest_order}
use Rattle.sheet.specs.Sheet.{sum_count, figure_count, most_orders, greatest_top}
use Rattle.streams.specs.Entries.{said}
use Rattle.streams.specs.Stream.{front_room, feed_count}
use Rattle.sheet_text.specs.SheetText.{sheet_room}

-- ---- names and figures

pub record Figure : Type 0 where
  pub named : ℤ
  pub figure : ℤ

abbrev is : ℤ → ℤ → Figure
is named figure = record { named = named; figure = figure }

abbrev pub figures : List Figure
figures =
    -- R2: times, numbers, lengths and weights of jobs
    is earliest (negsuc 99999)
    ∷ is latest (pos 100000)
    ∷ is (pos highest_number) (pos 63)
    ∷ is (pos highest_pack) (pos 255)
    ∷ is (pos longest) (pos 10000)
    ∷ is (pos heaviest) (pos 50)
    -- R3: jobs of an order, and their weights together
    ∷ is (pos most_jobs) (pos 48)
    ∷ is (pos most_weight) (pos 300)
    -- R5, R11: the rest after a job, and the latest bus-free time: a rest after the latest deadline
    ∷ is (pos rest) (pos 15)
    ∷ is latest_free (pos 100015)
    -- R8: place 0 has the highest of 64 bits
    ∷ is (pos (mask (1 ∷ []))) (pos 9223372036854775808)
    -- R10: the start of a job left out
    ∷ is left_out (pos 200000)
    -- R11, R25: points of a profile, and its numbers
    ∷ is (pos most_points) (pos 301)
    ∷ is (pos most_numbers) (pos 602)
    -- R20: the coldest cell
    ∷ is coldest (negsuc 29)
    -- R21, R22: bytes of a header and of a job of each kind, numbers of a job
    ∷ is (pos header_bytes) (pos 4)
    ∷ is (pos (record_bytes 0)) (pos 8)
    ∷ is (pos (record_bytes 1)) (pos 9)
    ∷ is (pos job_numbers) (pos 7)
    -- R24, R32: the most numbers, and the most bytes, that an order has
    ∷ is (pos (job_numbers * most_jobs)) (pos 336)
    ∷ is (pos longest_order) (pos 436)
    -- R29: the numbers of a row, and of the work area
    ∷ is (pos row_size) (pos 301)
    ∷ is (pos area) (pos 14749)
    -- R34: the highest critical half, how far above it its optional half is, and the seconds for each weight
    ∷ is (pos highest_half) (pos 31)
    ∷ is (pos halves_apart) (pos 32)
    ∷ is (pos seconds_per_weight) (pos 60)
    -- R37: the bits and bytes of a packed plan's mask, the bits of a start, the bytes of the longest plan, and the bits at the end after one
    -- start, two, three and four
    ∷ is (pos mask_bits) (pos 48)
    ∷ is (pos mask_bytes) (pos 6)
    ∷ is (pos start_bits) (pos 18)
    ∷ is (pos plan_room) (pos 114)
    ∷ is (pos (pad_bits 1)) (pos 6)
    ∷ is (pos (pad_bits 2)) (pos 4)
    ∷ is (pos (pad_bits 3)) (pos 2)
    ∷ is (pos (pad_bits 4)) (pos 0)
    -- R24, R41, R42: the numbers of the most repeating jobs, and the longest frame
    ∷ is (pos (repeating_numbers * most_repeating)) (pos 96)
    ∷ is (pos longest_frame) (pos 86400)
    -- R46, R49: the sums and the figures of a sheet, its most orders, and the greatest of the figure that is a point total and 1
    ∷ is (pos sum_count) (pos 24)
    ∷ is (pos figure_count) (pos 26)
    ∷ is (pos most_orders) (pos 10000)
    ∷ is (pos greatest_top) (pos 14449)
    -- R47: the bytes of the longest text
    ∷ is (pos sheet_room) (pos 336)
    -- R48: the bytes of the longest entry, and the numbers and bytes that are held of a stream
    ∷ is (pos (said 255 255)) (pos 65535)
    ∷ is (pos feed_count) (pos 29)
    ∷ is (pos front_room) (pos 437)
    ∷ []

-- Every name stands for its figure.
pub figures-hold : map (λ (f : Figure). f.named) figures ≡ map (λ (f : Figure). f.figure) figures
unfolding rest record_bytes longest_order
figures-hold = refl

-- R21: the bits of each field of the header and of a job of each kind.
pub header-bits : widths header_layout ≡ 6 ∷ 18 ∷ 8 ∷ []
header-bits = refl

pub job-bits : widths (job_layout 0) ≡ 6 ∷ 0 ∷ 1 ∷ 7 ∷ 18 ∷ 14 ∷ 18 ∷ []
job-bits = refl

pub packed-job-bits : widths (job_layout 1) ≡ 6 ∷ 8 ∷ 1 ∷ 7 ∷ 18 ∷ 14 ∷ 18 ∷ []
packed-job-bits = refl

-- ---- the refusals of each call (R25), whatever it is asked

abbrev numbers : List Check → List ℕ
numbers cs = map (λ (c : Check). c.says.number) cs

pub record Judged : Type 0 where
  pub checks : List Check
  pub refusals : List ℕ

module _ (bytes other : List ℕ) (t0 : ℤ) (profile given out work : List ℤ) (place room : ℕ) where
  abbrev pub judged : List Judged
  judged =
      -- unpack, pack
      record { checks = unpack_checks bytes room; refusals = 1 ∷ 2 ∷ 3 ∷ 4 ∷ 5 ∷ 19 ∷ 6 ∷ 7 ∷ 9 ∷ 10 ∷ [] }
      ∷ record { checks = pack_checks t0 given room; refusals = 3 ∷ 4 ∷ 5 ∷ 6 ∷ 7 ∷ 9 ∷ 10 ∷ [] }
      -- frame
      ∷ record { checks = frame_checks given room; refusals = 3 ∷ 4 ∷ 16 ∷ 17 ∷ 3 ∷ 9 ∷ 10 ∷ [] }
      -- the reader: open, step
      ∷ record { checks = header_checks bytes; refusals = 1 ∷ 2 ∷ 3 ∷ 4 ∷ 5 ∷ 19 ∷ [] }
      ∷ record { checks = step_checks bytes place; refusals = 1 ∷ 2 ∷ 3 ∷ 4 ∷ 5 ∷ 19 ∷ 6 ∷ [] }
      -- extend, plan and planning halves, with two rooms each
      ∷ record {
        checks = extend_checks profile bytes out work;
        refusals = 1 ∷ 2 ∷ 3 ∷ 4 ∷ 5 ∷ 19 ∷ 6 ∷ 7 ∷ 8 ∷ 9 ∷ 10 ∷ 10 ∷ [];
      }
      ∷ record { checks = plan_checks bytes out work; refusals = 1 ∷ 2 ∷ 3 ∷ 4 ∷ 5 ∷ 19 ∷ 6 ∷ 7 ∷ 9 ∷ 10 ∷ 10 ∷ [] }
      ∷ record { checks = plan_halves_checks bytes out work; refusals = 1 ∷ 2 ∷ 3 ∷ 4 ∷ 5 ∷ 19 ∷ 6 ∷ 7 ∷ 9 ∷ 13 ∷ 10 ∷ 10 ∷ [] }
      -- writing a plan, with two rooms; legal, and best
      ∷ record { checks = write_checks bytes other work; refusals = 1 ∷ 2 ∷ 3 ∷ 4 ∷ 5 ∷ 19 ∷ 6 ∷ 7 ∷ 9 ∷ 10 ∷ 10 ∷ [] }
      ∷ record { checks = legal_checks bytes other; refusals = 1 ∷ 2 ∷ 3 ∷ 4 ∷ 5 ∷ 19 ∷ 6 ∷ 7 ∷ 9 ∷ 14 ∷ 15 ∷ [] }
      ∷ record { checks = best_checks bytes other work; refusals = 1 ∷ 2 ∷ 3 ∷ 4 ∷ 5 ∷ 19 ∷ 6 ∷ 7 ∷ 9 ∷ 14 ∷ 15 ∷ 10 ∷ [] }
      -- choosing, with two orders
      ∷ record {
        checks = choosing_checks bytes other work;
        refusals = 1 ∷ 2 ∷ 3 ∷ 4 ∷ 5 ∷ 19 ∷ 6 ∷ 7 ∷ 9 ∷ 1 ∷ 2 ∷ 3 ∷ 4 ∷ 5 ∷ 19 ∷ 6 ∷ 7 ∷ 9 ∷ 10 ∷ [];
      }
      ∷ []

  -- Each call judges these, in this sequence.
  pub judged-hold : map (λ (j : Judged). numbers j.checks) judged ≡ map (λ (j : Judged). j.refusals) judged
  unfolding header_checks list_checks job_checks weight_checks halves_checks extend_judged extend_checks plan_checks plan_halves_checks
      sent_checks write_checks legal_checks best_checks choosing_checks given_checks made_checks
  judged-hold = refl
