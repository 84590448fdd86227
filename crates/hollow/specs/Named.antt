-- The inputs at which hollow versions are tried: P1, P2, P4 and P9 of the rules, plans of P1 and P4, the README's order of halves and its
-- refused one, with lent buffers that hold a 1 everywhere, so that what is written or cleared shows. Definitions only.
use Rattle.std.specs.Prelude.{ℕ, Bool, List, [], ◌∷◌, ◌++◌, ℤ, pos, negsuc, get_or, set, take, replicate}
use Rattle.std.specs.Borrow.{Bor}
use Rattle.packed.specs.Packed.{numbers_of}
use Rattle.worked.specs.Frames.{checks}
use Rattle.profiles.specs.Numbers.{most_numbers}
use Rattle.point_records.specs.declared.Point.{Point}
use Rattle.area.specs.Area.{area}
use Rattle.reader_struct.specs.declared.Reader.{Reader}
use Rattle.report.specs.Report.{text_room}
use Rattle.report.specs.AsPrinted.{morning_bytes}
use Rattle.plan_writer.specs.Calls.{plan_room}
use Rattle.streams.specs.Stream.{front_room}
use Rattle.sheet_text.specs.SheetText.{sheet_room}
use Rattle.worked.specs.Halves.{two_checks}
use Rattle.worked.specs.Plans.{keeping}
use Rattle.worked.specs.Week.{week_figures}
use Rattle.hollow.specs.Promises.{PlanInput, ExtendInput, BestInput, WriteInput, AskInput}
use Rattle.hollow.specs.Promises.{AddInput, FeedInput, TellInput}

-- ---- lent buffers

-- So many ones. Shut: the work area is never written out.
unfoldable pub ones : ℕ → List ℤ
ones n = replicate n (pos 1)

-- The number in front of a buffer.
abbrev pub front : List ℤ → ℤ
front l = get_or l 0 (pos 0)

-- Room for a profile, and for the work area.
abbrev pub room : List ℤ
room = ones most_numbers

abbrev pub work_area : List ℤ
work_area = ones area

-- ---- orders, plans and profiles

-- P4: one critical job, ready at 0, of 10 seconds and with the deadline 10; the bus is free at 0.
abbrev pub one_job_bytes : List ℕ
one_job_bytes = 0x04 ∷ 0x00 ∷ 0x00 ∷ 0x00 ∷ 0x02 ∷ 0x00 ∷ 0x00 ∷ 0x00 ∷ 0x00 ∷ 0x28 ∷ 0x00 ∷ 0x0A ∷ []

-- P4 for pack 3, so of kind 1.
abbrev pub one_pack_bytes : List ℕ
one_pack_bytes = 0x04 ∷ 0x00 ∷ 0x00 ∷ 0x01 ∷ 0x00 ∷ 0x0E ∷ 0x00 ∷ 0x00 ∷ 0x00 ∷ 0x00 ∷ 0x28 ∷ 0x00 ∷ 0x0A ∷ []

-- P1 with a length of 10,001 for the job at place 2.
abbrev pub refused_bytes : List ℕ
refused_bytes = set (set morning_bytes 24 0x9C) 25 0x44

-- P4's plan: its job is kept, and starts at 0.
abbrev pub one_job_plan : List ℕ
one_job_plan = keeping 0x80 (pos 0 ∷ [])

-- The profile (-600, 0), which P1 extends to its own.
abbrev pub start : List ℤ
start = negsuc 599 ∷ pos 0 ∷ []

-- Bytes that stand at the beginning of a block of memory.
abbrev pub block : ℕ → List ℕ → Bor (List ℕ)
block b bytes = record { ref_ptr = (b, 0); now = bytes }

-- A point record.
abbrev point : ℕ → ℕ → Point
point t w = record { time = pos t; weight = pos w }

-- ---- what the calls are given

-- Planning P1, the refused order, and P4.
abbrev pub plan_morning : PlanInput
plan_morning = (morning_bytes, ones 5, work_area)

abbrev pub plan_refused : PlanInput
plan_refused = (refused_bytes, ones 5, work_area)

abbrev pub plan_one_job : PlanInput
plan_one_job = (one_job_bytes, ones 1, work_area)

-- Planning the README's order of halves; P4 is one too.
abbrev pub halves_checked : PlanInput
halves_checked = (two_checks, ones 4, work_area)

-- Extending by P1, and by P4.
abbrev pub extend_morning : ExtendInput
extend_morning = (start, morning_bytes, room, work_area)

abbrev pub extend_one_job : ExtendInput
extend_one_job = (start, one_job_bytes, room, work_area)

-- Better-of as in P9, and with nothing for the first.
abbrev pub join_two : List ℤ × List ℤ × List ℤ
join_two = (pos 0 ∷ pos 0 ∷ pos 20 ∷ pos 7 ∷ [], pos 5 ∷ pos 7 ∷ [], room)

abbrev pub join_one : List ℤ × List ℤ × List ℤ
join_one = ([], pos 5 ∷ pos 7 ∷ [], room)

-- Lookups in P2's profile, as numbers and as records.
abbrev pub lookup_at : ℤ → List ℤ × ℤ
lookup_at t = (pos 215 ∷ pos 0 ∷ pos 330 ∷ pos 15 ∷ pos 340 ∷ pos 20 ∷ pos 445 ∷ pos 30 ∷ pos 455 ∷ pos 35 ∷ [], t)

abbrev pub lookup_records_at : ℤ → List Point × ℤ
lookup_records_at t = (point 215 0 ∷ point 330 15 ∷ point 340 20 ∷ point 445 30 ∷ point 455 35 ∷ [], t)

-- Unpacking P1, and P4; and packing them again.
abbrev pub unpack_morning : List ℕ × List ℤ
unpack_morning = (morning_bytes, ones 35)

abbrev pub unpack_one_job : List ℕ × List ℤ
unpack_one_job = (one_job_bytes, ones 7)

abbrev pub pack_morning : ℤ × List ℤ × List ℕ
pack_morning = (negsuc 599, numbers_of morning_bytes, replicate 44 1)

abbrev pub pack_one_job : ℤ × List ℤ × List ℕ
pack_one_job = (pos 0, numbers_of one_job_bytes, replicate 12 1)

-- Framing a pump's and a fan's check, and no jobs.
abbrev pub frame_checks : List ℤ × List ℕ
frame_checks = (checks, replicate 44 1)

abbrev pub frame_nothing : List ℤ × List ℕ
frame_nothing = ([], replicate 4 1)

-- A reader over P1's bytes at a place.
abbrev pub reader_at : ℕ → Reader
reader_at place = record { bytes = block 0 morning_bytes; place = place }

-- The text for P1, and for P4, on an empty page.
unfoldable pub page : List ℕ
page = replicate text_room 1

-- Two openings, P1 and P4 for pack 3, at a time: P4 has a point long before P1, which has the heavier one in the end.
abbrev pub ask_at : ℤ → AskInput
ask_at t = (morning_bytes, one_pack_bytes, t, work_area)

-- The same openings in two blocks.
abbrev pub choose_at : ℤ → Bor (List ℕ) × Bor (List ℕ) × ℤ × List ℤ
choose_at t = (block 0 morning_bytes, block 1 one_pack_bytes, t, work_area)

-- Asking whether a plan is best for P1, and for P4.
abbrev pub best_morning : List ℕ → BestInput
best_morning plan = (morning_bytes, plan, work_area)

abbrev pub best_one_job : List ℕ → BestInput
best_one_job plan = (one_job_bytes, plan, work_area)

-- Writing the plan of P1, and of P4, over ones.
abbrev pub plan_page : List ℕ
plan_page = replicate plan_room 1

abbrev pub write_morning : WriteInput
write_morning = (morning_bytes, plan_page, work_area)

abbrev pub write_one_job : WriteInput
write_one_job = (one_job_bytes, plan_page, work_area)

-- ---- what the calls of sheets are given

-- The sheet of so many entries of no bytes, which are refused with 1; and figures that no sheet has, an order neither refused nor feasible.
abbrev pub empties : ℕ → List ℕ
empties n = n ∷ n ∷ replicate 24 0

abbrev pub no_sheets : List ℕ
no_sheets = 1 ∷ replicate 25 0

-- One sheet behind another.
abbrev pub join_sheets : ℕ → ℕ → List ℕ × List ℕ
join_sheets a b = (empties a, empties b)

-- An order more on a sheet of entries of no bytes.
abbrev pub add_to : ℕ → List ℕ → AddInput
add_to n bytes = (empties n, bytes, work_area)

-- What is held of a stream of so many of them, at an edge; and a piece fed to it.
abbrev pub held_at : List ℕ → List ℕ
held_at figures = figures ++ (0 ∷ 0 ∷ 0 ∷ [])

abbrev pub front_page : List ℕ
front_page = replicate front_room 1

abbrev pub feed_to : ℕ → List ℕ → FeedInput
feed_to n piece = (held_at (empties n), front_page, piece, work_area)

-- One more of them, and the first byte of two of another entry.
abbrev pub one_piece : List ℕ
one_piece = 0 ∷ 0 ∷ 0 ∷ 2 ∷ 7 ∷ []

-- The last byte of P4, where 11 of 12 bytes have come, and these are the front.
abbrev pub feed_last : List ℕ → FeedInput
feed_last front = (empties 0 ++ (2 ∷ 12 ∷ 11 ∷ []), front, 0x0A ∷ [], work_area)

abbrev pub one_job_front : List ℕ
one_job_front = take 11 one_job_bytes ++ replicate 426 1

-- The text of figures, cut or whole, on an empty page.
abbrev pub tell_of : List ℕ → Bool → TellInput
tell_of figures cut = (figures, cut, replicate sheet_room 1)

abbrev pub tell_week : Bool → TellInput
tell_week cut = tell_of week_figures cut
