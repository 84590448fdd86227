-- The contract of each public call as a relation of its inputs and outcomes. Definitions only; that these relations are the
-- contracts of the code is shown in Generated.
use Rattle.std.specs.Prelude.{ℕ, ◌≡◌, refl, Bool, true, false, List, ◌++◌, eqb, ℤ, length, drop, Result, Ok, Err, is_err, ⊤}
use Rattle.std.specs.Borrow.{Bor}
use Rattle.refusals.specs.declared.Reason.{Reason}
use Rattle.profiles.specs.Answer.{Finding, lookup_of}
use Rattle.point_records.specs.Records.{flattened}
use Rattle.point_records.specs.declared.Point.{Point}
use Rattle.better.specs.Answer.{Joined, joined_of, out_after as joined_after}
use Rattle.unpack.specs.Answer.{unpack_of, numbers_after}
use Rattle.unpack.specs.declared.Unpacked.{Unpacked}
use Rattle.packed.specs.declared.Refusal.{Refusal}
use Rattle.pack.specs.Answer.{Packed, pack_of, bytes_after}
use Rattle.framing.specs.Answer.{Framed, framed_of, order_after}
use Rattle.reader.specs.Reading.{Opened, open_of, Read, step_of}
use Rattle.reader.specs.declared.Moved.{Moved}
use Rattle.reader_struct.specs.Standing.{Seen, begun_over, stepped_of, read_at}
use Rattle.reader_struct.specs.declared.Reader.{Reader}
use Rattle.reader_struct.specs.declared.Stepped.{Stepped}
use Rattle.reader_struct.specs.declared.Reading.{Reading}
use Rattle.heat.specs.Answer.{heating_of}
use Rattle.planner.specs.Calls.{Planned, planned_of, starts_after, plan_work_after, PlanCall}
use Rattle.extending.specs.Calls.{Extended, extended_of, out_after, extend_work_after, ExtendCall}
use Rattle.halves.specs.Calls.{HalvesPlanned, halves_of, halves_starts_after, halves_work_after, HalvesCall}
use Rattle.ties.specs.Winning.{TieRule}
use Rattle.choosing.specs.Choosing.{chosen_of, work_after, part_of, place_of, Handed}
use Rattle.openings.specs.Answer.{Answer, answer_of, Questioned}
use Rattle.checking.specs.Calls.{Checked, legal_of}
use Rattle.best_plan.specs.Calls.{best_of, best_work_after, BestCall}
use Rattle.plan_writer.specs.Calls.{written_of, out_after as written_after, write_work_after, WriteCall}
use Rattle.report.specs.Report.{printed}
use Rattle.sheet.specs.Sheet.{join_refusal, joined_after as sheet_after, JoinCall}
use Rattle.adding.specs.Calls.{add_refusal, add_after, add_work_after, AddCall}
use Rattle.feeding.specs.Calls.{feed_refusal, feed_after, front_after, feed_work_after, FeedCall}
use Rattle.sheet_text.specs.SheetText.{told_of, text_after, TellCall}
use Rattle.hollow.specs.Contract.{Contract, answering, writing, over}

-- ---- which answers are refusals

abbrev plan_refused : Planned → Bool
plan_refused (Err r) = true
plan_refused (Ok f) = false

abbrev halves_refused : HalvesPlanned → Bool
halves_refused (Err r) = true
halves_refused (Ok p) = false

abbrev extend_refused : Extended → Bool
extend_refused (Err r) = true
extend_refused (Ok n) = false

abbrev is_refused : {T E : Type 0} → Result T E → Bool
is_refused (Err r) = true
is_refused (Ok x) = false

abbrev check_refused : Checked → Bool
check_refused (Err r) = true
check_refused (Ok b) = false

-- ---- planning and profiles

-- What planning is given: bytes, starts and work area. Of the last two, what it leaves.
abbrev pub PlanInput : Type 0
PlanInput = List ℕ × List ℤ × List ℤ

abbrev pub planning : Contract PlanInput Planned (List ℤ × List ℤ)
planning =
    record {
      allows = λ x r b. PlanCall x.0 x.1 x.2 r b.0 b.1;
      answer = λ x. planned_of x.0 x.1 x.2;
      left = λ x. (starts_after x.0 x.1 x.2, plan_work_after x.0 x.1 x.2);
      met = λ x. record { answer = refl; written = refl; area = refl };
      only = λ x r b h. (h.answer, λ i. (h.written i, h.area i));
      lent = λ x. (x.1, x.2);
      refusal = plan_refused;
    }

-- Planning halves is given the same.
abbrev pub planning_halves : Contract PlanInput HalvesPlanned (List ℤ × List ℤ)
planning_halves =
    record {
      allows = λ x r b. HalvesCall x.0 x.1 x.2 r b.0 b.1;
      answer = λ x. halves_of x.0 x.1 x.2;
      left = λ x. (halves_starts_after x.0 x.1 x.2, halves_work_after x.0 x.1 x.2);
      met = λ x. record { answer = refl; written = refl; area = refl };
      only = λ x r b h. (h.answer, λ i. (h.written i, h.area i));
      lent = λ x. (x.1, x.2);
      refusal = halves_refused;
    }

-- What extending is given: profile, bytes, numbers to write to, and work area. Of the last two, what it leaves.
abbrev pub ExtendInput : Type 0
ExtendInput = List ℤ × List ℕ × List ℤ × List ℤ

abbrev pub extending : Contract ExtendInput Extended (List ℤ × List ℤ)
extending =
    record {
      allows = λ x r b. ExtendCall x.0 x.1 x.2 x.3 r b.0 b.1;
      answer = λ x. extended_of x.0 x.1 x.2 x.3;
      left = λ x. (out_after x.0 x.1 x.2 x.3, extend_work_after x.0 x.1 x.2 x.3);
      met = λ x. record { answer = refl; written = refl; area = refl };
      only = λ x r b h. (h.answer, λ i. (h.written i, h.area i));
      lent = λ x. (x.2, x.3);
      refusal = extend_refused;
    }

-- Two profiles, and numbers to write to.
abbrev pub joining_profiles : Contract (List ℤ × List ℤ × List ℤ) Joined (List ℤ)
joining_profiles =
    writing (λ x. joined_of x.0 x.1 x.2) (λ x. joined_after x.0 x.1 x.2) (λ x. x.2) is_refused

-- A profile and a time; nothing is lent to write to.
abbrev pub looking_up : Contract (List ℤ × ℤ) Finding (Unit {0})
looking_up = answering (λ x. lookup_of x.0 x.1) is_refused

-- The same over point records.
abbrev pub looking_up_records : Contract (List Point × ℤ) Finding (Unit {0})
looking_up_records = over (λ x. (flattened x.0, x.1)) looking_up

-- ---- packed orders

-- Bytes, and numbers to write to.
abbrev pub unpacking : Contract (List ℕ × List ℤ) (Result Unpacked Refusal) (List ℤ)
unpacking =
    writing (λ x. unpack_of x.0 (length x.1)) (λ x. numbers_after x.0 x.1) (λ x. x.1) is_refused

-- A bus-free time, numbers, and bytes to write to.
abbrev pub packing : Contract (ℤ × List ℤ × List ℕ) Packed (List ℕ)
packing =
    writing (λ x. pack_of x.0 x.1 (length x.2)) (λ x. bytes_after x.0 x.1 x.2) (λ x. x.2) is_refused

-- The numbers of repeating jobs, and bytes to write the order of their frame to.
abbrev pub framing : Contract (List ℤ × List ℕ) Framed (List ℕ)
framing = writing (λ x. framed_of x.0 (length x.1)) (λ x. order_after x.0 x.1) (λ x. x.1) is_refused

-- Bytes to read from.
abbrev pub opening_reader : Contract (List ℕ) Opened (Unit {0})
opening_reader = answering open_of is_refused

-- Bytes and a place. The place stands for a buffer: it is handed in, and handed back moved on.
abbrev pub stepping : Contract (List ℕ × ℕ) Read ℕ
stepping =
    record {
      allows = λ x r b. ◌≡◌ {A = Moved} (record { answer = r; place = b }) (step_of x.0 x.1);
      answer = λ x. (step_of x.0 x.1).answer;
      left = λ x. (step_of x.0 x.1).place;
      met = λ x. refl;
      only = λ x r b h. (λ i. (h i).answer, λ i. (h i).place);
      lent = λ x. x.1;
      refusal = is_refused;
    }

-- Bytes where they stand, to open a reader over: the answer, and all that can be seen of the reader.
abbrev pub beginning : Contract (Bor (List ℕ)) (Opened × Seen) (Unit {0})
beginning =
    record {
      allows = λ x r b. (r.0 ≡ open_of x.now) × (r.1 ≡ begun_over x);
      answer = λ x. (open_of x.now, begun_over x);
      left = λ x. tt;
      met = λ x. (refl, refl);
      only = λ x r b h. (λ i. (h.0 i, h.1 i), refl);
      lent = λ x. tt;
      refusal = λ r. is_refused r.0;
    }

-- A reader. It stands for a buffer: it is handed in, and handed back moved on.
abbrev pub stepping_reader : Contract Reader Read Reader
stepping_reader =
    record {
      allows = λ x r b. ◌≡◌ {A = Stepped} (record { reader = b; answer = r }) (stepped_of x);
      answer = λ x. (stepped_of x).answer;
      left = λ x. (stepped_of x).reader;
      met = λ x. refl;
      only = λ x r b h. (λ i. (h i).answer, λ i. (h i).reader);
      lent = λ x. x;
      refusal = is_refused;
    }

-- Bytes to open a reader over, and a place to step from.
abbrev pub reading_at : Contract (List ℕ × ℕ) Reading (Unit {0})
reading_at = answering (λ x. read_at x.0 x.1) (λ r. is_refused r.moved.answer)

-- ---- packed plans

-- A packed order and a packed plan; nothing is lent to write to.
abbrev pub checking_legal : Contract (List ℕ × List ℕ) Checked (Unit {0})
checking_legal = answering (λ x. legal_of x.0 x.1) check_refused

-- The same and the work area.
abbrev pub BestInput : Type 0
BestInput = List ℕ × List ℕ × List ℤ

abbrev pub checking_best : Contract BestInput Checked (List ℤ)
checking_best =
    record {
      allows = λ x r b. BestCall x.0 x.1 x.2 r b;
      answer = λ x. best_of x.0 x.1 x.2;
      left = λ x. best_work_after x.0 x.1 x.2;
      met = λ x. record { answer = refl; area = refl };
      only = λ x r b h. (h.answer, h.area);
      lent = λ x. x.2;
      refusal = check_refused;
    }

-- A packed order, bytes to write its plan to, and work area. Of the last two, what it leaves.
abbrev pub WriteInput : Type 0
WriteInput = List ℕ × List ℕ × List ℤ

abbrev pub writing_plan : Contract WriteInput Packed (List ℕ × List ℤ)
writing_plan =
    record {
      allows = λ x r b. WriteCall x.0 x.1 x.2 r b.0 b.1;
      answer = λ x. written_of x.0 x.1 x.2;
      left = λ x. (written_after x.0 x.1 x.2, write_work_after x.0 x.1 x.2);
      met = λ x. record { answer = refl; written = refl; area = refl };
      only = λ x r b h. (h.answer, λ i. (h.written i, h.area i));
      lent = λ x. (x.1, x.2);
      refusal = is_refused;
    }

-- ---- the text

-- The text for bytes, in so much room.
abbrev told : List ℕ × List ℕ → List ℕ
told x = printed x.0 x.1

-- Bytes, and bytes to write the text to; that nothing is written stands for a refusal.
abbrev pub reporting : Contract (List ℕ × List ℕ) ℕ (List ℕ)
reporting =
    writing (λ x. length (told x)) (λ x. told x ++ drop (length (told x)) x.1) (λ x. x.1) (λ r. eqb r 0)

-- ---- heat-up lengths

-- A byte.
abbrev pub heating_up : Contract ℕ (Result ℕ Reason) (Unit {0})
heating_up = answering heating_of is_refused

-- ---- openings

-- Two packed orders, a time and the work area; by a tie rule.
abbrev pub AskInput : Type 0
AskInput = List ℕ × List ℕ × ℤ × List ℤ

abbrev pub asking : TieRule → Contract AskInput Answer (List ℤ)
asking rule =
    record {
      allows = λ x r b. Questioned rule x.0 x.1 x.2 x.3 r b;
      answer = λ x. answer_of rule x.0 x.1 x.2 x.3;
      left = λ x. work_after rule x.0 x.1 x.2 x.3;
      met = λ x. record { answer = refl; area = refl };
      only = λ x r b h. (h.answer, h.area);
      lent = λ x. x.3;
      refusal = is_err;
    }

-- The same, with the orders where they stand. What is handed back is a part, by its bytes and its place; an empty one
-- stands for a refusal.
abbrev pub choosing : TieRule → Contract (Bor (List ℕ) × Bor (List ℕ) × ℤ × List ℤ) (List ℕ × (ℕ × ℕ)) (List ℤ)
choosing rule =
    record {
      allows = λ x r b. Handed rule x.0 x.1 x.2 x.3 (record { ref_ptr = r.1; now = r.0 }) b;
      answer = λ x.
          let c = chosen_of rule x.0.now x.1.now x.2 x.3 in
          (part_of c x.0.now x.1.now, place_of c x.0.ref_ptr x.1.ref_ptr);
      left = λ x. work_after rule x.0.now x.1.now x.2 x.3;
      met = λ x. record { bytes = refl; place = refl; area = refl };
      only = λ x r b h. (λ i. (h.bytes i, h.place i), h.area);
      lent = λ x. x.3;
      refusal = λ r. eqb (length r.0) 0;
    }

-- ---- sheets

-- Joining two sheets is given both. Of the first, what it leaves.
abbrev pub joining_sheets : Contract (List ℕ × List ℕ) (Result ⊤ Reason) (List ℕ)
joining_sheets =
    record {
      allows = λ x r b. JoinCall x.0 x.1 r b;
      answer = λ x. join_refusal x.0 x.1;
      left = λ x. sheet_after x.0 x.1;
      met = λ x. record { answer = refl; lent = refl };
      only = λ x r b h. (h.answer, h.lent);
      lent = λ x. x.0;
      refusal = is_err;
    }

-- One order more is given a sheet, the order's bytes and the work area. Of the first and the last, what it leaves.
abbrev pub AddInput : Type 0
AddInput = List ℕ × List ℕ × List ℤ

abbrev pub adding : Contract AddInput (Result ⊤ Reason) (List ℕ × List ℤ)
adding =
    record {
      allows = λ x r b. AddCall x.0 x.1 x.2 r b.0 b.1;
      answer = λ x. add_refusal x.0 x.2;
      left = λ x. (add_after x.0 x.1 x.2, add_work_after x.0 x.2);
      met = λ x. record { answer = refl; lent = refl; area = refl };
      only = λ x r b h. (h.answer, λ i. (h.lent i, h.area i));
      lent = λ x. (x.0, x.2);
      refusal = is_err;
    }

-- Feeding is given the numbers and the front that are held of a stream, a piece, and the work area. Of all but the piece, what it leaves.
abbrev pub FeedInput : Type 0
FeedInput = List ℕ × List ℕ × List ℕ × List ℤ

abbrev pub feeding : Contract FeedInput (Result ⊤ Reason) (List ℕ × List ℕ × List ℤ)
feeding =
    record {
      allows = λ x r b. FeedCall x.0 x.1 x.2 x.3 r b.0 b.1 b.2;
      answer = λ x. feed_refusal x.0 x.1 x.2 x.3;
      left = λ x. (
        feed_after x.0 x.1 x.2 x.3,
        front_after x.0 x.1 x.2 x.3,
        feed_work_after x.0 x.1 x.3,
      );
      met = λ x. record { answer = refl; numbers = refl; room = refl; cleaned = refl };
      only = λ x r b h. (h.answer, λ i. (h.numbers i, h.room i, h.cleaned i));
      lent = λ x. (x.0, x.1, x.3);
      refusal = is_err;
    }

-- Telling a sheet is given it, whether its stream is cut, and bytes to write the text to.
abbrev pub TellInput : Type 0
TellInput = List ℕ × Bool × List ℕ

abbrev pub telling : Contract TellInput (Result ℕ Reason) (List ℕ)
telling =
    record {
      allows = λ x r b. TellCall x.0 x.1 x.2 r b;
      answer = λ x. told_of x.0 x.1 x.2;
      left = λ x. text_after x.0 x.1 x.2;
      met = λ x. record { answer = refl; text = refl };
      only = λ x r b h. (h.answer, h.text);
      lent = λ x. x.2;
      refusal = is_err;
    }
