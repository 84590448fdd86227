-- For each answer on a packed order, or on the sampler's byte, the struct that says it: the refusal and the values of the rules.
-- In a refused answer all but the refusal, with its place and field, and the reader's own place, are 0 (R26). Definitions only.
use Rattle.std.specs.Prelude.{ℕ, pos, Result}
use Rattle.heat.specs.Answer.{refusal_of as heat_refusal, length_of}
use Rattle.refusals.specs.declared.Reason.{Reason}
use Rattle.packed.specs.declared.Refusal.{Refusal}
use Rattle.packed.specs.Packed.{the_number, the_pack, the_mark, the_weight, the_ready, the_length, the_deadline}
use Rattle.packed.specs.Judge.{no_refusal, refusal_of}
use Rattle.fields.specs.declared.Job.{Job}
use Rattle.unpack.specs.Answer.{Answer, jobs_unpacked, t0_unpacked}
use Rattle.pack.specs.Answer.{Packed, bytes_written}
use Rattle.framing.specs.Answer.{Framed, bytes_written as frame_written, frame_told}
use Rattle.reader.specs.Reading.{Opened, open_refusal, open_count, read_refusal, read_end, read_numbers}
use Rattle.reader.specs.declared.Moved.{Moved}
use Rattle.packed_answers.specs.declared.HeatAnswer.{HeatAnswer}
use Rattle.packed_answers.specs.declared.UnpackAnswer.{UnpackAnswer}
use Rattle.packed_answers.specs.declared.PackAnswer.{PackAnswer}
use Rattle.packed_answers.specs.declared.FrameAnswer.{FrameAnswer}
use Rattle.packed_answers.specs.declared.OpenAnswer.{OpenAnswer}
use Rattle.packed_answers.specs.declared.StepAnswer.{StepAnswer}

-- ---- heat-up lengths

abbrev pub heat_numbers : Result ℕ Reason → HeatAnswer
heat_numbers h = record { refusal = heat_refusal h; seconds = length_of h }

-- ---- packed orders

abbrev pub unpack_numbers : Answer → UnpackAnswer
unpack_numbers u =
    let r = refusal_of u in
    record { refusal = r.number; place = r.place; field = r.field; jobs = jobs_unpacked u; t0 = t0_unpacked u }

abbrev pub pack_numbers : Packed → PackAnswer
pack_numbers p =
    let r = refusal_of p in
    record { refusal = r.number; place = r.place; field = r.field; bytes = bytes_written p }

abbrev pub framed_numbers : Framed → FrameAnswer
framed_numbers f =
    let r = refusal_of f in
    record { refusal = r.number; place = r.place; bytes = frame_written f; frame = frame_told f }

abbrev pub open_numbers : Opened → OpenAnswer
open_numbers o = record { refusal = open_refusal o; jobs = open_count o }

-- A step that gives no job, with the place at which the reader then stands.
abbrev pub no_job : Refusal → ℕ → ℕ → StepAnswer
no_job r end next =
    record {
      refusal = r.number;
      place = r.place;
      field = r.field;
      end = end;
      number = pos 0;
      pack = pos 0;
      critical = pos 0;
      weight = pos 0;
      ready = pos 0;
      length = pos 0;
      deadline = pos 0;
      next = next;
    }

-- One that gives a job.
abbrev pub with_job : Job → ℕ → StepAnswer
with_job j next =
    record {
      refusal = no_refusal.number;
      place = no_refusal.place;
      field = no_refusal.field;
      end = 0;
      number = j.number;
      pack = j.pack;
      critical = j.critical;
      weight = j.weight;
      ready = j.ready;
      length = j.length;
      deadline = j.deadline;
      next = next;
    }

-- Any step.
abbrev pub step_numbers : Moved → StepAnswer
step_numbers m =
    record {
      refusal = (read_refusal m.answer).number;
      place = (read_refusal m.answer).place;
      field = (read_refusal m.answer).field;
      end = read_end m.answer;
      number = the_number (read_numbers m.answer);
      pack = the_pack (read_numbers m.answer);
      critical = the_mark (read_numbers m.answer);
      weight = the_weight (read_numbers m.answer);
      ready = the_ready (read_numbers m.answer);
      length = the_length (read_numbers m.answer);
      deadline = the_deadline (read_numbers m.answer);
      next = m.place;
    }
