-- The relations of Contracts are the contracts of the code: for each call, what its generated contract claims of the
-- arguments, the answer and the parameters at exit is what the relation says. A contract that changes is refused here.
use Rattle.std.specs.Prelude.{◌≡◌, refl, List, ℕ, Result, ⊤}
use contract.Lifetimes.{Lfts}
use Rattle.std.specs.Borrow.{Bor}
use denote.Triple.Clauses.{AtExit}
use denote.Triple.Entry.{Args}
use Rattle.refusals.specs.declared.Reason.{Reason}
use Rattle.profiles.specs.Answer.{Finding}
use Rattle.profiles.specs.contracts.lookup as lookup
use Rattle.profiles.proofs.lookup.Reads as lookup-reads
use Rattle.point_records.specs.contracts.lookup_records as lookup-records
use Rattle.point_records.proofs.Determined as records
use Rattle.better.specs.Answer.{Joined}
use Rattle.better.specs.contracts.better_of as better-of
use Rattle.better.proofs.better_of.Reads as better-of-reads
use Rattle.unpack.specs.Answer.{Answer as Unpacking}
use Rattle.unpack.specs.contracts.unpack as unpack
use Rattle.unpack.proofs.unpack.Reads as unpack-reads
use Rattle.pack.specs.Answer.{Packed}
use Rattle.pack.specs.contracts.pack as pack
use Rattle.pack.proofs.pack.Reads as pack-reads
use Rattle.framing.specs.Answer.{Framed}
use Rattle.framing.specs.contracts.frame as frame
use Rattle.framing.proofs.frame.Reads as frame-reads
use Rattle.reader.specs.Reading.{Opened}
use Rattle.reader.specs.declared.Moved.{Moved}
use Rattle.reader.specs.contracts.open as opens
use Rattle.reader.proofs.open.Reads as open-reads
use Rattle.reader.specs.contracts.step as step
use Rattle.reader.proofs.step.Reads as step-reads
use Rattle.reader_struct.specs.Standing.{seen}
use Rattle.reader_struct.specs.declared.Begun.{Begun}
use Rattle.reader_struct.specs.declared.Stepped.{Stepped}
use Rattle.reader_struct.specs.declared.Reading.{Reading}
use Rattle.reader_struct.specs.contracts.Reader.open as begin
use Rattle.reader_struct.specs.contracts.Reader.step as reader-step
use Rattle.reader_struct.specs.contracts.read_at as read_at
use Rattle.reader_struct.proofs.read_at.Reads as read-at-reads
use Rattle.reader_struct.proofs.Determined as readers
use Rattle.report.specs.contracts.report as report
use Rattle.report.proofs.report.Reads as report-reads
use Rattle.heat.specs.contracts.heat_up as heat-up
use Rattle.heat.proofs.heat_up.Reads as heat-up-reads
use Rattle.planner.specs.Calls.{Planned}
use Rattle.extending.specs.Calls.{Extended}
use Rattle.planner.specs.contracts.plan as plan
use Rattle.planner.proofs.plan.Reads as plan-reads
use Rattle.halves.specs.Calls.{HalvesPlanned}
use Rattle.halves.specs.contracts.plan_halves as plan-halves
use Rattle.halves.proofs.plan_halves.Reads as plan-halves-reads
use Rattle.extending.specs.contracts.extend as extend
use Rattle.extending.proofs.extend.Reads as extend-reads
use Rattle.openings.specs.Answer.{Answer}
use Rattle.openings.specs.contracts.question as question
use Rattle.openings.proofs.question.Reads as question-reads
use Rattle.openings.specs.contracts.question_first as question-first
use Rattle.openings.proofs.question_first.Reads as question-first-reads
use Rattle.openings.specs.contracts.choose as choose
use Rattle.openings.proofs.choose.Reads as choose-reads
use Rattle.openings.specs.contracts.choose_first as choose-first
use Rattle.openings.proofs.choose_first.Reads as choose-first-reads
use Rattle.checking.specs.Calls.{Checked}
use Rattle.checking.specs.contracts.legal as legal
use Rattle.checking.proofs.legal.Reads as legal-reads
use Rattle.best_plan.specs.contracts.best as best
use Rattle.best_plan.proofs.best.Reads as best-reads
use Rattle.plan_writer.specs.contracts.write_plan as write-plan
use Rattle.plan_writer.proofs.write_plan.Reads as write-plan-reads
use Rattle.sheet.specs.contracts.join as join
use Rattle.sheet.proofs.join.Reads as join-reads
use Rattle.adding.specs.contracts.add as add
use Rattle.adding.proofs.add.Reads as add_reads
use Rattle.feeding.specs.contracts.feed as feed
use Rattle.feeding.proofs.feed.Reads as feed-reads
use Rattle.sheet_text.specs.contracts.tell as tell
use Rattle.sheet_text.proofs.tell.Reads as tell-reads
use Rattle.hollow.specs.Promises.{planning, extending, joining_profiles, looking_up, looking_up_records, unpacking, packing, framing}
use Rattle.hollow.specs.Promises.{opening_reader, stepping, beginning, stepping_reader, reading_at, reporting, heating_up}
use Rattle.ties.specs.Winning.{sooner, to_first}
use Rattle.hollow.specs.Promises.{planning_halves, asking, choosing, checking_legal, checking_best, writing_plan}
use Rattle.hollow.specs.Promises.{joining_sheets, adding, feeding, telling}

pub plan-is : (κs : Lfts 3) (a : Args plan.signature κs) (r : Planned) (x : AtExit plan.ended κs)
    → plan-reads.Post κs a r x
    ≡ planning.allows (a.0.now, a.1.0.now, a.1.1.0.now) r (x.1.0.now, x.1.1.0.now)
plan-is κs a r x = refl

pub plan-halves-is : (κs : Lfts 3) (a : Args plan-halves.signature κs) (r : HalvesPlanned) (x : AtExit plan-halves.ended κs)
    → plan-halves-reads.Post κs a r x
    ≡ planning_halves.allows (a.0.now, a.1.0.now, a.1.1.0.now) r (x.1.0.now, x.1.1.0.now)
plan-halves-is κs a r x = refl

pub extend-is : (κs : Lfts 4) (a : Args extend.signature κs) (r : Extended) (x : AtExit extend.ended κs)
    → extend-reads.Post κs a r x
    ≡ extending.allows (a.0.now, a.1.0.now, a.1.1.0.now, a.1.1.1.0.now) r
    (x.1.1.0.now, x.1.1.1.0.now)
extend-is κs a r x = refl

pub better-of-is : (κs : Lfts 3) (a : Args better-of.signature κs) (r : Joined) (x : AtExit better-of.ended κs)
    → better-of-reads.Post κs a r x ≡ joining_profiles.allows (a.0.now, a.1.0.now, a.1.1.0.now) r x.1.1.0.now
better-of-is κs a r x = refl

pub lookup-is : (κs : Lfts 1) (a : Args lookup.signature κs) (r : Finding) (x : AtExit lookup.ended κs)
    → lookup-reads.Post κs a r x ≡ looking_up.allows (a.0.now, a.1.0) r tt
lookup-is κs a r x = refl

-- Over records the claim is written out where it is tied to the contract.
pub lookup-records-is : (κs : Lfts 1) (a : Args lookup-records.signature κs) (r : Finding) (x : AtExit lookup-records.ended κs)
    → records.Post κs a r x ≡ looking_up_records.allows (a.0.now, a.1.0) r tt
lookup-records-is κs a r x = refl

pub unpack-is : (κs : Lfts 2) (a : Args unpack.signature κs) (r : Unpacking) (x : AtExit unpack.ended κs)
    → unpack-reads.Post κs a r x ≡ unpacking.allows (a.0.now, a.1.0.now) r x.1.0.now
unpack-is κs a r x = refl

pub frame_is : (κs : Lfts 2) (a : Args frame.signature κs) (r : Framed) (x : AtExit frame.ended κs)
    → frame-reads.Post κs a r x ≡ framing.allows (a.0.now, a.1.0.now) r x.1.0.now
frame_is κs a r x = refl

pub pack-is : (κs : Lfts 2) (a : Args pack.signature κs) (r : Packed) (x : AtExit pack.ended κs)
    → pack-reads.Post κs a r x ≡ packing.allows (a.0, a.1.0.now, a.1.1.0.now) r x.1.1.0.now
pack-is κs a r x = refl

pub open_is : (κs : Lfts 1) (a : Args opens.signature κs) (r : Opened) (x : AtExit opens.ended κs)
    → open-reads.Post κs a r x ≡ opening_reader.allows a.0.now r tt
open_is κs a r x = refl

pub step_is : (κs : Lfts 1) (a : Args step.signature κs) (r : Moved) (x : AtExit step.ended κs)
    → step-reads.Post κs a r x ≡ stepping.allows (a.0.now, a.1.0) r.answer r.place
step_is κs a r x = refl

-- Over a reader the claims of opening and of a step are written out where they are tied to the contracts.
pub begin-is : (κs : Lfts 1) (a : Args begin.signature κs) (r : Begun)
    → readers.Opens κs a r ≡ beginning.allows a.0 (r.answer, seen r.reader) tt
begin-is κs a r = refl

pub reader-step-is : (κs : Lfts 1) (a : Args reader-step.signature κs) (r : Stepped)
    → readers.Steps κs a r ≡ stepping_reader.allows a.0 r.answer r.reader
reader-step-is κs a r = refl

pub read-at-is : (κs : Lfts 1) (a : Args read_at.signature κs) (r : Reading) (x : AtExit read_at.ended κs)
    → read-at-reads.Post κs a r x ≡ reading_at.allows (a.0.now, a.1.0) r tt
read-at-is κs a r x = refl

-- The contract of the report says also that the text fits: the relation holds wherever it does.
pub report-says : (κs : Lfts 2) (a : Args report.signature κs) (r : ℕ) (x : AtExit report.ended κs)
    → report-reads.Post κs a r x → reporting.allows (a.0.now, a.1.0.now) r x.1.0.now
report-says κs a r x h = (h.count, h.text)

pub heat-up-is : (κs : Lfts 0) (a : Args heat-up.signature κs) (r : Result ℕ Reason) (x : AtExit heat-up.ended κs)
    → heat-up-reads.Post κs a r x ≡ heating_up.allows a.0 r tt
heat-up-is κs a r x = refl

pub question-is : (κs : Lfts 3) (a : Args question.signature κs) (r : Answer) (x : AtExit question.ended κs)
    → question-reads.Post κs a r x
    ≡ (asking sooner).allows (a.0.now, a.1.0.now, a.1.1.0, a.1.1.1.0.now) r x.1.1.1.0.now
question-is κs a r x = refl

pub question-first-is : (κs : Lfts 3) (a : Args question-first.signature κs) (r : Answer) (x : AtExit question-first.ended κs)
    → question-first-reads.Post κs a r x
    ≡ (asking to_first).allows (a.0.now, a.1.0.now, a.1.1.0, a.1.1.1.0.now) r x.1.1.1.0.now
question-first-is κs a r x = refl

-- Of the choice the relation holds wherever the contract does.
pub choose-says : (κs : Lfts 2) (a : Args choose.signature κs) (r : Bor (List ℕ)) (x : AtExit choose.ended κs)
    → choose-reads.Post κs a r x
    → (choosing sooner).allows (a.0, a.1.0, a.1.1.0, a.1.1.1.0.now) (r.now, r.ref_ptr) x.1.1.1.0.now
choose-says κs a r x h = h

pub choose-first-says : (κs : Lfts 2) (a : Args choose-first.signature κs) (r : Bor (List ℕ)) (x : AtExit choose-first.ended κs)
    → choose-first-reads.Post κs a r x
    → (choosing to_first).allows (a.0, a.1.0, a.1.1.0, a.1.1.1.0.now) (r.now, r.ref_ptr) x.1.1.1.0.now
choose-first-says κs a r x h = h

pub legal-is : (κs : Lfts 2) (a : Args legal.signature κs) (r : Checked) (x : AtExit legal.ended κs)
    → legal-reads.Post κs a r x ≡ checking_legal.allows (a.0.now, a.1.0.now) r tt
legal-is κs a r x = refl

pub best-is : (κs : Lfts 3) (a : Args best.signature κs) (r : Checked) (x : AtExit best.ended κs)
    → best-reads.Post κs a r x ≡ checking_best.allows (a.0.now, a.1.0.now, a.1.1.0.now) r x.1.1.0.now
best-is κs a r x = refl

pub write-plan-is : (κs : Lfts 3) (a : Args write-plan.signature κs) (r : Packed) (x : AtExit write-plan.ended κs)
    → write-plan-reads.Post κs a r x
    ≡ writing_plan.allows (a.0.now, a.1.0.now, a.1.1.0.now) r (x.1.0.now, x.1.1.0.now)
write-plan-is κs a r x = refl

pub join_is : (κs : Lfts 2) (a : Args join.signature κs) (r : Result ⊤ Reason) (x : AtExit join.ended κs)
    → join-reads.Post κs a r x ≡ joining_sheets.allows (a.0.now, a.1.0.now) r x.0.now
join_is κs a r x = refl

pub add_is : (κs : Lfts 3) (a : Args add.signature κs) (r : Result ⊤ Reason) (x : AtExit add.ended κs)
    → add_reads.Post κs a r x
    ≡ adding.allows (a.0.now, a.1.0.now, a.1.1.0.now) r (x.0.now, x.1.1.0.now)
add_is κs a r x = refl

pub feed-is : (κs : Lfts 4) (a : Args feed.signature κs) (r : Result ⊤ Reason) (x : AtExit feed.ended κs)
    → feed-reads.Post κs a r x
    ≡ feeding.allows (a.0.now, a.1.0.now, a.1.1.0.now, a.1.1.1.0.now) r
    (x.0.now, x.1.0.now, x.1.1.1.0.now)
feed-is κs a r x = refl

pub tell-is : (κs : Lfts 2) (a : Args tell.signature κs) (r : Result ℕ Reason) (x : AtExit tell.ended κs)
    → tell-reads.Post κs a r x ≡ telling.allows (a.0.now, a.1.0, a.1.1.0.now) r x.1.1.0.now
tell-is κs a r x = refl
