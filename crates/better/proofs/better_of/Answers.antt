-- `better::better_of` meets its contract: the tests judge the profiles and then the room, and `merge` writes the rest.
-- Assumes nothing.
use Rattle.std.proofs.Common.{sym, ◌∙◌}
use Rattle.better.specs.Merging.{Joinable}
use Rattle.better.specs.AnswerLaws.{joins-first-not, joins-second-not, joins-no-room, joins-written}
use Rattle.better.proofs.better_of.Goals as goal
use Rattle.better.proofs.better_of.Goals.{then-not-valid-via-then-not-valid, then-not-valid-via-else-not-valid+then-not-valid-2}

pub returns-then-not-valid : goal.returns-then-not-valid
returns-then-not-valid c =
    let p = c.args.p.now in
    let q = c.args.q.now in
    let out = c.args.out.now in
    elim c.then-not-valid.branch [
      | then-not-valid-via-then-not-valid w ↦
          let j = joins-first-not p q out (sym c.valid.ensures ∙ w.if-not-valid.true) in record { answer = j.0; lent = j.1 }
      | then-not-valid-via-else-not-valid+then-not-valid-2 w ↦
          let j = joins-second-not p q out (sym w.valid-else-not-valid.ensures ∙ w.if-not-valid-2.true) in
          record { answer = j.0; lent = j.1 }
    ]

pub returns-then-out-lt-MOST_NUMBERS : goal.returns-then-out-lt-MOST_NUMBERS
returns-then-out-lt-MOST_NUMBERS c =
    let j = joins-no-room c.args.p.now c.args.q.now c.args.out.now (sym c.valid.ensures ∙ c.if-not-valid.false)
    (sym c.valid-else-not-valid.ensures ∙ c.if-not-valid-2.false) c.if-out-lt-MOST_NUMBERS.true in
    record { answer = j.0; lent = j.1 }

pub returns : goal.returns
returns c =
    let able : Joinable c.args.p.now c.args.q.now c.args.out.now = record {
      first = sym c.valid.ensures ∙ c.if-not-valid.false;
      second = sym c.valid-else-not-valid.ensures ∙ c.if-not-valid-2.false;
      room = c.if-out-lt-MOST_NUMBERS.false;
    } in
    let j = joins-written c.args.p.now c.args.q.now c.args.out.now c.merge.result c.merge.new.out able c.merge.ensures in
    record { answer = j.0; lent = j.1 }
