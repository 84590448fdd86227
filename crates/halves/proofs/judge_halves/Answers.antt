-- `halves::judge_halves` meets its contract: the search from an empty list of awaited numbers gives the place of check 13.
-- Assumes nothing.
use mathlib.Core.Path.{◌≡◌, refl, sym, ap, subst, ◌∙◌}
use Rattle.std.proofs.Common.{Err}
use Rattle.packed.specs.Judge.{judge}
use Rattle.packed.specs.Packed.{numbers_of, job_count}
use Rattle.packed.specs.Refusals.{halves_checks}
use Rattle.packed.proofs.PackedLaws.{numbers-count}
use Rattle.packed.proofs.Accepted.{OrderFine, order-fine}
use Rattle.packed.proofs.RefusalLaws.{header-fine}
use Rattle.halves.proofs.CallLaws.{offending-told, none_told}
use Rattle.halves.proofs.judge_halves.Goals as goal
use Rattle.halves.proofs.judge_halves.Goals.{After-records_in-records}

pub records_in-records-requires : goal.records_in-records-requires
records_in-records-requires c =
    let bytes = c.args.bytes.now in (header-fine bytes).1 ((order-fine bytes).0 c.requires).header

pub first_offending-requires : goal.first_offending-requires
first_offending-requires c =
    record {
      order = subst (λ b. OrderFine b) (sym c.records_in-records.ensures) ((order-fine c.args.bytes.now).0 c.requires);
      count = c.records_in-records.result.stand.counted;
      none = refl;
    }

-- The records are as many as the jobs.
counted : (c : After-records_in-records) → c.records_in-records.result.count ≡ job_count (numbers_of c.records_in-records.result.bytes.now)
counted c = c.records_in-records.result.stand.counted ∙ sym (numbers-count c.records_in-records.result.bytes.now)

pub returns-in-Some : goal.returns-in-Some
returns-in-Some c =
    let records = c.records_in-records.result in
    ap (λ r. Err r) c.at_place.ensures
    ∙ offending-told (numbers_of records.bytes.now) c.in-Some.place records.count
    (sym c.in-Some.is ∙ c.first_offending.ensures) (counted (goal.at.returns-in-Some c).After-records_in-records)
    ∙ ap (λ b. judge (halves_checks (numbers_of b))) c.records_in-records.ensures

pub returns-in-None : goal.returns-in-None
returns-in-None c =
    let records = c.records_in-records.result in
    none_told (numbers_of records.bytes.now) records.count
    (sym c.in-None.is ∙ c.first_offending.ensures) (counted (goal.at.returns-in-None c).After-records_in-records)
    ∙ ap (λ b. judge (halves_checks (numbers_of b))) c.records_in-records.ensures
