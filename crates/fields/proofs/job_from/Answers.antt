-- `fields::job_from` meets its contract: the seven numbers, read one by one.
-- Assumes nothing.
use mathlib.Core.Path.{◌∙◌}
use Prim.Native.Nat.{ℕ, ◌+◌}
use mathlib.Core.List.{List}
use lib.IntN.{ℤ, pos}
use lib.ListN.{get_or}
use mir.Syntax.{w32}
use mir.Val.{SFits}
use borrow.Author.Rules.{rules}
use Rattle.fields.specs.Facts.{JobFits, fields-kept}
use Rattle.fields.specs.Numbers.{seven-read}
use Rattle.fields.specs.declared.Job.{Job}
use Rattle.fields.proofs.job_from.Goals as goal

pub returns : goal.returns
returns c =
    let l : List ℤ = c.args.numbers.now in
    let at : ℕ = c.args.at in
    let job : Job = record {
      number = get_or l at (pos 0);
      pack = get_or l (at + 1) (pos 0);
      critical = get_or l (at + 2) (pos 0);
      weight = get_or l (at + 3) (pos 0);
      ready = get_or l (at + 4) (pos 0);
      length = get_or l (at + 5) (pos 0);
      deadline = get_or l (at + 6) (pos 0);
    } in
    let number : SFits w32 (get_or c.args.numbers.now c.args.at (pos 0)) = search rules in
    let pack : SFits w32 (get_or c.args.numbers.now (c.args.at + 1) (pos 0)) = search rules in
    let critical : SFits w32 (get_or c.args.numbers.now (c.args.at + 2) (pos 0)) = search rules in
    let weight : SFits w32 (get_or c.args.numbers.now (c.args.at + 3) (pos 0)) = search rules in
    let ready : SFits w32 (get_or c.args.numbers.now (c.args.at + 4) (pos 0)) = search rules in
    let long : SFits w32 (get_or c.args.numbers.now (c.args.at + 5) (pos 0)) = search rules in
    let deadline : SFits w32 (get_or c.args.numbers.now (c.args.at + 6) (pos 0)) = search rules in
    let fits : JobFits job = record {
      number = number;
      pack = pack;
      critical = critical;
      weight = weight;
      ready = ready;
      long = long;
      deadline = deadline;
    } in
    fields-kept job fits ∙ seven-read l at c.requires
