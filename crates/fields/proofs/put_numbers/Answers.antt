-- `fields::put_numbers` meets its contract: the seven numbers, written one by one.
-- Assumes nothing.
use mathlib.Core.Path.{◌∙◌, ap}
use Prim.Native.Nat.{ℕ, ◌+◌}
use mathlib.Core.List.{List, ◌++◌}
use lib.IntN.{ℤ}
use lib.ListN.{take, drop}
use borrow.Author.Rules.{rules}
use Rattle.fields.specs.Facts.{JobFits, from_bits, fields-kept}
use Rattle.fields.specs.Numbers.{seven-written}
use Rattle.fields.specs.declared.Job.{Job}
use Rattle.fields.proofs.put_numbers.Goals as goal

pub returns : goal.returns
returns c =
    let l : List ℤ = c.args.numbers.now in
    let at : ℕ = c.args.at in
    let j : Job = c.args.job in
    let k : Job = from_bits j in
    let fits : JobFits c.args.job = record {
      number = search rules;
      pack = search rules;
      critical = search rules;
      weight = search rules;
      ready = search rules;
      long = search rules;
      deadline = search rules;
    } in
    seven-written l at k.number k.pack k.critical k.weight k.ready k.length k.deadline c.requires
    ∙ ap (λ zs. take at l ++ zs ++ drop (at + 7) l) (fields-kept j fits)
