-- `unpack::write_numbers` meets its contract: a turn writes the numbers of one job more. Assumes nothing.
use mathlib.Core.Path.{sym, ap, ◌∙◌}
use mathlib.Core.List.{List, ◌++◌}
use Prim.Native.Nat.{ℕ, ◌+◌, ◌*◌}
use lib.IntN.{ℤ}
use lib.ListN.{take, drop}
use Rattle.fields.specs.Fields.{fields_of}
use Rattle.unpack.specs.WritingLaws.{none_written, one_more}
use Rattle.unpack.proofs.write_numbers.Goals as goal

pub loop-k-init : goal.loop-k-init
loop-k-init c = sym (none_written c.args.records.bytes.now c.args.numbers.now)

pub loop-k-preserved : goal.loop-k-preserved
loop-k-preserved c =
    let k : ℕ = c.loop-k.k in
    let j = c.job_at-job in
    c.put_numbers.ensures
    ∙ ap (λ (zs : List ℤ). take (7 * k) zs ++ fields_of j.result ++ drop (7 * k + 7) zs) c.loop-k.invariant
    ∙ one_more c.args.records.bytes.now c.args.numbers.now k j.result j.ensures
