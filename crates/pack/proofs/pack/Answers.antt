-- `pack::pack` meets its contract: the verdict on the numbers, then the room; then the header and the jobs are written.
-- Assumes nothing.
use mathlib.Core.Path.{◌≡◌, sym, ap, ap₂, ◌∙◌}
use mathlib.Core.List.{List, [], ◌++◌}
use Prim.Native.Nat.{ℕ, ◌+◌, ◌*◌, ◌/◌, ◌≤◌, ◌<◌}
use lib.IntN.{ℤ}
use lib.ListN.{length, drop}
use mir.Syntax.{w32}
use mir.Val.{SFits, to_z, of_z}
use mir.Facts.{to_z-of_z}
use borrow.Author.Rules.{rules}
use Rattle.std.proofs.Common.{Ok, Err}
use Rattle.packed.specs.Judge.{Verdict, judge}
use Rattle.packed.specs.Packed.{kind_for, packed_header}
use Rattle.packed.specs.Layout.{record_bytes}
use Rattle.packed.specs.Refusals.{number_checks}
use Rattle.pack.specs.Writing.{first_records}
use Rattle.pack.specs.AnswerLaws.{whole-jobs, packs-refused, packs-no-room, header-room, packable, packs-written}
use Rattle.pack.proofs.pack.Goals as goal

-- What was told of the numbers.
told : (t0 : ℤ) (zs : List ℤ) {v w : Verdict} → SFits w32 t0 → v ≡ judge (number_checks (to_z w32 (of_z w32 t0)) zs) → v ≡ w
    → judge (number_checks t0 zs) ≡ w
told t0 zs fits e is = sym (e ∙ ap (λ t. judge (number_checks t zs)) (to_z-of_z fits)) ∙ is

-- The kind and the bytes of the order.
sized : (zs : List ℤ) (kind written : ℕ) → kind ≡ kind_for zs → written ≡ 4 + record_bytes kind * (length zs / 7)
    → written ≡ 4 + record_bytes (kind_for zs) * (length zs / 7)
sized zs kind written k w = w ∙ ap (λ k. 4 + record_bytes k * (length zs / 7)) k

pub invariant_of-kind_for : goal.invariant_of-kind_for
invariant_of-kind_for c =
    record {
      whole =
          whole-jobs c.args.t0 c.args.numbers.now []
          (told c.args.t0 c.args.numbers.now c.ranges.t0 c.judge_numbers.ensures c.in_ok-judge_numbers.was);
    }

pub packed_bytes-written-requires : goal.packed_bytes-written-requires
packed_bytes-written-requires c =
    (whole-jobs c.args.t0 c.args.numbers.now []
    (told c.args.t0 c.args.numbers.now c.ranges.t0 c.judge_numbers.ensures c.in_ok-judge_numbers.was)).few

pub returns-then-bytes-written : goal.returns-then-bytes-written
returns-then-bytes-written c =
    let t0 = c.args.t0 in
    let zs = c.args.numbers.now in
    let p = told t0 zs c.ranges.t0 c.judge_numbers.ensures c.in_ok-judge_numbers.was in
    let s = sized zs c.kind_for-kind.result c.packed_bytes-written.result c.kind_for-kind.ensures c.packed_bytes-written.ensures in
    let short : length c.args.bytes.now < 4 + record_bytes (kind_for c.args.numbers.now) * (length c.args.numbers.now / 7) =
    rw (← s) c.if-bytes-written.true in
    let packs = packs-no-room t0 zs c.args.bytes.now p short in
    record { answer = ap (λ r. Err r) c.into.ensures ∙ packs.0; lent = packs.1 }

pub put_header-requires : goal.put_header-requires
put_header-requires c =
    let t0 = c.args.t0 in
    let zs = c.args.numbers.now in
    let p = told t0 zs c.ranges.t0 c.judge_numbers.ensures c.in_ok-judge_numbers.was in
    let s = sized zs c.kind_for-kind.result c.packed_bytes-written.result c.kind_for-kind.ensures c.packed_bytes-written.ensures in
    let room : 4 + record_bytes (kind_for c.args.numbers.now) * (length c.args.numbers.now / 7) ≤ length c.args.bytes.now =
    rw (← s) c.if-bytes-written.false in
    rw c.kind_for-kind.ensures
    (header-room t0 zs c.args.bytes.now p room (to_z w32 (of_z w32 t0)) (to_z-of_z c.ranges.t0))

pub write_jobs-requires : goal.write_jobs-requires
write_jobs-requires c =
    let t0 = c.args.t0 in
    let zs = c.args.numbers.now in
    let p = told t0 zs c.ranges.t0 c.judge_numbers.ensures c.in_ok-judge_numbers.was in
    let s = sized zs c.kind_for-kind.result c.packed_bytes-written.result c.kind_for-kind.ensures c.packed_bytes-written.ensures in
    let room : 4 + record_bytes (kind_for c.args.numbers.now) * (length c.args.numbers.now / 7) ≤ length c.args.bytes.now =
    rw (← s) c.if-bytes-written.false in
    let same : length c.put_header.new.bytes ≡ length c.args.bytes.now = search rules in
    rw c.kind_for-kind.ensures (packable t0 zs c.args.bytes.now p room c.put_header.new.bytes same)

pub returns-in_err-judge_numbers : goal.returns-in_err-judge_numbers
returns-in_err-judge_numbers c =
    let e : c.from_residual.result ≡ Err c.in_err-judge_numbers.field-0.0 = search rules in
    let packs =
    packs-refused c.args.t0 c.args.numbers.now c.args.bytes.now _
    (told c.args.t0 c.args.numbers.now c.ranges.t0 c.judge_numbers.ensures c.in_err-judge_numbers.was) in
    record { answer = e ∙ packs.0; lent = packs.1 }

pub returns : goal.returns
returns c =
    let t0 = c.args.t0 in
    let zs : List ℤ = c.args.numbers.now in
    let count : ℕ = length zs / 7 in
    let p = told t0 zs c.ranges.t0 c.judge_numbers.ensures c.in_ok-judge_numbers.was in
    let s = sized zs c.kind_for-kind.result c.packed_bytes-written.result c.kind_for-kind.ensures c.packed_bytes-written.ensures in
    let room : 4 + record_bytes (kind_for c.args.numbers.now) * (length c.args.numbers.now / 7) ≤ length c.args.bytes.now =
    rw (← s) c.if-bytes-written.false in
    let kinded = c.kind_for-kind.ensures in
    let header : ℕ → ℤ → List ℕ = λ k t. packed_header k count t ++ drop 4 c.args.bytes.now in
    let packs =
    packs-written t0 zs c.args.bytes.now p room c.write_jobs.new.bytes
    (c.write_jobs.ensures
    ∙ ap₂ (λ k bs. first_records k zs count bs) kinded
    (c.put_header.ensures ∙ ap₂ header kinded (to_z-of_z c.ranges.t0))) in
    record { answer = ap (λ n. Ok n) s ∙ packs.0; lent = packs.1 }
