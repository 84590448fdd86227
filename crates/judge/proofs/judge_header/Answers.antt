-- `judge::judge_header` meets its contract: the tests are those of the checks, one after the other.
-- Assumes nothing.
use mathlib.Core.Path.{◌≡◌, sym, ◌∙◌, ap}
use Prim.Native.Nat.{ℕ, ◌+◌, ◌*◌, ◌≤◌}
use mathlib.Core.Logic.{◌≢◌}
use native.Mathlib.Nat.{mul-le-mul}
use native.Mathlib.Omega.{arith}
use mathlib.Core.Bool.{Bool, cond, not}
use mathlib.Core.List.{List}
use lib.ListN.{length}
use mir.Syntax.{w32}
use mir.Val.{SFits, to_z, of_z}
use mir.Facts.{to_z-of_z}
use borrow.Author.Rules.{rules}
use borrow.Author.Tests.{lt-ltb, le-ltb, eq-eqb, ne_eqb}
use Rattle.seconds.specs.Ranges.{is_time}
use Rattle.packed.specs.Layout.{record_bytes}
use Rattle.packed.proofs.LayoutLaws.{bytes-few}
use Rattle.packed.specs.Judge.{plainly, refused, judge}
use Rattle.packed.specs.Packed.{header_of}
use Rattle.packed.specs.Refusals.{header_checks}
use Rattle.packed.proofs.Steps.{header-judge}
use Rattle.fields.specs.Facts.{HeaderRead, header_read}
use Rattle.fields.specs.Fields.{header_fields}
use Rattle.fields.specs.declared.Header.{Header}
use Rattle.judge.specs.Verdicts.{kind_judged}
use Rattle.judge.specs.Kind.{records-stand}
use Rattle.judge.specs.Told.{header-told}
use Rattle.judge.proofs.judge_header.Goals as goal

pub returns-then-bytes-lt4 : goal.returns-then-bytes-lt4
returns-then-bytes-lt4 c =
    let bytes = c.args.bytes.now in
    rw (c.into.ensures, header-judge bytes, lt-ltb (length bytes) 4 c.if-bytes-lt4.true)

pub returns-then-header-gt1 : goal.returns-then-header-gt1
returns-then-header-gt1 c =
    let bytes = c.args.bytes.now in
    let header = c.header_at-header.result in
    rw (
      c.into-then-header-gt1.ensures,
      header-told bytes header (header_read bytes header c.header_at-header.ensures),
      le-ltb (length bytes) 4 c.if-bytes-lt4.false,
      lt-ltb 1 header.kind c.if-header-gt1.true,
    )

pub returns-then-header-gt-MOST_JOBS : goal.returns-then-header-gt-MOST_JOBS
returns-then-header-gt-MOST_JOBS c =
    let bytes = c.args.bytes.now in
    let header = c.header_at-header.result in
    rw (
      c.into-then-header-gt-MOST_JOBS.ensures,
      header-told bytes header (header_read bytes header c.header_at-header.ensures),
      le-ltb (length bytes) 4 c.if-bytes-lt4.false,
      le-ltb 1 header.kind c.if-header-gt1.false,
      lt-ltb 48 header.count c.if-header-gt-MOST_JOBS.true,
    )

-- The length that the header asks for.
module _ (long size kind count : ℕ) (sized : size ≡ record_bytes kind) where
  few : count ≤ 48 → size * count ≤ 9 * 48
  few h =
      let small : size ≤ 9 = omega (arith, sized, (bytes-few kind).1) in
      mul-le-mul small h

  whole : long ≡ 4 + size * count → long ≡ 4 + record_bytes kind * count
  whole e = e ∙ ap (λ n. 4 + n * count) sized

  other : long ≢ 4 + size * count → long ≢ 4 + record_bytes kind * count
  other n e = n (e ∙ sym (ap (λ m. 4 + m * count) sized))

pub overflow_mul-record_bytes : goal.overflow_mul-record_bytes
overflow_mul-record_bytes c =
    let header = c.header_at-header.result in
    let h = few 0 c.record_bytes.result header.kind header.count c.record_bytes.ensures c.if-header-gt-MOST_JOBS.false in
    omega (arith, h)

pub overflow_add-record_bytes : goal.overflow_add-record_bytes
overflow_add-record_bytes c =
    let header = c.header_at-header.result in
    let h = few 0 c.record_bytes.result header.kind header.count c.record_bytes.ensures c.if-header-gt-MOST_JOBS.false in
    omega (arith, h)

pub returns-then-bytes-record_bytes : goal.returns-then-bytes-record_bytes
returns-then-bytes-record_bytes c =
    let bytes = c.args.bytes.now in
    let header = c.header_at-header.result in
    rw (
      c.into-then-bytes-record_bytes.ensures,
      header-told bytes header (header_read bytes header c.header_at-header.ensures),
      le-ltb (length bytes) 4 c.if-bytes-lt4.false,
      le-ltb 1 header.kind c.if-header-gt1.false,
      le-ltb 48 header.count c.if-header-gt-MOST_JOBS.false,
      ne_eqb (length bytes) (4 + record_bytes header.kind * header.count)
          (other (length bytes) c.record_bytes.result header.kind header.count c.record_bytes.ensures c.if-bytes-record_bytes.true),
    )

-- Past the fourth test, the bus-free time has been tested, and only the fifth check is left.
left : (bytes : List ℕ) (header : Header) (size : ℕ) (timely : Bool) → header_fields header ≡ header_of bytes → SFits w32 header.t0
    → 4 ≤ length bytes → header.kind ≤ 1 → header.count ≤ 48 → size ≡ record_bytes header.kind
    → length bytes ≡ 4 + size * header.count → timely ≡ is_time (to_z w32 (of_z w32 header.t0))
    → judge (header_checks bytes) ≡ cond (not timely) (refused (plainly 5)) (kind_judged bytes)
left bytes header size timely read fits long known few sized all time =
    rw (
      header-told bytes header (header_read bytes header read),
      le-ltb (length bytes) 4 long,
      le-ltb 1 header.kind known,
      le-ltb 48 header.count few,
      eq-eqb (length bytes) (4 + record_bytes header.kind * header.count) (whole (length bytes) size header.kind header.count sized all),
      time ∙ ap is_time (to_z-of_z fits),
    )

pub returns-then-not-is_time : goal.returns-then-not-is_time
returns-then-not-is_time c =
    let fits : SFits w32 c.header_at-header.result.t0 = search rules in
    let l = left c.args.bytes.now c.header_at-header.result c.record_bytes.result c.is_time.result c.header_at-header.ensures fits
    c.if-bytes-lt4.false c.if-header-gt1.false c.if-header-gt-MOST_JOBS.false c.record_bytes.ensures c.if-bytes-record_bytes.false c.is_time.ensures in
    rw (c.into-then-not-is_time.ensures, l, c.if-not-is_time.true)

pub invariant_of-judge_kind : goal.invariant_of-judge_kind
invariant_of-judge_kind c =
    let bytes = c.args.bytes.now in
    let header = c.header_at-header.result in
    let r : HeaderRead c.args.bytes.now c.header_at-header.result = header_read bytes header c.header_at-header.ensures in
    record {
      stand = records-stand bytes header.count header.kind r.count r.kind c.if-header-gt1.false c.if-header-gt-MOST_JOBS.false
          (whole (length bytes) c.record_bytes.result header.kind header.count c.record_bytes.ensures c.if-bytes-record_bytes.false);
    }

pub returns : goal.returns
returns c =
    let fits : SFits w32 c.header_at-header.result.t0 = search rules in
    let l = left c.args.bytes.now c.header_at-header.result c.record_bytes.result c.is_time.result c.header_at-header.ensures fits
    c.if-bytes-lt4.false c.if-header-gt1.false c.if-header-gt-MOST_JOBS.false c.record_bytes.ensures c.if-bytes-record_bytes.false c.is_time.ensures in
    rw (c.judge_kind.ensures, l, c.if-not-is_time.false)
