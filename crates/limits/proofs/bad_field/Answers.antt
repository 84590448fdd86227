-- `limits::bad_field` meets its contract: the seven tests are those of the definition, and each branch names its field.
-- Assumes nothing.
use mathlib.Core.Path.{◌≡◌, ◌∙◌, ap}
use lib.Dec.{eqb}
use lib.IntN.{pos}
use mir.Syntax.{w32}
use mir.Val.{of_z}
use mir.Facts.{to_z-of_z}
use borrow.Author.Rules.{rules}
use Rattle.seconds.specs.Limits.{highest_pack, longest}
use Rattle.seconds.specs.Ranges.{is_between, is_time}
use Rattle.packed.specs.Refusals.{weight_test}
use Rattle.fields.specs.Facts.{JobFits}
use Rattle.limits.specs.Tests.{job-tested}
use Rattle.fields.specs.declared.Job.{Job}
use Rattle.limits.proofs.bad_field.Goals as goal

pub returns : goal.returns
returns c =
    let j : Job = c.args.job in
    let f : JobFits c.args.job = record {
      number = search rules;
      pack = search rules;
      critical = search rules;
      weight = search rules;
      ready = search rules;
      long = search rules;
      deadline = search rules;
    } in
    let number : c.between-4.result ≡ is_between (pos 0) (pos 63) j.number =
    c.between-4.ensures ∙ ap (is_between (pos 0) (pos 63)) (to_z-of_z f.number) in
    let pack : c.between-3.result ≡ is_between (pos 0) (pos highest_pack) j.pack =
    c.between-3.ensures ∙ ap (is_between (pos 0) (pos highest_pack)) (to_z-of_z f.pack) in
    let critical : c.between-2.result ≡ is_between (pos 0) (pos 1) j.critical =
    c.between-2.ensures ∙ ap (is_between (pos 0) (pos 1)) (to_z-of_z f.critical) in
    let weight : c.weight_within.result ≡ weight_test (eqb (of_z w32 j.critical) 1) j.weight =
    c.weight_within.ensures ∙ ap (weight_test (eqb (of_z w32 j.critical) 1)) (to_z-of_z f.weight) in
    let ready : c.is_time-2.result ≡ is_time j.ready =
    c.is_time-2.ensures ∙ ap is_time (to_z-of_z f.ready) in
    let long : c.between.result ≡ is_between (pos 1) (pos longest) j.length =
    c.between.ensures ∙ ap (is_between (pos 1) (pos longest)) (to_z-of_z f.long) in
    let deadline : c.is_time.result ≡ is_time j.deadline =
    c.is_time.ensures ∙ ap is_time (to_z-of_z f.deadline) in
    rw (
      c.field_or.ensures,
      number,
      c.field_or-bad-6.ensures,
      pack,
      c.field_or-bad-5.ensures,
      critical,
      c.field_or-bad-4.ensures,
      weight,
      c.field_or-bad-3.ensures,
      ready,
      c.field_or-bad-2.ensures,
      long,
      c.field_or-bad.ensures,
      deadline,
    )
    (job-tested j)
