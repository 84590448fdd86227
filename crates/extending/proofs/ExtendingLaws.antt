-- The laws of extending by lists: what it is to be accepted, and the profile that is written from the last list.
use Rattle.std.specs.Prelude.{ℕ, ◌+◌, ◌≤◌, ◌≡◌, true, ◌↔◌, ℤ, length}
use Rattle.std.proofs.Common.{sym, ◌∙◌, arith}
use Rattle.std.proofs.Math.Path.{ap}
use mathlib.Core.List.{List}
use borrow.Author.Tests.{not-false}
use Rattle.seconds.specs.Limits.{most_weight, most_points}
use Rattle.order.specs.Job.{Point, weight_of}
use Rattle.profile.specs.Profile.{extend, last_weight}
use Rattle.profile.proofs.Closure.{extend-short}
use Rattle.packed.specs.Judge.{fine, judge}
use Rattle.packed.specs.JudgeLaws.{stages-fine, judge-at}
use Rattle.packed.specs.Packed.{count_of, numbers_of, order_of, jobs_in}
use Rattle.packed.specs.Refusals.{header_checks, job_checks}
use Rattle.packed.proofs.RefusalLaws.{HeaderFine, header-fine, JobsFine, jobs-fine, weight-fine}
use Rattle.packed.proofs.Accepted.{OrderFine, jobs-fit}
use Rattle.profiles.specs.Numbers.{alternating, holds_profile, written_over}
use Rattle.profiles.specs.Places.{points_of}
use Rattle.area.specs.Area.{area}
use Rattle.codes.specs.Code.{list_at}
use Rattle.codes.specs.HeldLaws.{held-read, list_length}
use Rattle.codes.specs.declared.Prefix.{Prefix}
use Rattle.reading.specs.Reading.{CanWrite}
use Rattle.filling.specs.Lists.{CanFill, FilledLast}
use Rattle.filling.specs.Begin.{CanBegin, Begun}
use Rattle.filling.specs.BeginLaws.{profile-valid}
use Rattle.extending.specs.Calls.{profile_given, profile_checks, extend_judged, extension}
use Rattle.extending.proofs.CallLaws.{given-read, seven, eight, nine}
use Rattle.extending.specs.Extending.{CanExtend, ExtendedIn}

-- ---- what it is to be accepted

-- 1 to 7 on the order, 8 on the profile, and 9 on both.
pub record Accepted (ns : List ℤ) (bytes : List ℕ) : Type 0 where
  pub header : HeaderFine bytes
  pub jobs : JobsFine (numbers_of bytes)
  pub valid : holds_profile ns ≡ true
  pub light : last_weight (profile_given ns) + weight_of (jobs_in bytes) ≤ most_weight

module _ (ns : List ℤ) (bytes : List ℕ) where
  -- The checks say so.
  pub accepted : judge (extend_judged ns bytes) ≡ fine ↔ Accepted ns bytes
  unfolding extend_judged
  accepted = (there, back)
    where
      there : judge (extend_judged ns bytes) ≡ fine → Accepted ns bytes
      there e =
          let last = (stages-fine (eight ns bytes) (nine ns bytes)).0 e in
          let third = (stages-fine (seven ns bytes) (profile_checks ns)).0 last.0 in
          let second = (stages-fine (header_checks bytes) (job_checks (numbers_of bytes))).0 third.0 in
          record {
            header = (header-fine bytes).0 second.0;
            jobs = (jobs-fine (numbers_of bytes)).0 second.1;
            valid = not-false _ (judge-at (profile_checks ns) third.1 0);
            light = (weight-fine (last_weight (profile_given ns)) (numbers_of bytes)).0 last.1;
          }

      back : Accepted ns bytes → judge (extend_judged ns bytes) ≡ fine
      back a =
          let second =
          (stages-fine (header_checks bytes) (job_checks (numbers_of bytes))).1
          ((header-fine bytes).1 a.header, (jobs-fine (numbers_of bytes)).1 a.jobs) in
          let profile : judge (profile_checks ns) ≡ fine = rw a.valid in
          let third = (stages-fine (seven ns bytes) (profile_checks ns)).1 (second, profile) in
          (stages-fine (eight ns bytes) (nine ns bytes)).1
          (third, (weight-fine (last_weight (profile_given ns)) (numbers_of bytes)).1 a.light)

-- The order by itself is accepted then.
pub accepted-order : {ns : List ℤ} {bytes : List ℕ} → Accepted ns bytes → OrderFine bytes
accepted-order a = record { header = a.header; jobs = a.jobs; light = omega (arith, a.light) }

-- ---- by lists

module _ {ns : List ℤ} {bytes : List ℕ} {out work : List ℤ} (f : CanExtend ns bytes out work) where
  all : Accepted ns bytes
  all = (accepted ns bytes).0 f.accepted

  -- There is a header to read, and it is fine.
  pub header-stands : HeaderFine bytes
  header-stands = all.header

  pub header-there : 4 ≤ length bytes
  header-there = header-stands.long

  -- The profile's points can be put in front,
  pub can-begin : CanBegin ns work
  can-begin = record { valid = all.valid; room = omega (arith, f.room) }

  module _ {n count : ℕ} {begun : List ℤ} (jobs : n ≡ count_of bytes) (b : Begun (points_of ns) count begun)
      (room : area ≤ length begun)
    where
      -- where they are the first list,
      first-is : list_at begun 0 count ≡ points_of ns
      first-is = rw b.counted (held-read b.held)

      light : last_weight (points_of ns) + weight_of (jobs_in bytes) ≤ most_weight
      light = omega (arith, all.light, ap last_weight (given-read ns all.valid))

      -- the lists of all jobs can be filled behind it,
      pub can-fill : CanFill bytes n count begun
      can-fill =
          record {
            order = accepted-order all;
            jobs = jobs;
            held = rw first-is b.held;
            valid = rw first-is (profile-valid ns all.valid);
            light = rw first-is light;
            room = room;
          }

      module _ {last : Prefix} {filled : List ℤ} (lists : FilledLast bytes count begun last filled) where
        last-extends : list_at filled last.place last.count ≡ extend (points_of ns) (jobs_in bytes)
        last-extends = lists.is ∙ ap (λ (ps : List Point). extend ps (jobs_in bytes)) first-is

        -- the last of them has no more points than a profile may have,
        last-few : last.count ≤ most_points
        last-few =
            omega (
              arith,
              light,
              list_length filled last.place last.count,
              ap length last-extends,
              extend-short (jobs_in bytes) (profile-valid ns all.valid).rises (jobs-fit bytes (accepted-order all)),
            )

        -- so it can be written,
        pub can-put : CanWrite filled last.place last.count out
        can-put =
            record { held = lists.list.held; room = lists.list.room; places = omega (arith, f.places, last-few) }

        -- and is the extended profile.
        last-is : list_at filled last.place last.count ≡ extension ns bytes
        unfolding order_of
        last-is = last-extends ∙ ap (λ (ps : List Point). extend ps (jobs_in bytes)) (sym (given-read ns all.valid))

        pub extended : {written : List ℤ} → written ≡ written_over (alternating (list_at filled last.place last.count)) out
            → ExtendedIn ns bytes out last.count written
        extended w =
            record {
              count = sym (list_length filled last.place last.count) ∙ ap length last-is;
              written = w ∙ ap (λ (ps : List Point). written_over (alternating ps) out) last-is;
            }
