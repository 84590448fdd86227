-- Extending stage by stage, as the code goes through its checks: each refusal, and what is left when all are passed.
use Rattle.std.specs.Prelude.{ℕ, ◌≤◌, ◌<◌, ◌≡◌, true, false, List, ◌++◌, ℤ, length, drop, Ok, Err}
use Rattle.std.proofs.Math.Path.{sym, ap}
use Rattle.std.proofs.Common.{◌∙◌}
use Rattle.profile.specs.Profile.{last_weight}
use Rattle.packed.specs.declared.Refusal.{Refusal}
use Rattle.packed.specs.Judge.{plainly, Check, fine, refused, judge}
use Rattle.packed.specs.Packed.{numbers_of}
use Rattle.packed.specs.Refusals.{header_checks, job_checks, weight_checks, room_checks}
use Rattle.profiles.specs.Numbers.{most_numbers, holds_profile}
use Rattle.profiles.specs.Places.{points_of}
use Rattle.profiles.specs.NumbersLaws.{profile-there}
use Rattle.area.specs.Area.{area, cleared}
use Rattle.area.specs.Clearing.{cleared-same}
use Rattle.judge.specs.Told.{told-next, stays, no_room, no-space, all-fine}
use Rattle.extending.specs.Calls.{profile_given, profile_checks, extend_judged, extend_checks, extend_verdict, ExtendCall}
use Rattle.extending.specs.Extending.{ExtendedIn}

-- The profile given is read as the code reads it.
pub given-read : (ns : List ℤ) → holds_profile ns ≡ true → profile_given ns ≡ points_of ns
given-read ns e = rw (profile-there ns e)

module _ (ns : List ℤ) (bytes : List ℕ) where
  -- 1 to 7, 8 behind them, and 9.
  abbrev pub seven : List Check
  seven = header_checks bytes ++ job_checks (numbers_of bytes)

  abbrev pub eight : List Check
  eight = seven ++ profile_checks ns

  abbrev pub nine : List Check
  nine = weight_checks (last_weight (profile_given ns)) (numbers_of bytes)

  eight-fine : judge seven ≡ fine → holds_profile ns ≡ true → judge eight ≡ fine
  eight-fine passed valid = told-next seven (profile_checks ns) passed ∙ rw valid

  -- Past 8, the last weight of the profile is that of its points: the verdict of 9 with that weight,
  nine-told : {before : ℕ} → judge seven ≡ fine → holds_profile ns ≡ true → before ≡ last_weight (points_of ns)
      → judge (extend_judged ns bytes) ≡ judge (weight_checks before (numbers_of bytes))
  unfolding extend_judged
  nine-told passed valid e =
      told-next eight nine (eight-fine passed valid)
      ∙ ap (λ (w : ℕ). judge (weight_checks w (numbers_of bytes))) (ap last_weight (given-read ns valid) ∙ sym e)

  -- where it is fine, all that is judged before the room is.
  pub extend-passed : {before : ℕ} → judge seven ≡ fine → holds_profile ns ≡ true → before ≡ last_weight (points_of ns)
      → judge (weight_checks before (numbers_of bytes)) ≡ fine → judge (extend_judged ns bytes) ≡ fine
  extend-passed passed valid e f = nine-told passed valid e ∙ f

  module _ (out work : List ℤ) where
    -- A refusal changes no buffer.
    extend-refused : {r : Refusal} → extend_verdict ns bytes out work ≡ refused r → ExtendCall ns bytes out work (Err r) out work
    extend-refused e = record { answer = rw e; written = rw e; area = rw e }

    before-room : {r : Refusal} → judge (extend_judged ns bytes) ≡ refused r → ExtendCall ns bytes out work (Err r) out work
    unfolding extend_checks
    before-room e =
        extend-refused
        (stays (extend_judged ns bytes ++ room_checks most_numbers (length out)) (room_checks area (length work))
        (stays (extend_judged ns bytes) (room_checks most_numbers (length out)) e))

    -- By 1 to 7,
    pub extend-stopped : {r : Refusal} → judge seven ≡ refused r → ExtendCall ns bytes out work (Err r) out work
    unfolding extend_judged
    extend-stopped e = before-room (stays eight nine (stays seven (profile_checks ns) e))

    module _ (passed : judge seven ≡ fine) where
      -- by 8,
      pub extend-not-valid : holds_profile ns ≡ false → ExtendCall ns bytes out work (Err (plainly 8)) out work
      unfolding extend_judged
      extend-not-valid e =
          before-room (stays eight nine (told-next seven (profile_checks ns) passed ∙ rw e))

      -- by 9,
      pub extend-too-heavy : {r : Refusal} {before : ℕ} → holds_profile ns ≡ true → before ≡ last_weight (points_of ns)
          → judge (weight_checks before (numbers_of bytes)) ≡ refused r → ExtendCall ns bytes out work (Err r) out work
      extend-too-heavy valid e f = before-room (nine-told passed valid e ∙ f)

    module _ (passed : judge (extend_judged ns bytes) ≡ fine) where
      -- by the room for a profile,
      pub extend-no-room : length out < most_numbers → ExtendCall ns bytes out work (Err (plainly 10)) out work
      unfolding extend_checks
      extend-no-room h = extend-refused (no_room (extend_judged ns bytes) passed most_numbers (length out) area (length work) h)

      module _ (places : most_numbers ≤ length out) where
        -- or by that for the lists.
        pub extend-no-space : length work < area → ExtendCall ns bytes out work (Err (plainly 10)) out work
        unfolding extend_checks
        extend-no-space h =
            extend-refused (no-space (extend_judged ns bytes) passed most_numbers (length out) area (length work) places h)

        -- Past all of them the profile is extended, and the work area cleared.
        pub extend-fine : area ≤ length work → extend_verdict ns bytes out work ≡ fine
        unfolding extend_checks
        extend-fine h = all-fine (extend_judged ns bytes) passed most_numbers (length out) area (length work) places h

        pub extend-done : {points : ℕ} {written left : List ℤ} (filled : List ℤ) → area ≤ length work
            → ExtendedIn ns bytes out points written → drop area filled ≡ drop area work → left ≡ cleared filled
            → ExtendCall ns bytes out work (Ok points) written left
        extend-done filled h x past c =
            let e = extend-fine h in
            record {
              answer = rw (e, x.count);
              written = rw e x.written;
              area = rw e (c ∙ cleared-same work filled past);
            }
