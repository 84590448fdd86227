-- What the code of better-of learns on its way, as the answer of the call and the lent numbers after it.
use Rattle.std.specs.Prelude.{ℕ, ◌*◌, ◌/◌, ◌≤◌, ◌<◌, ◌≡◌, refl, true, false, List, ltb, ℤ, length, take, drop, Ok, Err}
use Rattle.std.proofs.Common.{ap, ap₂, ◌∙◌, arith, take_at}
use Rattle.std.proofs.Math.Option.{Option, none, some}
use Rattle.seconds.specs.Signed.{signed}
use Rattle.refusals.specs.declared.Reason.TheVariants.{ProfileNotValid, BufferTooShort}
use Rattle.order.specs.Job.{Point}
use Rattle.profile.specs.Profile.{better_of}
use Rattle.profile.proofs.Closure.{valid-better_of}
use Rattle.profiles.specs.Numbers.{most_numbers, alternating, profile_in, holds_profile, written_over}
use Rattle.profiles.specs.Places.{points_of}
use Rattle.profiles.specs.NumbersLaws.{alternating-length, profile-back, profile-holds, profile-there, profile-not}
use Rattle.better.specs.Answer.{Joined, better_in, joined_in, out_in, joined_of, out_after, points_written}
use Rattle.better.specs.Merging.{Joinable, Merged}

module _ (p q was : List ℤ) where
  -- The answer and the lent numbers after the call are as they should be.
  abbrev Joins : Joined → List ℤ → Type 0
  Joins r out = (r ≡ joined_of p q was) × (out ≡ out_after p q was)

  -- Both follow from what the better of the two profiles is.
  joins-by : (o : Option (List Point)) → better_in (profile_in p) (profile_in q) ≡ o → Joins (joined_in o (length was)) (out_in o was)
  joins-by o e = rw e (refl, refl)

  -- The first is no valid profile,
  pub joins-first-not : holds_profile p ≡ false → Joins (Err ProfileNotValid) was
  joins-first-not e = joins-by none (ap (λ (o : Option (List Point)). better_in o (profile_in q)) (profile-not p e))

  -- or the second is none.
  pub joins-second-not : holds_profile q ≡ false → Joins (Err ProfileNotValid) was
  joins-second-not e = joins-by none (ap (better_in (profile_in p)) (profile-not q e) ∙ go (profile_in p))
    where
      go : (o : Option (List Point)) → better_in o none ≡ none
      go none = refl
      go (some ps) = refl

  -- Both are,
  both-valid : holds_profile p ≡ true → holds_profile q ≡ true
      → better_in (profile_in p) (profile_in q) ≡ some (better_of (points_of p) (points_of q))
  both-valid e f = ap₂ better_in (profile-there p e) (profile-there q f)

  -- and the room is too little,
  pub joins-no-room : holds_profile p ≡ true → holds_profile q ≡ true → length was < most_numbers → Joins (Err BufferTooShort) was
  joins-no-room e f h =
      let short : ltb (length was) most_numbers ≡ true = omega signed in
      rw short at (joins-by (some (better_of (points_of p) (points_of q))) (both-valid e f))

  -- or the better of them is written.
  pub joins-written : (n : ℕ) (out : List ℤ) → Joinable p q was → Merged p q was n out → Joins (Ok (n / 2)) out
  joins-written n out g m =
      let better = better_of (points_of p) (points_of q) in
      let room = g.room in
      let long : ltb (length was) most_numbers ≡ false = omega signed in
      let half : n / 2 ≡ length better = omega (arith, m.count) in
      rw (half, m.written) (rw long at (joins-by (some better) (both-valid g.first g.second)))

-- What is written for two profiles is a profile again, the better of both.
pub written_back : (p q was : List ℤ) (ps qs : List Point) → profile_in p ≡ some ps → profile_in q ≡ some qs → most_numbers ≤ length was
    → profile_in (take (2 * points_written (joined_of p q was)) (out_after p q was)) ≡ some (better_of ps qs)
written_back p q was ps qs e f room =
    let better = better_of ps qs in
    let long : ltb (length was) most_numbers ≡ false = omega signed in
    let valid = valid-better_of ps qs ((profile-holds p ps).0 e).valid ((profile-holds q qs).0 f).valid in
    let rest = drop (length (alternating better)) was in
    let front : take (2 * length better) (written_over (alternating better) was) ≡ alternating better =
    take_at (alternating better) rest (2 * length better) (alternating-length better) in
    rw (e, f, long, front) (profile-back better valid)
