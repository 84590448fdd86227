-- P3 of the rules over records, as a computed fact; and records that are no profile.
use Rattle.std.specs.Prelude.{◌≡◌, refl, List, [], ◌∷◌, map, ℤ, pos, negsuc, Ok, Err, Some, None}
use Rattle.seconds.specs.Limits.{rest}
use Rattle.refusals.specs.declared.Reason.TheVariants.{ProfileNotValid}
use Rattle.profiles.specs.Answer.{lookup_of}
use Rattle.point_records.specs.Records.{flattened}
use Rattle.point_records.specs.declared.Point.{Point}

-- A record.
abbrev point : ℤ → ℤ → Point
point t w = record { time = t; weight = w }

-- P2: 214 finds nothing, 215 gives 0, 454 gives 30, 455 gives 35.
pub over-records :
    map (lookup_of (flattened
    (point (pos 215) (pos 0) ∷ point (pos 330) (pos 15) ∷ point (pos 340) (pos 20) ∷ point (pos 445) (pos 30)
    ∷ point (pos 455) (pos 35) ∷ [])))
    (pos 214 ∷ pos 215 ∷ pos 454 ∷ pos 455 ∷ [])
    ≡ Ok None ∷ Ok (Some 0) ∷ Ok (Some 30) ∷ Ok (Some 35) ∷ []
unfolding rest
over-records = refl

-- Times that do not rise, and a negative weight.
pub no-profile :
    map (λ (ps : List Point). lookup_of (flattened ps) (pos 9))
    ((point (pos 5) (pos 0) ∷ point (pos 5) (pos 1) ∷ []) ∷ (point (pos 5) (negsuc 0) ∷ []) ∷ [])
    ≡ Err ProfileNotValid ∷ Err ProfileNotValid ∷ []
unfolding rest
no-profile = refl
