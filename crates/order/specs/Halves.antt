-- Orders of halves: a long check is split into a critical half and an optional one behind it. When a job offends, and the
-- seconds of optional checking that a choice loses. Definitions only.
use Rattle.std.specs.Prelude.{ℕ, zero, suc, ◌+◌, ◌*◌, Bool, false, not, cond, ◌&&◌, ◌||◌, List, [], ◌∷◌, leb, ltb, eqb, take}
use Rattle.std.proofs.Math.Option.{Option, none, some}
use Rattle.std.proofs.Math.ListN.{get_elem?}
use Rattle.seconds.specs.Limits.{highest_half, halves_apart, seconds_per_weight}
use Rattle.order.specs.Job.{Job, length_of}
use Rattle.order.specs.Choice.{Choice}

-- A critical half: a critical job numbered 0 to 31.
abbrev pub is_half : Job → Bool
is_half p = p.critical && leb p.number highest_half

-- Whether p is the critical half that j belongs to: j's number is 32 above p's.
abbrev pub is_partner : Job → Job → Bool
is_partner j p = is_half p && eqb j.number (p.number + halves_apart)

-- Whether one of some jobs is.
abbrev pub has_partner : Job → List Job → Bool
has_partner j [] = false
has_partner j (p ∷ ps) = is_partner j p || has_partner j ps

-- A critical job offends if it is numbered above 31, any other if its length is not 60 seconds times its weight or it has no
-- partner among the earlier jobs.
abbrev pub offends : List Job → Job → Bool
offends earlier j =
    cond j.critical (ltb highest_half j.number)
    (not (eqb (length_of j) (seconds_per_weight * j.weight) && has_partner j earlier))

-- A place of some jobs offends if its job does, behind those before it.
abbrev offends_there : List Job → Option Job → Bool
offends_there earlier none = false
offends_there earlier (some j) = offends earlier j

abbrev pub offends_at : List Job → ℕ → Bool
offends_at js k = offends_there (take k js) (get_elem? js k)

-- The optional seconds lost: the lengths of the non-critical jobs left out, added.
abbrev pub lost_by : Job → ℕ → ℕ
lost_by j zero = cond j.critical 0 (length_of j)
lost_by j (suc k) = 0

abbrev pub seconds_lost : List Job → Choice → ℕ
seconds_lost [] c = 0
seconds_lost (j ∷ js) [] = 0
seconds_lost (j ∷ js) (x ∷ c) = lost_by j x + seconds_lost js c
