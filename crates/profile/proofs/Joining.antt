-- Extending and better-of put together, over all lists of points and jobs, the empty ones too: extending twice is extending
-- by the joined jobs, better-of may be taken before extending, and better-of is as free of order as a maximum.
use Rattle.std.specs.Prelude.{◌≡◌, List, [], ◌∷◌, ◌++◌}
use Rattle.std.proofs.Common.{sym, ap, ◌∙◌, append_assoc, append-nil, ⊎_elim}
use Rattle.order.specs.Job.{Job, Order, Point, joined}
use Rattle.order.specs.Choice.{outcomes}
use Rattle.order.specs.Given.{◌⊑◌}
use Rattle.order.proofs.Outcomes.{outcomes-append}
use Rattle.order.proofs.GivenLaws.{given-left, given-right, given-either}
use Rattle.order.proofs.GivenLaws.{same_refl, same-sym, same-trans, same-append, same-outcomes, same_then}
use Rattle.profile.specs.Profile.{profile_of, extend, better_of, start_point, order_profile}
use Rattle.profile.proofs.Rising.{Rising}
use Rattle.profile.proofs.Points.{profile_of-same, profile_of-cong, profile_of-rising}

-- ---- extending

-- By some jobs and then by others.
pub extend-extend : (P : List Point) (A B : List Job) → extend (extend P A) B ≡ extend P (A ++ B)
extend-extend P A B = profile_of-cong (same-trans (same-outcomes B (profile_of-same (outcomes A P))) (same_then A B P))

-- The same over orders: the joined order's jobs, and its profile.
pub extend-joined : (P : List Point) (a b : Order) → extend P (joined a b).jobs ≡ extend (extend P a.jobs) b.jobs
extend-joined P a b = sym (extend-extend P a.jobs b.jobs)

pub order_profile-joined : (a b : Order) → order_profile (joined a b) ≡ extend (order_profile a) b.jobs
order_profile-joined a b = extend-joined (start_point a.t0 ∷ []) a b

-- ---- better-of

-- Taken before extending, or after.
pub extend-better_of : (P Q : List Point) (A : List Job) → extend (better_of P Q) A ≡ better_of (extend P A) (extend Q A)
extend-better_of P Q A =
    profile_of-cong (same-outcomes A (profile_of-same (P ++ Q)))
    ∙ ap profile_of (outcomes-append A P Q)
    ∙ profile_of-cong (same-sym (same-append (profile_of-same (outcomes A P)) (profile_of-same (outcomes A Q))))

-- In either order.
swap : (P Q : List Point) → (P ++ Q) ⊑ (Q ++ P)
swap P Q r g = ⊎_elim (given-right Q) (given-left P) (given-either P g)

pub better_of-comm : (P Q : List Point) → better_of P Q ≡ better_of Q P
better_of-comm P Q = profile_of-cong (record { to = swap P Q; back = swap Q P })

-- In either grouping.
pub better_of-assoc : (P Q R : List Point) → better_of (better_of P Q) R ≡ better_of P (better_of Q R)
better_of-assoc P Q R =
    profile_of-cong (same-append (profile_of-same (P ++ Q)) (same_refl R))
    ∙ ap profile_of (append_assoc P Q R)
    ∙ profile_of-cong (same-append (same_refl P) (same-sym (profile_of-same (Q ++ R))))

-- With itself.
pub better_of-self : (P : List Point) → better_of P P ≡ profile_of P
better_of-self P =
    profile_of-cong (record { to = λ r g. ⊎_elim (λ h. h) (λ h. h) (given-either P g); back = λ r g. given-left P g })

-- With no points.
pub better_of-none : (P : List Point) → better_of P [] ≡ profile_of P
better_of-none P = ap profile_of (append-nil P)

-- Of a rising list each of these is the list itself.
pub better_of-idem : {P : List Point} → Rising P → better_of P P ≡ P
better_of-idem {P} r = better_of-self P ∙ profile_of-rising r

pub none-neutral : {P : List Point} → Rising P → (better_of [] P ≡ P) × (better_of P [] ≡ P)
none-neutral {P} r = (profile_of-rising r, better_of-none P ∙ profile_of-rising r)
