-- The tie rule as computed facts: it looks at the last place where two choices differ, and there the job is left out.
use Rattle.std.specs.Prelude.{◌≡◌, refl, [], ◌∷◌}
use Prim.Native.Nat.{Ordering}
use Rattle.plan.specs.Plan.{by_last_place}

-- P6's two choices: keeping the first of two alike comes first, since the last place that differs is left out.
pub last-place-decides : by_last_place (1 ∷ 0 ∷ []) (0 ∷ 1 ∷ []) ≡ Ordering.lt
last-place-decides = refl

-- Equal picks behind it do not count.
pub same-end-passed-over : by_last_place (0 ∷ 1 ∷ 1 ∷ []) (1 ∷ 0 ∷ 1 ∷ []) ≡ Ordering.gt
same-end-passed-over = refl
