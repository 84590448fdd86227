-- What it is for one ended choice to rank before another, in the words of R7.
use Prim.Native.Nat.{ℕ, ◌<◌, compare, Ordering}
use Rattle.std.specs.Prelude.{◌≡◌, refl, ◌↔◌, ◌⊎◌, ◌<ℤ◌}
use Rattle.std.proofs.Common.{sym, inl, inr, arith}
use Rattle.plan.specs.Plan.{compare_z, or_then, by_last_place, Ended, ranking}
use Rattle.plan.proofs.Comparing.{or_then-lt, compare-lt, compare-total, compare_z-lt, compare_z-total, ranking-total}

-- a ranks before b.
abbrev pub Before : Ended → Ended → Type 0
Before a b = ranking a b ≡ Ordering.lt

-- More weight; or as much, and free sooner; or both the same, and first by the tie rule.
pub data Better (a b : Ended) : Type 0 where
  heavier : b.end.weight < a.end.weight → Better a b
  sooner : a.end.weight ≡ b.end.weight → a.end.time <ℤ b.end.time → Better a b
  tied : a.end.weight ≡ b.end.weight → a.end.time ≡ b.end.time → by_last_place a.choice b.choice ≡ Ordering.lt
      → Better a b

-- The three comparisons that the ranking goes by.
abbrev by_weight : Ended → Ended → Ordering
by_weight a b = compare b.end.weight a.end.weight

abbrev by_time : Ended → Ended → Ordering
by_time a b = compare_z a.end.time b.end.time

abbrev by_place : Ended → Ended → Ordering
by_place a b = by_last_place a.choice b.choice

-- The weights are compared the other way round.
weight-eq : (a b : Ended) → (by_weight a b ≡ Ordering.eq) ↔ (a.end.weight ≡ b.end.weight)
weight-eq a b =
    let e = compare-total.equal b.end.weight a.end.weight in
    (λ h. sym (e.0 h), λ h. e.1 (sym h))

-- The ranking says so, both ways.
pub before-is : (a b : Ended) → Before a b ↔ Better a b
before-is a b = (λ h. to-weight (or_then-lt (by_weight a b) (or_then (by_time a b) (by_place a b)) h), back)
  where
    to-time : a.end.weight ≡ b.end.weight
        → (by_time a b ≡ Ordering.lt) ⊎ ((by_time a b ≡ Ordering.eq) × (by_place a b ≡ Ordering.lt)) → Better a b
    to-time w (inl t) = sooner w ((compare_z-lt a.end.time b.end.time).0 t)
    to-time w (inr t) = tied w ((compare_z-total.equal a.end.time b.end.time).0 t.0) t.1

    to-weight : (by_weight a b ≡ Ordering.lt) ⊎ ((by_weight a b ≡ Ordering.eq) × (or_then (by_time a b) (by_place a b) ≡ Ordering.lt))
        → Better a b
    to-weight (inl w) = heavier ((compare-lt b.end.weight a.end.weight).0 w)
    to-weight (inr w) = to-time ((weight-eq a b).0 w.0) (or_then-lt (by_time a b) (by_place a b) w.1)

    back : Better a b → Before a b
    back (heavier w) = rw ((compare-lt b.end.weight a.end.weight).1 w)
    back (sooner w t) = rw ((weight-eq a b).1 w, (compare_z-lt a.end.time b.end.time).1 t)
    back (tied w t p) = rw ((weight-eq a b).1 w, (compare_z-total.equal a.end.time b.end.time).1 t, p)

-- Nothing ranks before itself, nor before what ranks before it.
pub not-before-itself : (a b : Ended) → a ≡ b → ¬ Before a b
not-before-itself a b e h =
    let z : ◌≡◌ {A = ℕ} 0 1 = cc ((ranking-total.equal a b).1 e) in absurd (omega arith)

pub not-both : (a b : Ended) → Before a b → ¬ Before b a
not-both a b h k = not-before-itself a a refl (ranking-total.transitive a b a h k)

-- Of two that do not rank before each other there is only one.
pub same_rank : (a b : Ended) → ¬ Before a b → ¬ Before b a → a ≡ b
same_rank a b f g = go (ranking a b) refl
  where
    go : (o : Ordering) → ranking a b ≡ o → a ≡ b
    go Ordering.lt e = absurd (f e)
    go Ordering.eq e = (ranking-total.equal a b).0 e
    go Ordering.gt e = absurd (g (cc (ranking-total.turned a b)))
