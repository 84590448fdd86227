-- The first of a list by the ranking: there unless the list is empty, listed, and nothing listed ranks before it.
use Prim.Native.Nat.{Ordering}
use Rattle.std.specs.Prelude.{◌≡◌, refl, ◌↔◌}
use Rattle.std.proofs.Common.{ap, ⊎_elim}
use mathlib.Core.List.Memᴰ
use mathlib.Core.List.{List, [], ◌∷◌, Memᴰ}
use Rattle.std.proofs.Math.Option.{none, some, some-injective, none-ne-some, some-ne-none}
use Rattle.plan.specs.Plan.{Ended, ranking, first_by, or_first, first}
use Rattle.plan.proofs.Comparing.{ranking-total}
use Rattle.plan.proofs.Ranking.{Before, not-before-itself, not-both, same_rank}

-- It is listed, and nothing listed ranks before it.
pub record IsFirst (l : List Ended) (a : Ended) : Type 0 where
  pub listed : Memᴰ a l
  pub leads : (b : Ended) → Memᴰ b l → ¬ Before b a

-- The first of a list, held against one more.
with-one-more : (a m : Ended) (l : List Ended) → IsFirst l m → IsFirst (a ∷ l) (first_by (ranking a m) a m)
with-one-more a m l f = go (ranking a m) refl
  where
    go : (o : Ordering) → ranking a m ≡ o → IsFirst (a ∷ l) (first_by o a m)
    go Ordering.lt e =
        record {
          listed = Memᴰ.head refl;
          leads = λ b i h.
              ⊎_elim (λ s. not-before-itself b a s h) (λ j. f.leads b j (ranking-total.transitive b a m h e))
              (Memᴰ.cases_cons i);
        }
    go Ordering.eq e =
        let same : a ≡ m = (ranking-total.equal a m).0 e in
        record {
          listed = Memᴰ.head refl;
          leads = λ b i h.
              ⊎_elim (λ s. not-before-itself b a s h) (λ j. f.leads b j (rw same at h)) (Memᴰ.cases_cons i);
        }
    go Ordering.gt e =
        let k : Before m a = cc (ranking-total.turned a m) in
        record {
          listed = Memᴰ.tail f.listed;
          leads = λ b i h.
              ⊎_elim (λ s. not-both b m h (rw s k)) (λ j. f.leads b j h) (Memᴰ.cases_cons i);
        }

-- A list that has one has a first.
first_of : (a : Ended) (l : List Ended) → IsFirst (a ∷ l) (or_first a (first l))
first_of a [] =
    record {
      listed = Memᴰ.head refl;
      leads = λ b i. ⊎_elim (not-before-itself b a) (λ j. absurd (Memᴰ.not-nil j)) (Memᴰ.cases_cons i);
    }
first_of a (b ∷ l) = with-one-more a (or_first b (first l)) (b ∷ l) (first_of b l)

-- A list has at most one first.
pub first_one : (l : List Ended) (a b : Ended) → IsFirst l a → IsFirst l b → a ≡ b
first_one l a b f g = same_rank a b (g.leads a f.listed) (f.leads b g.listed)

-- The first is listed and nothing listed ranks before it, and what is so is the first.
pub first-is : (l : List Ended) (a : Ended) → (first l ≡ some a) ↔ IsFirst l a
first-is [] a = (λ e. absurd (none-ne-some a e), λ f. absurd (Memᴰ.not-nil f.listed))
first-is (b ∷ l) a =
    let m = or_first b (first l) in
    (λ e. rw (some-injective m a e) at (first_of b l), λ f. ap some (first_one (b ∷ l) m a (first_of b l) f))

-- There is a first unless the list is empty.
pub first-none : (l : List Ended) → (first l ≡ none) ↔ (l ≡ [])
first-none [] = (λ e. refl, λ e. refl)
first-none (b ∷ l) = (λ e. absurd (some-ne-none (or_first b (first l)) e), λ e. ap first e)
