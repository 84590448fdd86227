-- The question on two openings and the one that asks only who wins.
use Rattle.std.specs.Prelude.{ℕ, ◌≡◌, refl, List, ◌↔◌, ℤ, Ok, Err}
use Rattle.std.proofs.Common.{ap, sym, ◌∙◌}
use Rattle.packed.specs.Judge.{refusal_of}
use Rattle.ties.specs.Winning.{Chosen, TieRule}
use Rattle.choosing.specs.Choosing.{Asked, kind_won}
use Rattle.openings.specs.Answer.{Answer, chosen_in, kind_told, with_kind, Questioned}

module _ (first second : List ℕ) where
  -- Who wins is told as it is, or the refusal, and with it the kind of the winner's records.
  pub chosen-told : (c : Chosen) → chosen_in (with_kind first second c) ≡ c
  chosen-told (Err r) = refl
  chosen-told (Ok w) = refl

  pub refusal-told : (c : Chosen) → refusal_of (with_kind first second c) ≡ refusal_of c
  refusal-told (Err r) = refl
  refusal-told (Ok w) = refl

  pub kind-told : (c : Chosen) → kind_told (with_kind first second c) ≡ kind_won c first second
  kind-told (Err r) = refl
  kind-told (Ok w) = refl

  -- An answer is no more than both.
  both-told : (r : Answer) → kind_told r ≡ kind_won (chosen_in r) first second → r ≡ with_kind first second (chosen_in r)
  both-told (Err r) e = refl
  both-told (Ok w) e = λ i. Ok (record { winner = w.winner; kind = e i })

-- Its answer is who wins, and with that the kind of the winner's records.
pub questioned-is : {rule : TieRule} {first second : List ℕ} {t : ℤ} {work : List ℤ} {r : Answer} {work' : List ℤ}
    → Questioned rule first second t work r work'
    ↔ (Asked rule first second t work (chosen_in r) work' × (kind_told r ≡ kind_won (chosen_in r) first second))
questioned-is {rule} {first} {second} {t} {work} {r} {work'} = (there, back)
  where
    there : Questioned rule first second t work r work'
        → Asked rule first second t work (chosen_in r) work' × (kind_told r ≡ kind_won (chosen_in r) first second)
    there h =
        let won = ap chosen_in h.answer ∙ chosen-told first second _ in
        let kind = ap kind_told h.answer ∙ kind-told first second _ in
        (record { answer = won; area = h.area }, kind ∙ sym (ap (λ (c : Chosen). kind_won c first second) won))

    back : Asked rule first second t work (chosen_in r) work' × (kind_told r ≡ kind_won (chosen_in r) first second)
        → Questioned rule first second t work r work'
    back h =
        record { answer = both-told first second r h.1 ∙ ap (with_kind first second) h.0.answer; area = h.0.area }
