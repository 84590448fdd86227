-- The calls stage by stage, as the code goes through their checks: each refusal, and what is left when all are passed.
use Rattle.std.specs.Prelude.{ℕ, ◌≤◌, ◌<◌, ◌≡◌, refl, List, ◌++◌, ℤ, length, drop, Ok, Err}
use Rattle.std.proofs.Common.{sym, subst, ◌∙◌, arith, lt-ltb, le-ltb}
use Rattle.std.specs.Borrow.{Bor}
use Rattle.packed.specs.declared.Refusal.{Refusal}
use Rattle.packed.specs.Judge.{plainly, without_place, Verdict as Judged, fine, refused, judge}
use Rattle.packed.specs.JudgeLaws.{stages-fine}
use Rattle.packed.specs.Refusals.{room_checks, order_checks}
use Rattle.packed.proofs.Accepted.{order-fine}
use Rattle.area.specs.Area.{area, cleared}
use Rattle.area.specs.Clearing.{cleared-same}
use Rattle.judge.specs.Told.{stays, told-next}
use Rattle.ties.specs.Winning.{Chosen, TieRule, winner_by}
use Rattle.ties.specs.declared.Winner.{Winner}
use Rattle.ties.specs.declared.Winner.TheVariants.{First, Second}
use Rattle.choosing.specs.Choosing.{choosing_checks, choosing_verdict}
use Rattle.choosing.specs.Choosing.{chosen_by, work_by, chosen_of, Asked, part_of, place_of, Handed, winner_of}
use Rattle.choosing.specs.Comparing.{CanCompare}

-- ---- the checks

-- Past the checks the work area is cleared, whatever the answer.
pub cleared-past : (won : Chosen) (work : List ℤ) → work_by fine won work ≡ cleared work
cleared-past (Err r) work = refl
cleared-past (Ok w) work = refl

module _ (rule : TieRule) (first second : List ℕ) (t : ℤ) (work : List ℤ) where
  -- A refusal by these checks is given without its place, and leaves the work area as it was.
  by-verdict : {r : Refusal} → choosing_verdict first second work ≡ refused r → Asked rule first second t work (Err (without_place r)) work
  by-verdict e = record { answer = rw e; area = rw e }

  orders-refused : {r : Refusal} → judge (order_checks first ++ order_checks second) ≡ refused r
      → Asked rule first second t work (Err (without_place r)) work
  unfolding choosing_checks
  orders-refused e = by-verdict (stays (order_checks first ++ order_checks second) (room_checks area (length work)) e)

  -- The first order is refused,
  pub first-refused : (r : Refusal) → judge (order_checks first) ≡ refused r
      → Asked rule first second t work (Err (without_place r)) work
  first-refused r e = orders-refused (stays (order_checks first) (order_checks second) e)

  -- or the second is,
  pub second-refused : (r : Refusal) → judge (order_checks first) ≡ fine → judge (order_checks second) ≡ refused r
      → Asked rule first second t work (Err (without_place r)) work
  second-refused r passed e =
      orders-refused (told-next (order_checks first) (order_checks second) passed ∙ e)

  module _ (both : CanCompare first second) where
    both-fine : judge (order_checks first ++ order_checks second) ≡ fine
    both-fine = told-next (order_checks first) (order_checks second) both.one ∙ both.other

    room-told : choosing_verdict first second work ≡ judge (room_checks area (length work))
    unfolding choosing_checks
    room-told = told-next (order_checks first ++ order_checks second) (room_checks area (length work)) both-fine

    -- or the work area is too short.
    pub no_room : length work < area → Asked rule first second t work (Err (plainly 10)) work
    no_room h = by-verdict {r = plainly 10} (room-told ∙ rw (lt-ltb (length work) area h))

    -- Past all of them the winner is told, and the work area cleared.
    pub compared : {end : List ℤ} {r : Chosen} (left : List ℤ) → area ≤ length work → r ≡ winner_by rule first second t
        → drop area left ≡ drop area work → end ≡ cleared left → Asked rule first second t work r end
    compared left h won past c =
        let passed : choosing_verdict first second work ≡ fine = room-told ∙ rw (le-ltb (length work) area h) in
        let after = cleared-past (winner_by rule first second t) work in
        record {
          answer = rw passed won;
          area = rw passed (c ∙ cleared-same work left past ∙ sym after);
        }

-- ---- the part handed back

-- A winner is told only past the checks.
won-fine : (v : Judged) (won : Chosen) → 0 < winner_of (chosen_by v won) → v ≡ fine
won-fine fine won h = refl
won-fine (refused r) won h = absurd (omega arith)

winner-told : (w : Winner) → 0 < winner_of (Ok w)
winner-told First = omega arith
winner-told Second = omega arith

module _ (rule : TieRule) (first second : Bor (List ℕ)) (t : ℤ) (work : List ℤ) {q : Chosen} {left : List ℤ}
    (asked : Asked rule first.now second.now t work q left)
  where
    -- Where there is a winner both openings are accepted,
    pub both-accepted : {w : Winner} → q ≡ Ok w → CanCompare first.now second.now
    unfolding choosing_checks
    both-accepted {w} e =
        let passed = won-fine (choosing_verdict first.now second.now work) _ (subst (λ c. 0 < winner_of c) (sym e ∙ asked.answer) (winner-told w)) in
        let orders = ((stages-fine (order_checks first.now ++ order_checks second.now) _).0 passed).0 in
        let each = (stages-fine (order_checks first.now) (order_checks second.now)).0 orders in
        record { one = each.0; other = each.1 }

    -- so they have a header.
    pub headers-there : {w : Winner} → q ≡ Ok w → (4 ≤ length first.now) × (4 ≤ length second.now)
    headers-there e =
        let both = both-accepted e in
        (((order-fine first.now).0 both.one).header.long, ((order-fine second.now).0 both.other).header.long)

    -- What is handed back by the answer of the question is what the choice hands back.
    pub handed : {c : Chosen} {r : Bor (List ℕ)} → q ≡ c → r.now ≡ part_of c first.now second.now
        → r.ref_ptr ≡ place_of c first.ref_ptr second.ref_ptr → Handed rule first second t work r left
    handed e b p =
        let told : chosen_of rule first.now second.now t work ≡ _ = sym asked.answer ∙ e in
        record { bytes = rw told b; place = rw told p; area = asked.area }

-- The question's answer and the part handed back agree: for the same inputs the part is the one that the answer names, and the
-- work area is left the same.
pub question-choice : {rule : TieRule} {first second : Bor (List ℕ)} {t : ℤ} {work : List ℤ} {q : Chosen} {r : Bor (List ℕ)} {left end : List ℤ}
    → Asked rule first.now second.now t work q left → Handed rule first second t work r end
    → (r.now ≡ part_of q first.now second.now) × (r.ref_ptr ≡ place_of q first.ref_ptr second.ref_ptr) × (end ≡ left)
question-choice a h = rw (a.answer, a.area) (h.bytes, h.place, h.area)
