-- What the calls say of lists of orders: from the sheet of no order on, one order more is the sheet of a list one longer, and two
-- sheets joined are that of both lists, one behind the other; past 10,000 orders each is 18 and changes nothing.
use Rattle.std.specs.Prelude.{ℕ, ◌+◌, ◌≤◌, ◌<◌, ◌≡◌, leb, ℤ, length, Result, Ok, Err, ⊤}
use Rattle.std.proofs.Math.Path.{sym, ap}
use Rattle.std.proofs.Common.{◌∙◌, arith, drop_of_length-le}
use Rattle.std.proofs.Math.Bool.{true, false}
use mathlib.Core.List.{List, [], ◌∷◌, ◌++◌, append-nil}
use Rattle.std.proofs.Math.ListN.{length-append}
use borrow.Author.Tests.{le-leb, lt-leb, lt-ltb, le-ltb}
use Rattle.refusals.specs.declared.Reason.{Reason}
use Rattle.refusals.specs.declared.Reason.TheVariants.{NoSheet}
use Rattle.area.specs.Area.{area}
use Rattle.sheet.specs.Sheet.{Sheet, most_orders, orders, join, numbers_of, sheet_in, sheet_over, joins, join_refusal, joined_after, JoinCall}
use Rattle.sheet.specs.Answered.{with_order, week_of}
use Rattle.sheet.specs.NumbersLaws.{sheet-in-front}
use Rattle.sheet.specs.AnsweredLaws.{week-tidy, week-orders, week-is-sheet, week-append, week-more}
use Rattle.adding.specs.Calls.{takes_one, add_refusal, add_after, add_work_after, AddCall}

-- ---- a week's numbers

-- They say it, and there is room for a sheet in them.
module _ (entries : List (List ℕ)) where
  week-in : sheet_in (numbers_of (week_of entries)) ≡ week_of entries
  week-in = sheet-in-front (week_of entries) (week-tidy entries).long []

  week-room : leb 26 (length (numbers_of (week_of entries))) ≡ true
  week-room =
      le-leb 26 (length (numbers_of (week_of entries)))
      (omega (arith, length-append (week_of entries).sums ((week_of entries).top ∷ (week_of entries).place ∷ []), (week-tidy entries).long))

  -- Nothing lies behind them.
  week-over : (s : Sheet) → sheet_over s (numbers_of (week_of entries)) ≡ numbers_of s
  unfolding sheet_over
  week-over s =
      ap (λ (l : List ℕ). numbers_of s ++ l)
      (drop_of_length-le (numbers_of (week_of entries)) {i = 26}
      (omega (arith, length-append (week_of entries).sums ((week_of entries).top ∷ (week_of entries).place ∷ []), (week-tidy entries).long)))
      ∙ append-nil (numbers_of s)

-- ---- two joined

module _ (xs ys : List (List ℕ)) where
  abbrev first : List ℕ
  first = numbers_of (week_of xs)

  abbrev second : List ℕ
  second = numbers_of (week_of ys)

  both-in : joins (sheet_in first) (sheet_in second) ≡ joins (week_of xs) (week_of ys)
  both-in = ap (λ s. joins s (sheet_in second)) (week-in xs) ∙ ap (joins (week_of xs)) (week-in ys)

  join-in : join (sheet_in first) (sheet_in second) ≡ week_of (xs ++ ys)
  join-in = ap (λ s. join s (sheet_in second)) (week-in xs) ∙ ap (join (week_of xs)) (week-in ys) ∙ sym (week-append xs ys)

  -- With at most 10,000 orders together the first one's numbers become those of both lists.
  pub weeks-joined : length xs + length ys ≤ most_orders → {r : Result ⊤ Reason} {to : List ℕ} → JoinCall first second r to
      → (r ≡ Ok tt) × (to ≡ numbers_of (week_of (xs ++ ys)))
  unfolding join_refusal joined_after
  weeks-joined few call =
      let a = week-is-sheet xs (omega arith) in
      let b = week-is-sheet ys (omega arith) in
      let c = le-leb (orders (week_of xs) + orders (week_of ys)) most_orders (omega (arith, week-orders xs, week-orders ys)) in
      let can : joins (sheet_in first) (sheet_in second) ≡ true = both-in ∙ rw (a, b, c) in
      let fine : join_refusal first second ≡ Ok tt = rw (week-room xs, week-room ys, can) in (
        call.answer ∙ fine,
        call.lent ∙ rw fine (week-over xs (join (sheet_in first) (sheet_in second)) ∙ ap numbers_of join-in),
      )

  -- With more it is 18, and nothing is changed.
  pub weeks-too-many : length xs ≤ most_orders → length ys ≤ most_orders → most_orders < length xs + length ys
      → {r : Result ⊤ Reason} {to : List ℕ} → JoinCall first second r to → (r ≡ Err NoSheet) × (to ≡ first)
  unfolding join_refusal joined_after
  weeks-too-many few few' many call =
      let a = week-is-sheet xs few in
      let b = week-is-sheet ys few' in
      let c = lt-leb (orders (week_of xs) + orders (week_of ys)) most_orders (omega (arith, week-orders xs, week-orders ys)) in
      let no : joins (sheet_in first) (sheet_in second) ≡ false = both-in ∙ rw (a, b, c) in
      let is : join_refusal first second ≡ Err NoSheet = rw (week-room xs, week-room ys, no) in
      (call.answer ∙ is, call.lent ∙ rw is)

-- ---- one order more

module _ (xs : List (List ℕ)) (bytes : List ℕ) (work : List ℤ) (space : area ≤ length work) where
  pub week-added : length xs < most_orders → {r : Result ⊤ Reason} {figures : List ℕ} {work' : List ℤ} → AddCall (numbers_of (week_of xs)) bytes work r figures work'
      → (r ≡ Ok tt) × (figures ≡ numbers_of (week_of (xs ++ (bytes ∷ []))))
  unfolding add_refusal add_after
  week-added few call =
      let n = numbers_of (week_of xs) in
      let a = week-is-sheet xs (omega arith) in
      let b = lt-ltb (orders (week_of xs)) most_orders (omega (arith, week-orders xs)) in
      let can : takes_one (sheet_in n) ≡ true = ap takes_one (week-in xs) ∙ rw (a, b) in
      let fine : add_refusal n work ≡ Ok tt = rw (week-room xs, le-leb area (length work) space, can) in (
        call.answer ∙ fine,
        call.lent ∙ rw fine (week-over xs (with_order (sheet_in n) bytes) ∙ ap numbers_of (ap (λ s. with_order s bytes) (week-in xs) ∙ sym (week-more xs bytes))),
      )

  pub week-full : length xs ≡ most_orders → {r : Result ⊤ Reason} {figures : List ℕ} {work' : List ℤ} → AddCall (numbers_of (week_of xs)) bytes work r figures work'
      → (r ≡ Err NoSheet) × (figures ≡ numbers_of (week_of xs)) × (work' ≡ work)
  unfolding add_refusal add_after add_work_after
  week-full all call =
      let n = numbers_of (week_of xs) in
      let a = week-is-sheet xs (omega arith) in
      let b = le-ltb (orders (week_of xs)) most_orders (omega (arith, week-orders xs)) in
      let no : takes_one (sheet_in n) ≡ false = ap takes_one (week-in xs) ∙ rw (a, b) in
      let is : add_refusal n work ≡ Err NoSheet = rw (week-room xs, le-leb area (length work) space, no) in
      (call.answer ∙ is, call.lent ∙ rw is, call.area ∙ rw is)
