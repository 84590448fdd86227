-- What feeding a whole stream tells: with at most 10,000 entries its sheet and whether it is cut, with more that there are too many.
use Rattle.std.specs.Prelude.{ℕ, ◌+◌, ◌≤◌, ◌<◌, ◌≡◌, true, false, List, [], ◌∷◌, map, ltb, length, take}
use Rattle.std.proofs.Common.{sym, ap, ◌∙◌, arith, ltb-true, ltb-false, lt-ltb, le-ltb}
use borrow.Table.Steps.{cases}
use Rattle.planner.specs.Longer.{longest-is}
use Rattle.sheet.specs.Sheet.{Sheet, most_orders, orders, no_sheet, one_order, join, sheet_of}
use Rattle.sheet.specs.SheetLaws.{Tidy, as_many, join-assoc, none_left, none_right, none-tidy, one-tidy}
use Rattle.sheet.specs.SheetLaws.{sheet-tidy, sheet-orders}
use Rattle.sheet.specs.Answered.{answered, with_order, week_of}
use Rattle.sheet.specs.AnsweredLaws.{entry-front, week-is-sheet}
use Rattle.sheet.specs.FitsLaws.{sheet-says}
use Rattle.streams.specs.Entries.{parts_of, entries_of, too_many, stream_sheet}
use Rattle.streams.specs.Stream.{front_room, State, over, edge, run}
use Rattle.streams.proofs.StreamLaws.{run-over}
use Rattle.streams.specs.Counting.{with-tidy, with-orders}
use Rattle.streams.proofs.EntriesLaws.{count_all, kept_all, feeding-is, Tells, stream-tells}

-- ---- not too many entries

-- An entry's front decides,
by_front : (d : Sheet) (e : List ℕ) → with_order d (take front_room e) ≡ join d (one_order (answered e))
unfolding with_order
by_front d e = ap (λ p. join d (one_order p)) (entry-front front_room (omega (arith, longest-is)) e)

-- so counted in turn they are their sheet joined.
count-all-is : (d : Sheet) (es : List (List ℕ)) → Tidy d → orders d + length es ≤ most_orders + 1
    → count_all d es ≡ join d (week_of es)
unfolding count_all week_of sheet_of over
count-all-is d [] t h = sym (none_right d t)
count-all-is d (e ∷ es) t h =
    let few : ltb most_orders (orders d) ≡ false = le-ltb most_orders (orders d) (omega arith) in
    let more = with_order d (take front_room e) in
    rw few
    (count-all-is more es (with-tidy d (take front_room e) t) (omega (arith, with-orders d (take front_room e) t.long))
    ∙ ap (λ s. join s (week_of es)) (by_front d e)
    ∙ join-assoc d (one_order (answered e)) (week_of es) (as_many t (one-tidy (answered e))))

from_nothing : (es : List (List ℕ)) → length es ≤ most_orders + 1 → count_all no_sheet es ≡ week_of es
unfolding week_of sheet_of
from_nothing es h =
    count-all-is no_sheet es none-tidy (omega (arith, none-orders)) ∙ none_left (sheet_of (map answered es)) (sheet-tidy (map answered es))
  where
    none-orders : orders no_sheet ≡ 0
    none-orders = sheet-orders []

few-all : (s : List ℕ) → length (entries_of s) ≤ most_orders → over (count_all no_sheet (entries_of s)) ≡ false
unfolding over
few-all s few =
    let is : count_all no_sheet (entries_of s) ≡ stream_sheet s = from_nothing (entries_of s) (omega arith) in
    le-ltb most_orders (orders (count_all no_sheet (entries_of s)))
    (omega (arith, ap (λ (x : Sheet). orders x) is, (sheet-says (stream_sheet s) (week-is-sheet (entries_of s) few)).0))

-- After a stream of at most 10,000 entries the state says its sheet, and whether it is cut,
pub sheet-told : (room s : List ℕ) → front_room ≤ length room → length (entries_of s) ≤ most_orders
    → Tells (stream_sheet s) (parts_of s).rest (run (edge no_sheet room) s)
sheet-told room s long few =
    let is : count_all no_sheet (entries_of s) ≡ stream_sheet s = from_nothing (entries_of s) (omega arith) in
    rw is at (stream-tells no_sheet room s long (few-all s few))

-- and there are not too many.
few-told : (room s : List ℕ) → front_room ≤ length room → length (entries_of s) ≤ most_orders
    → over (run (edge no_sheet room) s).done ≡ false
few-told room s long few =
    ap over (stream-tells no_sheet room s long (few-all s few)).done ∙ few-all s few

-- ---- too many entries

count-all-over : (d : Sheet) (es : List (List ℕ)) → Tidy d → most_orders < orders d + length es → over (count_all d es) ≡ true
unfolding count_all over
count-all-over d [] t h = lt-ltb most_orders (orders d) (omega arith)
count-all-over d (e ∷ es) t h = cases (ltb most_orders (orders d))
    (λ o. rw o o)
    (λ o. let front = take front_room e in
    rw o
    (count-all-over (with_order d front) es (with-tidy d front t) (omega (arith, with-orders d front t.long))))

-- After a stream of more the state says so.
pub over-told : (room s : List ℕ) → front_room ≤ length room → most_orders < length (entries_of s)
    → over (run (edge no_sheet room) s).done ≡ true
over-told room s long many =
    let o = count-all-over no_sheet (entries_of s) none-tidy (omega arith) in
    let ran : run (edge no_sheet room) s ≡ edge (count_all no_sheet (entries_of s)) (kept_all no_sheet (entries_of s) room) =
    feeding-is no_sheet room s long
    ∙ run-over (edge (count_all no_sheet (entries_of s)) (kept_all no_sheet (entries_of s) room)) (parts_of s).rest o in
    ap (λ (t : State). over t.done) ran ∙ o

-- So the state always says whether there are too many.
pub many-told : (room s : List ℕ) → front_room ≤ length room → over (run (edge no_sheet room) s).done ≡ too_many s
many-told room s long = cases (ltb most_orders (length (entries_of s)))
    (λ t. over-told room s long (ltb-true most_orders (length (entries_of s)) t) ∙ sym t)
    (λ t. few-told room s long (ltb-false most_orders (length (entries_of s)) t) ∙ sym t)
