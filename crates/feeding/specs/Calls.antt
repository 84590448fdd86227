-- Feeding as a call: the answer, and every lent buffer at exit, for every input. Definitions only.
use Rattle.std.specs.Prelude.{ℕ, ◌≡◌, Bool, cond, ◌&&◌, List, leb, ℤ, length, Result, Ok, Err, ⊤}
use Rattle.refusals.specs.declared.Reason.{Reason}
use Rattle.refusals.specs.declared.Reason.TheVariants.{BufferTooShort, NoSheet}
use Rattle.area.specs.Area.{area, cleared}
use Rattle.streams.specs.Stream.{front_room, feed_count, State, over, run, state_in, feed_over, is_state}

-- Room for the numbers, the front and the work area.
unfoldable pub feed_fits : List ℕ → List ℕ → List ℤ → Bool
feed_fits feed front work = leb feed_count (length feed) && (leb front_room (length front) && leb area (length work))

-- The piece is taken where there is room and the numbers are a state's.
abbrev pub taken : List ℕ → List ℕ → List ℤ → Bool
taken feed front work = feed_fits feed front work && is_state (state_in feed front)

-- The state with the piece.
abbrev pub fed_state : List ℕ → List ℕ → List ℕ → State
fed_state feed front piece = run (state_in feed front) piece

-- Too many entries are refused with 18.
abbrev pub many_refusal : Bool → Result ⊤ Reason
many_refusal many = cond many (Err NoSheet) (Ok tt)

-- Refused with too little room (10), and where the numbers are no state's or there are too many entries then (18).
unfoldable pub feed_refusal : List ℕ → List ℕ → List ℕ → List ℤ → Result ⊤ Reason
feed_refusal feed front piece work =
    cond (feed_fits feed front work)
    (cond (is_state (state_in feed front)) (many_refusal (over (fed_state feed front piece).done)) (Err NoSheet))
    (Err BufferTooShort)

-- The numbers, the front and the work area after it: a piece that is not taken changes nothing.
unfoldable pub feed_after : List ℕ → List ℕ → List ℕ → List ℤ → List ℕ
feed_after feed front piece work = cond (taken feed front work) (feed_over (fed_state feed front piece) feed) feed

unfoldable pub front_after : List ℕ → List ℕ → List ℕ → List ℤ → List ℕ
front_after feed front piece work = cond (taken feed front work) (fed_state feed front piece).room front

unfoldable pub feed_work_after : List ℕ → List ℕ → List ℤ → List ℤ
feed_work_after feed front work = cond (taken feed front work) (cleared work) work

-- A call of feeding.
pub record FeedCall (feed front piece : List ℕ) (work : List ℤ) (r : Result ⊤ Reason) (feed' front' : List ℕ) (work' : List ℤ) : Type 0 where
  pub answer : r ≡ feed_refusal feed front piece work
  pub numbers : feed' ≡ feed_after feed front piece work
  pub room : front' ≡ front_after feed front piece work
  pub cleaned : work' ≡ feed_work_after feed front work
