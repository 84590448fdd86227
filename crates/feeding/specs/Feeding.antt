-- What the functions that feed a piece ask and give: the state that their numbers say, and how many bytes can still come.
-- Definitions only.
use Rattle.std.specs.Prelude.{ℕ, ◌+◌, ◌*◌, ◌-◌, ◌≤◌, ◌<◌, min, ◌≡◌, true, false, List, ℤ, length, get_or, take, drop, set, Result, ⊤}
use Rattle.refusals.specs.declared.Reason.{Reason}
use Rattle.area.specs.Area.{area, cleared}
use Rattle.sheet.specs.Sheet.{figure_count, most_orders, orders, sheet_in, fits}
use Rattle.adding.specs.Adding.{CanAdd}
use Rattle.streams.specs.Stream.{front_room, feed_count, State, over, within, run, state_in, feed_over, is_state}
use Rattle.streams.proofs.Kept.{kept_in}
use Rattle.feeding.specs.Calls.{many_refusal}
use Rattle.feeding.specs.declared.Part.{Part}
use Rattle.feeding.specs.declared.Turn.{Turn}

-- The state that figures, what has come of an entry, and the room say.
abbrev pub seen : Part → List ℕ → List ℕ → State
seen p figures room =
    record { done = sheet_in figures; known = p.known; size = p.size; got = p.got; room = room }

-- The part that numbers hold behind the figures, and a part put there.
abbrev pub part_in : List ℕ → Part
part_in feed = record { known = get_or feed 26 0; size = get_or feed 27 0; got = get_or feed 28 0 }

abbrev pub put_part : List ℕ → Part → List ℕ
put_part feed p = set (set (set feed 26 p.known) 27 p.size) 28 p.got

-- A state as the calls make it: too many entries are one too many.
pub record Sound (p : Part) (figures room : List ℕ) : Type 0 where
  pub long : figure_count ≤ length figures
  pub wide : front_room ≤ length room
  pub fitting : fits (sheet_in figures) ≡ true
  pub count : orders (sheet_in figures) ≤ most_orders + 1
  pub most : p.size < 65536
  pub few : p.known ≤ 2
  pub half : p.known ≡ 1 → p.size < 256
  pub idle : p.known ≤ 1 → p.got ≡ 0
  pub inside : 1 < p.known → p.got < p.size

-- How many bytes can come before there are too many entries, from so many orders on: each entry has at most 65,537 with its length.
abbrev pub left_by : ℕ → ℕ → ℕ
left_by many come = (most_orders + 1 - many) * 65537 - come

abbrev pub left : Part → List ℕ → ℕ
left p figures = left_by (orders (sheet_in figures)) (p.known + p.got)

-- Counting an entry that has come whole, or going on within it.
pub record CanSettle (figures room : List ℕ) (size got : ℕ) (work : List ℤ) : Type 0 where
  pub can : CanAdd figures work
  pub wide : front_room ≤ length room
  pub most : size < 65536
  pub come : got ≤ size

pub record Settles (figures room : List ℕ) (size got : ℕ) (work : List ℤ) (r : Part) (figures' : List ℕ) (work' : List ℤ) : Type 0 where
  pub sound : Sound r figures' room
  pub state : seen r figures' room ≡ within (sheet_in figures) size got room
  pub less : left r figures' + (got + 2) ≤ (most_orders + 1 - orders (sheet_in figures)) * 65537
  pub behind : drop figure_count figures' ≡ drop figure_count figures
  pub beyond : drop area work' ≡ drop area work

-- Bytes of a piece are kept behind those that have come, while there is room.
abbrev pub Kept : List ℕ → ℕ → List ℕ → ℕ → ℕ → List ℕ → Type 0
Kept room got piece at n room' = room' ≡ kept_in room got (take n (drop at piece))

-- Bytes are kept behind those that have come, while there is room.
abbrev pub KeptBehind : List ℕ → ℕ → List ℕ → List ℕ → Type 0
KeptBehind room got bytes room' = room' ≡ kept_in room got bytes

-- One turn takes at least a byte of the piece at a place.
pub record CanTurn (p : Part) (figures room piece : List ℕ) (at : ℕ) (work : List ℤ) : Type 0 where
  pub space : area ≤ length work
  pub sound : Sound p figures room
  pub more : over (sheet_in figures) ≡ false
  pub here : at < length piece

pub record Turned (p : Part) (figures room piece : List ℕ) (at : ℕ) (work : List ℤ) (r : Turn) (figures' room' : List ℕ) (work' : List ℤ) : Type 0 where
  pub sound : Sound r.part figures' room'
  pub on : at < r.next
  pub inside : r.next ≤ length piece
  pub less : left r.part figures' < left p figures
  pub rest : run (seen r.part figures' room') (drop r.next piece) ≡ run (seen p figures room) (drop at piece)
  pub behind : drop figure_count figures' ≡ drop figure_count figures
  pub beyond : drop area work' ≡ drop area work

-- A piece can be fed to a sound state.
pub record CanFeed (p : Part) (figures room : List ℕ) (work : List ℤ) : Type 0 where
  pub space : area ≤ length work
  pub sound : Sound p figures room

-- A piece fed: the state is the stream's, and fewer bytes can come.
pub record Fed (p : Part) (figures room piece : List ℕ) (work : List ℤ) (r : Part) (figures' room' : List ℕ) (work' : List ℤ) : Type 0 where
  pub sound : Sound r figures' room'
  pub state : seen r figures' room' ≡ run (seen p figures room) piece
  pub less : over (sheet_in figures) ≡ false → left r figures' + min 1 (length piece) ≤ left p figures
  pub behind : drop figure_count figures' ≡ drop figure_count figures
  pub beyond : drop area work' ≡ drop area work

-- ---- the call's own

-- A part that the numbers can hold.
pub record CanPut (feed : List ℕ) (p : Part) : Type 0 where
  pub long : feed_count ≤ length feed
  pub size_small : p.size < 4294967296
  pub got-small : p.got < 4294967296

-- A piece is taken in a state,
pub record CanTake (feed front : List ℕ) (work : List ℤ) : Type 0 where
  pub long : feed_count ≤ length feed
  pub wide : front_room ≤ length front
  pub space : area ≤ length work
  pub state : is_state (state_in feed front) ≡ true

-- and the numbers are the new state's then.
pub record Taken (feed front piece : List ℕ) (work : List ℤ) (r : Result ⊤ Reason) (feed' front' : List ℕ) (work' : List ℤ) : Type 0 where
  pub answer : r ≡ many_refusal (over (run (state_in feed front) piece).done)
  pub numbers : feed' ≡ feed_over (run (state_in feed front) piece) feed
  pub room : front' ≡ (run (state_in feed front) piece).room
  pub cleaned : work' ≡ cleared work
