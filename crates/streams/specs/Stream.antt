-- What is held of a stream while it comes, byte by byte, in pieces of any size; and the numbers that hold it (R48). Definitions only.
use Rattle.std.specs.Prelude.{ℕ, ◌+◌, min, Bool, cond, ◌&&◌, List, [], ◌∷◌, ◌++◌, leb, ltb, eqb, get_or, set, take, drop}
use Rattle.sheet.specs.Sheet.{Sheet, most_orders, orders, numbers_of, sheet_in, is_sheet}
use Rattle.sheet.specs.Answered.{with_order}
use Rattle.streams.specs.Entries.{said}

-- ---- the state

-- One byte more than the longest order has is kept of an entry: a longer one is refused by its header and its length alone.
abbrev pub front_room : ℕ
front_room = 437

-- The figures of the whole entries; how many bytes of the next one's length have come, and the number that they say; how many bytes
-- of that entry have come; and the room that its first bytes are kept in.
pub record State : Type 0 where
  pub done : Sheet
  pub known : ℕ
  pub size : ℕ
  pub got : ℕ
  pub room : List ℕ

-- More entries than a sheet may have.
unfoldable pub over : Sheet → Bool
over d = ltb most_orders (orders d)

-- At an entry's edge.
abbrev pub edge : Sheet → List ℕ → State
edge d room = record { done = d; known = 0; size = 0; got = 0; room = room }

-- In an entry of a size, of which some bytes have come; with all of them it is counted.
abbrev pub within : Sheet → ℕ → ℕ → List ℕ → State
within d size got room =
    cond (eqb got size)
    (edge (with_order d (take (min got front_room) room)) room)
    (record { done = d; known = 2; size = size; got = got; room = room })

-- A byte of an entry is kept while there is room.
abbrev pub kept_byte : List ℕ → ℕ → ℕ → List ℕ
kept_byte room got b = cond (ltb got front_room) (set room got b) room

-- One byte more, by what has come of the length.
abbrev pub by_known : State → ℕ → State
by_known s b =
    cond (eqb s.known 0)
    (record { done = s.done; known = 1; size = b; got = 0; room = s.room })
    (cond (eqb s.known 1)
    (within s.done (said s.size b) 0 s.room)
    (within s.done s.size (s.got + 1) (kept_byte s.room s.got b)))

-- One byte more; behind too many entries nothing changes.
unfoldable pub byte : State → ℕ → State
byte s b = cond (over s.done) s (by_known s b)

-- Any bytes more.
abbrev pub run : State → List ℕ → State
run s [] = s
run s (b ∷ bs) = run (byte s b) bs

-- ---- as numbers

-- A sheet's numbers, then how much of a length is known, what it says, and how much of the entry has come.
abbrev pub feed_count : ℕ
feed_count = 29

abbrev pub state_in : List ℕ → List ℕ → State
state_in feed room =
    record { done = sheet_in feed; known = get_or feed 26 0; size = get_or feed 27 0; got = get_or feed 28 0; room = room }

-- A state's numbers over some numbers: what lies behind stays.
unfoldable pub feed_over : State → List ℕ → List ℕ
feed_over s l = numbers_of s.done ++ (s.known ∷ s.size ∷ s.got ∷ drop feed_count l)

-- Numbers that feeding can leave, but for too many entries: nothing of a length, half of one, or all of it and less than it says.
abbrev pub part_fits : ℕ → ℕ → ℕ → Bool
part_fits known size got =
    cond (eqb known 0)
    (eqb size 0 && eqb got 0)
    (cond (eqb known 1) (leb size 255 && eqb got 0) (eqb known 2 && (leb size 65535 && ltb got size)))

unfoldable pub is_state : State → Bool
is_state s = is_sheet s.done && part_fits s.known s.size s.got
