-- What copying, laying and joining ask and give. Definitions only.
use Rattle.std.specs.Prelude.{ℕ, ◌+◌, ◌-◌, ◌≤◌, ◌<◌, ◌≡◌, cond, ltb, ℤ, pos, length, ◌≤ℤ◌}
use mathlib.Core.List.{List, ◌++◌, Memᴰ as In}
use Rattle.order.specs.Job.{Point}
use Rattle.profile.specs.Profile.{better_of}
use Rattle.profile.proofs.Rising.{Rising}
use Rattle.codes.specs.declared.Prefix.{Prefix}
use Rattle.codes.specs.Code.{per_second, code, lightness, past_all, at0, points_at, end_of}
use Rattle.codes.specs.Held.{Held}

-- ---- numbers laid at a place

-- So many numbers of a slice can be laid there,
pub record CanLay (at : ℕ) (pushed : List ℤ) (from count : ℕ) (work : List ℤ) : Type 0 where
  pub inside : from + count ≤ length pushed
  pub room : at + count ≤ length work

-- and then stand there, and all before them stays.
pub record Laid (at : ℕ) (pushed : List ℤ) (from count : ℕ) (was after : List ℤ) : Type 0 where
  pub size : length after ≡ length was
  pub laid : (k : ℕ) → k < count → at0 after (at + k) ≡ at0 pushed (from + k)
  pub before : (k : ℕ) → k < at → at0 after k ≡ at0 was k

-- Four numbers can be copied to a place,
pub record CanCopyFour (from at : ℕ) (work : List ℤ) : Type 0 where
  pub inside : from + 4 ≤ length work
  pub room : at + 4 ≤ length work

-- a part behind itself in whole sixteens,
pub record CanCopy (from at count : ℕ) (work : List ℤ) : Type 0 where
  pub apart : from + count ≤ at
  pub room : at + count + 15 ≤ length work

-- and then they are laid there as they were.
abbrev pub Copied : ℕ → ℕ → ℕ → List ℤ → List ℤ → Type 0
Copied from at count was after = Laid at was from count was after

-- On the way so many numbers are there, as far as they stood before the place.
pub record CopiedOver (from at count : ℕ) (was after : List ℤ) : Type 0 where
  pub size : length after ≡ length was
  pub copied : (k : ℕ) → k < count → from + k < at → at0 after (at + k) ≡ at0 was (from + k)
  pub before : (k : ℕ) → k < at → at0 after k ≡ at0 was k

-- ---- two lists joined

-- The number before a place is there and is a point's.
pub record CanWeigh (work : List ℤ) (place z : ℕ) : Type 0 where
  pub inside : z ≤ length work
  pub least : place < z → pos 0 ≤ℤ at0 work (z - 1)

-- How light it is; lighter than every point where there is none.
abbrev pub light_before : List ℤ → ℕ → ℕ → ℕ
light_before work place z = cond (ltb place z) (lightness (at0 work (z - 1))) per_second

-- A list is cut at a place: no point in front of it has a number past this one.
pub record CutAt (work : List ℤ) (list : Prefix) (z : ℕ) (first : ℤ) : Type 0 where
  pub front : List Point
  pub back : List Point
  pub whole : points_at work list ≡ front ++ back
  pub count : list.place + length front ≡ z
  pub early : (p : Point) → In p front → code p ≤ℤ first

-- Two lists of points can be joined: both rise, the pushed one has a point and two numbers behind it, the first past all, and
-- there is room for a list of every weight in whole sixteens. In front of the place at which the first is cut all go before them.
pub record CanJoin (work : List ℤ) (list : Prefix) (z : ℕ) (pushed : List ℤ) (other : Prefix) : Type 0 where
  pub held : Held work list.place (points_at work list)
  pub rises : Rising (points_at work list)
  pub some : 1 ≤ other.count
  pub held_too : Held pushed other.place (points_at pushed other)
  pub rises_too : Rising (points_at pushed other)
  pub past : at0 pushed (end_of other) ≡ past_all
  pub inside : end_of other + 1 < length pushed
  pub room : end_of list + 319 < length work
  pub cut : CutAt work list z (at0 pushed other.place)

-- The better of both stands behind the list and a number past all, and the part in use stays.
pub record Joined (work : List ℤ) (list : Prefix) (pushed : List ℤ) (other r : Prefix) (after : List ℤ) : Type 0 where
  pub size : length after ≡ length work
  pub stays : (k : ℕ) → k < end_of list → at0 after k ≡ at0 work k
  pub behind : r.place ≡ end_of list + 1
  pub held : Held after r.place (better_of (points_at work list) (points_at pushed other))
  pub counted : r.count ≡ length (better_of (points_at work list) (points_at pushed other))
