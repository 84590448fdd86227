-- A list of points as cells by weight, and what the loops over cells ask and give. Definitions only.
use Rattle.std.specs.Prelude.{ℕ, suc, ◌+◌, ◌≤◌, ◌<◌, max, ◌≡◌, cond, List, [], ◌∷◌, leb, ℤ, pos, ◌+ℤ◌, ◌-ℤ◌, length, ◌≤ℤ◌}
use Rattle.seconds.specs.Ranges.{Between, min_z, max_z}
use Rattle.order.specs.Job.{Point}
use Rattle.profile.proofs.Rising.{Rising}
use Rattle.codes.specs.declared.Prefix.{Prefix}
use Rattle.codes.specs.Code.{at0, points_at, end_of, code_of, past_all}
use Rattle.codes.specs.Held.{Held}

-- What a point gives at a weight: the number of its time at that weight if it is as heavy, else one past all.
abbrev pub cell_by : Point → ℕ → ℤ
cell_by p x = cond (leb x p.weight) (code_of p.time x) past_all

-- The cell of a list at a weight is the least of these: the earliest time at which at least that weight is kept.
abbrev pub cell_of : List Point → ℕ → ℤ
cell_of [] x = past_all
cell_of (p ∷ ps) x = min_z (cell_by p x) (cell_of ps x)

-- How many cells are not past all.
abbrev pub reach : List Point → ℕ
reach [] = 0
reach (p ∷ ps) = max (suc p.weight) (reach ps)

-- The cells of a row.
abbrev pub wide : ℕ
wide = 320

-- A row has the cells of a list.
pub record Cells (row : List ℤ) (ps : List Point) : Type 0 where
  pub size : length row ≡ wide
  pub cell : (x : ℕ) → x < wide → at0 row x ≡ cell_of ps x

-- ---- cells put one by one

-- The cells from a place to an end are put, and the others stay.
pub record Put (f : ℕ → ℤ) (from end : ℕ) (was after : List ℤ) : Type 0 where
  pub size : length after ≡ length was
  pub put : (x : ℕ) → from ≤ x → x < end → at0 after x ≡ f x
  pub before : (x : ℕ) → x < from → at0 after x ≡ at0 was x
  pub behind : (x : ℕ) → end ≤ x → at0 after x ≡ at0 was x

-- A weight can be taken from a number, or added to it.
pub record CanCount (z : ℤ) (x : ℕ) : Type 0 where
  pub code : Between (pos 0) (pos 300000000) z
  pub few : x ≤ 1000

-- Cells of one time can be put from a place to an end.
pub record CanRun (row : List ℤ) (from end : ℕ) (top : ℤ) : Type 0 where
  pub order : from ≤ end
  pub code : Between (pos 0) (pos 300000000) top
  pub few : end ≤ 1000
  pub room : end ≤ length row

-- A list that stands at a place can be spread.
pub record CanSpread (work : List ℤ) (list : Prefix) (row : List ℤ) : Type 0 where
  pub held : Held work list.place (points_at work list)
  pub rises : Rising (points_at work list)
  pub room : end_of list ≤ length work
  pub size : length row ≡ wide

-- ---- the cells pushed by a job

-- A cell as the job finds it when it is ready, moved on.
abbrev pub moved_on : ℤ → ℤ → ℤ → ℕ → ℤ
moved_on limit delta z x = max_z z (limit -ℤ pos x) +ℤ delta

pub record CanMove (z : ℤ) (x : ℕ) (limit delta : ℤ) : Type 0 where
  pub cell : Between (pos 0) past_all z
  pub few : x ≤ 1000
  pub ready : Between (pos 0) (pos 200000000) limit
  pub adds : Between (pos 0) (pos 20000000) delta

pub record CanMoveAll (row : List ℤ) (end : ℕ) (limit delta : ℤ) (gain : ℕ) (pushed : List ℤ) : Type 0 where
  pub cells : (x : ℕ) → x < end → Between (pos 0) past_all (at0 row x)
  pub few : end ≤ 400
  pub light : gain ≤ 400
  pub ready : Between (pos 0) (pos 200000000) limit
  pub adds : Between (pos 0) (pos 20000000) delta
  pub size : end ≤ length row
  pub room : gain + end ≤ length pushed

-- Some cells, of which the first is of a time.
pub record CanPushCells (row : List ℤ) (end : ℕ) (limit delta : ℤ) (gain : ℕ) (pushed : List ℤ) : Type 0 where
  pub all : CanMoveAll row end limit delta gain pushed
  pub some : 1 ≤ end
  pub first : at0 row 0 ≤ℤ pos 200000000

-- Each is moved on to the weight that the job adds to its own; those lighter than the job are of the time of the first.
pub record PushedCells (row : List ℤ) (end : ℕ) (limit delta : ℤ) (gain : ℕ) (pushed after : List ℤ) : Type 0 where
  pub size : length after ≡ length pushed
  pub moved : (x : ℕ) → x < end → at0 after (gain + x) ≡ moved_on limit delta (at0 row x) x
  pub light : (y : ℕ) → y < gain → at0 after y ≡ (moved_on limit delta (at0 row 0) 0 +ℤ pos gain) -ℤ pos y
  pub behind : (k : ℕ) → gain + end ≤ k → at0 after k ≡ at0 pushed k
