-- What reading a list of points off the work area asks and answers. Definitions only.
use Rattle.std.specs.Prelude.{ℕ, ◌+◌, ◌*◌, ◌≤◌, ◌≡◌, List, ℤ, length}
use Rattle.std.specs.Prelude.{Option as Answer, None, Some}
use Rattle.std.proofs.Math.Option.{Option, none, some}
use Rattle.order.specs.Job.{Point}
use Rattle.profile.specs.Profile.{lookup}
use Rattle.codes.specs.Code.{list_at}
use Rattle.codes.specs.Held.{Held}
use Rattle.reading.specs.declared.Found.{Found}

-- A list of points stands at a place.
pub record Stands (work : List ℤ) (place count : ℕ) : Type 0 where
  pub held : Held work place (list_at work place count)
  pub room : place + count ≤ length work

-- Numbers at a place say a list: they are points' numbers, and by every time the last of them is the list's last point.
pub record Says (work : List ℤ) (place count : ℕ) (ps : List Point) : Type 0 where
  pub held : Held work place (list_at work place count)
  pub says : (t : ℤ) → lookup (list_at work place count) t ≡ lookup ps t

-- A point that was found, as the code says it.
abbrev pub found : Option Point → Answer Found
found none = None
found (some p) = Some (record { weight = p.weight; time = p.time })

-- And back.
abbrev pub point_in : Answer Found → Option Point
point_in None = none
point_in (Some f) = some (record { time = f.time; weight = f.weight })

-- The list can be written: there are two numbers for each point.
pub record CanWrite (work : List ℤ) (place count : ℕ) (out : List ℤ) : Type 0 where
  pub held : Held work place (list_at work place count)
  pub room : place + count ≤ length work
  pub places : 2 * count ≤ length out
