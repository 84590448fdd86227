-- What the parts of extending ask of their callers and give. Definitions only.
use Rattle.std.specs.Prelude.{ℕ, ◌≤◌, ◌≡◌, List, ℤ, length}
use Rattle.packed.specs.Judge.{fine, judge}
use Rattle.profiles.specs.Numbers.{most_numbers}
use Rattle.area.specs.Area.{area}
use Rattle.extending.specs.Calls.{extend_judged, extension, out_by}

-- The order and the profile are accepted, and there is room for the longest profile and for the lists.
pub record CanExtend (ns : List ℤ) (bytes : List ℕ) (out work : List ℤ) : Type 0 where
  pub accepted : judge (extend_judged ns bytes) ≡ fine
  pub places : most_numbers ≤ length out
  pub room : area ≤ length work

-- The extended profile is written.
pub record ExtendedIn (ns : List ℤ) (bytes : List ℕ) (out : List ℤ) (points : ℕ) (out' : List ℤ) : Type 0 where
  pub count : points ≡ length (extension ns bytes)
  pub written : out' ≡ out_by fine (extension ns bytes) out
