-- The laws of weighing an order by its lists: each step can be made, and the point found is the last of the order's profile by the
-- time, so that its weight is what the order is worth then.
use Rattle.std.specs.Prelude.{ℕ, ◌≤◌, ◌≡◌, refl, ℤ, length}
use Rattle.std.proofs.Math.Path.{ap}
use Rattle.std.proofs.Common.{◌∙◌, arith, to_z, of_z, to_z-of_z}
use mathlib.Core.List.{List, [], ◌∷◌}
use Rattle.std.specs.Prelude.{Option as Answer, None, Some}
use Rattle.std.proofs.Math.Option.{Option, none, some, map}
use Rattle.std.specs.Int.{w32}
use Rattle.seconds.specs.Ranges.{InTime}
use Rattle.seconds.specs.RangesLaws.{time-fits, time-free}
use Rattle.order.specs.Job.{Order, Point}
use Rattle.profile.specs.Profile.{worth, lookup, last_weight, extend, start_point, order_profile}
use Rattle.profile.proofs.Closure.{valid-holds, valid-start}
use Rattle.profile.proofs.Worth.{lookup-worth, order-rises}
use Rattle.packed.specs.Packed.{order_of, jobs_in}
use Rattle.packed.proofs.RefusalLaws.{HeaderFine}
use Rattle.packed.proofs.Accepted.{OrderFine, order-fine}
use Rattle.fields.specs.Facts.{HeaderRead}
use Rattle.fields.specs.declared.Header.{Header}
use Rattle.area.specs.Area.{area}
use Rattle.codes.specs.Code.{list_at}
use Rattle.codes.specs.Held.{Held}
use Rattle.codes.specs.HeldLaws.{held-read}
use Rattle.codes.specs.declared.Prefix.{Prefix}
use Rattle.reading.specs.Reading.{found, point_in}
use Rattle.reading.specs.declared.Found.{Found}
use Rattle.filling.specs.Lists.{CanFill, FilledLast}
use Rattle.filling.specs.Begin.{CanStart}
use Rattle.weighing.specs.Weighing.{weight_in, CanWeigh}

-- The code's answer says the point that was found,
found-point : (o : Option Point) → point_in (found o) ≡ o
found-point none = refl
found-point (some p) = refl

-- and its weight.
weight-in : (r : Answer Found) → weight_in r ≡ map (λ (p : Point). p.weight) (point_in r)
weight-in None = refl
weight-in (Some f) = refl

-- The weight of the last point of an order's profile by a time is what the order is worth then.
pub weight-found : (o : Order) (t : ℤ) (r : Answer Found) → point_in r ≡ lookup (order_profile o) t → weight_in r ≡ worth (order_profile o) t
weight-found o t r e =
    weight-in r ∙ ap (map (λ (p : Point). p.weight)) e ∙ lookup-worth (order-rises o) t

module _ {bytes : List ℕ} {work : List ℤ} (f : CanWeigh bytes work) where
  order : OrderFine bytes
  order = (order-fine bytes).0 f.accepted

  -- There is a header to read.
  pub header-there : 4 ≤ length bytes
  header-there = order.header.long

  pub header-stands : HeaderFine bytes
  header-stands = order.header

  module _ {h : Header} (read : HeaderRead bytes h) where
    timely : InTime h.t0
    timely = rw read.t0 order.header.timely

    -- Its bus-free time is as the code reads it,
    pub t0-kept : to_z w32 (of_z w32 h.t0) ≡ h.t0
    t0-kept = to_z-of_z (time-fits timely)

    -- the first list can be started,
    pub can-start : CanStart h.t0 work
    can-start = record { timely = timely; room = omega (arith, f.room) }

    module _ {begun : List ℤ} (started : Held begun 0 (start_point h.t0 ∷ [])) (room : area ≤ length begun) where
      first-is : list_at begun 0 1 ≡ start_point h.t0 ∷ []
      first-is = held-read started

      -- the lists of all jobs can be filled behind it,
      pub can-fill : CanFill bytes h.count 1 begun
      can-fill =
          record {
            order = order;
            jobs = read.count;
            held = rw first-is started;
            valid = rw first-is (valid-holds (start_point h.t0 ∷ []) (valid-start h.t0 (time-free timely)));
            light = omega (arith, order.light, ap last_weight first-is);
            room = room;
          }

      module _ {last : Prefix} {filled : List ℤ} (lists : FilledLast bytes 1 begun last filled) where
        -- the last of them is the order's profile,
        last-is : list_at filled last.place last.count ≡ order_profile (order_of bytes)
        unfolding order_of
        last-is =
            lists.is
            ∙ ap (λ (ps : List Point). extend ps (jobs_in bytes)) (first-is ∙ ap (λ (t : ℤ). start_point t ∷ []) read.t0)

        -- and its last point by a time is found.
        pub weighed : {t by : ℤ} {r : Answer Found} → by ≡ t → r ≡ found (lookup (list_at filled last.place last.count) by)
            → point_in r ≡ lookup (order_profile (order_of bytes)) t
        weighed {t} same e =
            rw (e, same)
            (found-point (lookup (list_at filled last.place last.count) t) ∙ ap (λ (ps : List Point). lookup ps t) last-is)
