-- The push number by number: those past the ready time are moved on from the back, and the one before them waits.
use Rattle.std.specs.Prelude.{ℕ, zero, suc, ◌+◌, ◌-◌, ◌≤◌, ◌<◌, ◌≡◌, refl, ◌⊎◌, List, ℤ, pos, ◌+ℤ◌, length, set, ◌≤ℤ◌, ◌<ℤ◌}
use Rattle.std.proofs.Common.{◌∙◌, inl, inr, ⊎_elim, arith, length-set, get_or-set_same, get_or-set_other}
use Rattle.codes.specs.declared.Prefix.{Prefix}
use Rattle.codes.specs.Code.{past_all, at0, end_of}
use Rattle.codes.specs.Held.{After}
use Rattle.codes.specs.HeldLaws.{list_length}
use Rattle.codes.specs.Cuts.{Searching, searching-start, searching-down, searching-found}
use Rattle.pushing.specs.declared.Rate.{Rate}
use Rattle.pushing.specs.Pushes.{top, Coded, waited_as, CanPush}
use Rattle.pushing.specs.Numbers.{held-coded}

-- The numbers from i to an end, moved on, stand from p to the top.
pub record Moved (work : List ℤ) (end : ℕ) (delta : ℤ) (pushed : List ℤ) (i p : ℕ) : Type 0 where
  pub high : i ≤ end
  pub place_is : p + (end - i) ≡ top
  pub moved : (k : ℕ) → i + k < end → at0 pushed (p + k) ≡ at0 work (i + k) +ℤ delta
  pub past : at0 pushed top ≡ past_all

module _ {work : List ℤ} {end : ℕ} {delta : ℤ} {pushed : List ℤ} {i p : ℕ}
    (m : Moved work end delta pushed i p) (some : 1 ≤ p) where
  -- What stands behind a place stays where that place is written.
  other : (x : ℤ) (k : ℕ) → at0 (set pushed (p - 1) x) (p + k) ≡ at0 pushed (p + k)
  other x k = get_or-set_other pushed (p - 1) (p + k) x (pos 0) (omega arith)

  pub moved-stays : (x : ℤ) → Moved work end delta (set pushed (p - 1) x) i p
  moved-stays x = record {
    high = m.high;
    place_is = m.place_is;
    moved = λ k l. other x k ∙ m.moved k l;
    past = rw (← m.place_is) (other x (end - i)) ∙ m.past;
  }

  -- One number more.
  pub moved_more : (x : ℤ) → 1 ≤ i → p - 1 < length pushed → x ≡ at0 work (i - 1) +ℤ delta
      → Moved work end delta (set pushed (p - 1) x) (i - 1) (p - 1)
  moved_more x low room is = record {
    high = omega (arith, m.high);
    place_is = omega (arith, m.high, m.place_is);
    moved = moved;
    past = (moved-stays x).past;
  }
    where
      moved : (k : ℕ) → i - 1 + k < end → at0 (set pushed (p - 1) x) (p - 1 + k) ≡ at0 work (i - 1 + k) +ℤ delta
      moved zero l =
          let e : p - 1 + 0 ≡ p - 1 = omega arith in
          let f : i - 1 + 0 ≡ i - 1 = omega arith in
          rw (e, f) (get_or-set_same pushed (p - 1) x (pos 0) room ∙ is)
      moved (suc k) l =
          let e : p - 1 + suc k ≡ p + k = omega arith in
          let f : i - 1 + suc k ≡ i + k = omega arith in
          rw (e, f) ((moved-stays x).moved k (omega arith))

-- ---- turn by turn

-- Between two turns: the numbers moved on are past the limit.
pub record Pushing (work : List ℤ) (place end : ℕ) (limit delta : ℤ) (was pushed : List ℤ) (i p : ℕ) : Type 0 where
  pub searching : Searching work place end limit i
  pub behind : Moved work end delta pushed i p
  pub size : length pushed ≡ length was

-- At the end: these are all that are past it, and in front of them stands the one that waited, if one did.
pub record Placed (work : List ℤ) (list : Prefix) (ready limit delta : ℤ) (r : ℕ) (pushed : List ℤ) : Type 0 where
  pub i : ℕ
  pub p : ℕ
  pub found : After work list.place (end_of list) limit i
  pub behind : Moved work (end_of list) delta pushed i p
  pub waits : ((list.place ≡ i) × (r ≡ p))
      ⊎ ((list.place < i) × (suc r ≡ p) × (at0 pushed r ≡ waited_as ready delta (at0 work (i - 1))))

-- They begin before the top.
pub placed-low : {work : List ℤ} {list : Prefix} {ready limit delta : ℤ} {r : ℕ} {pushed : List ℤ}
    → Placed work list ready limit delta r pushed → r ≤ top
placed-low d =
    let all = d.behind.place_is in
    ⊎_elim (λ w. omega (arith, w.1)) (λ w. omega (arith, w.1)) d.waits

module _ {work : List ℤ} {list : Prefix} {ready : ℤ} {rate : Rate} {was : List ℤ} (g : CanPush work list ready rate was) where
  -- At first none is moved on.
  pub pushing-start : (limit delta : ℤ) → Pushing work list.place (end_of list) limit delta was was (end_of list) top
  pushing-start limit delta = record {
    searching = searching-start work list.place (end_of list) limit (omega arith);
    behind = record { high = omega arith; place_is = omega arith; moved = λ k h. absurd (omega arith); past = g.past };
    size = refl;
  }

  module _ {limit delta : ℤ} {pushed : List ℤ} {i p : ℕ} (s : Pushing work list.place (end_of list) limit delta was pushed i p) where
    -- There is room for one more.
    pub pushing-room : list.place < i → (1 ≤ p) × (p - 1 < length pushed) × (i - 1 < length work)
    pushing-room h = omega (arith, s.behind.place_is, s.behind.high, g.few, s.size, g.room_pushed, g.room)

    -- The next number is in range.
    pub pushing-coded : list.place < i → Coded (at0 work (i - 1))
    pushing-coded h =
        held-coded g.held (i - 1) (omega arith) (omega (arith, list_length work list.place list.count, s.behind.high))

    -- A number past the limit is moved on.
    pub pushing-more : (x : ℤ) → list.place < i → limit <ℤ at0 work (i - 1) → x ≡ at0 work (i - 1) +ℤ delta
        → Pushing work list.place (end_of list) limit delta was (set pushed (p - 1) x) (i - 1) (p - 1)
    pushing-more x h late is =
        let room = pushing-room h in
        record {
          searching = searching-down s.searching h late;
          behind = moved_more s.behind room.0 x (omega arith) room.1 is;
          size = length-set pushed (p - 1) x ∙ s.size;
        }

    -- None waited,
    pub pushing-none : {r : ℕ} {after : List ℤ} → after ≡ pushed → r ≡ p → i ≤ list.place → Placed work list ready limit delta r after
    pushing-none same at h = rw (same, at) (record {
      i = i;
      p = p;
      found = searching-found s.searching (λ l. absurd (omega arith));
      behind = s.behind;
      waits = inl (omega (arith, s.searching.low), refl);
    })

    -- or one did.
    pub pushing-waited : {x : ℤ} {r : ℕ} {after : List ℤ} → after ≡ set pushed (p - 1) x → r ≡ p - 1 → list.place < i
        → at0 work (i - 1) ≤ℤ limit → x ≡ waited_as ready delta (at0 work (i - 1)) → Placed work list ready limit delta r after
    pushing-waited {x} same at h soon is =
        let room = pushing-room h in
        rw (same, at) (record {
          i = i;
          p = p;
          found = searching-found s.searching (λ l. soon);
          behind = moved-stays s.behind room.0 x;
          waits = inr (h, omega arith, get_or-set_same pushed (p - 1) x (pos 0) room.1 ∙ is);
        })
