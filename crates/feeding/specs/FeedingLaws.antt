-- The steps of feeding a piece: closing an entry, keeping its bytes, one turn, and what is known before and after.
use Rattle.std.specs.Prelude.{ℕ, zero, suc, ◌+◌, ◌*◌, ◌-◌, ◌≤◌, ◌<◌, min, ◌≡◌, refl, Bool, true, false, List, [], ◌∷◌, ◌++◌, ltb, ℤ, length, take, drop, set, get_or}
use Rattle.std.proofs.Math.Path.{sym, ap}
use Rattle.std.proofs.Common.{◌∙◌, arith, length-drop, take-append-drop, drop-cons, drop-drop, length-take-le, take-suc, take-add, take-take, take_all, get_or-drop}
use Rattle.std.proofs.Math.Seq.{paste}
use Rattle.std.proofs.lemmas.List.Edits.{sets, sets-eq}
use borrow.Author.Tests.{ltb-true, ltb-false, eq-eqb, ne_eqb}
use borrow.Table.Steps.{cases}
use Rattle.area.specs.Area.{area}
use Rattle.sheet.specs.Sheet.{Sheet, figure_count, most_orders, orders, sheet_in, sheet_over, fits}
use Rattle.sheet.specs.NumbersLaws.{sheet-in-over, over-behind, sheet-long}
use Rattle.sheet.specs.Answered.{with_order}
use Rattle.adding.specs.Adding.{CanAdd, Added}
use Rattle.streams.specs.Stream.{front_room, State, over, edge, within, byte, run}
use Rattle.streams.proofs.StreamLaws.{run-append, run_inside}
use Rattle.streams.specs.Counting.{with-long}
use Rattle.streams.proofs.Kept.{kept_in, kept_append, kept_full, byte-kept}
use Rattle.feeding.specs.declared.Part.{Part}
use Rattle.feeding.specs.Feeding.{seen, Sound, left_by, left, CanSettle, Settles, Kept, CanTurn, Turned}

-- ---- an entry's end

-- The figures of a sheet with one order more, in place of its own.
counted : (figures bytes : List ℕ) → figure_count ≤ length figures
    → sheet_in (sheet_over (with_order (sheet_in figures) bytes) figures) ≡ with_order (sheet_in figures) bytes
counted figures bytes long =
    sheet-in-over (with_order (sheet_in figures) bytes) (with-long (sheet_in figures) bytes (sheet-long figures long)) figures

-- An entry that has come whole.
pub settle-whole : (figures room : List ℕ) (size got : ℕ) (work : List ℤ) → CanSettle figures room size got work → got ≡ size
    → (kept : ℕ) → kept ≡ min got front_room → (clean : Bool) (figures' : List ℕ) (work' : List ℤ)
    → length figures' ≡ length figures → Added figures (take kept room) work clean figures' work'
    → Settles figures room size got work (record { known = 0; size = 0; got = 0 }) figures' work'
settle-whole figures room size got work c e kept k clean figures' work' same m =
    let long = c.can.long in
    let now : sheet_in figures' ≡ with_order (sheet_in figures) (take kept room) =
    ap (λ l. sheet_in l) m.counted ∙ counted figures (take kept room) long in
    let many : orders (sheet_in figures') ≡ orders (sheet_in figures) + 1 = ap (λ (s : Sheet). orders s) now ∙ m.more in
    record {
      sound =
          record {
            long = omega (arith, long);
            wide = c.wide;
            fitting = ap fits now ∙ m.fitting;
            count = omega (arith, many, c.can.few);
            most = omega arith;
            few = omega arith;
            half = λ h. omega arith;
            idle = λ h. refl;
            inside = λ h. omega arith;
          };
      state = rw (eq-eqb got size e) (ap (λ (s : Sheet). edge s room) (now ∙ ap (λ n. with_order (sheet_in figures) (take n room)) k));
      less = whole-less (orders (sheet_in figures)) (orders (sheet_in figures')) size got many c.can.few c.most c.come;
      behind = ap (drop figure_count) m.counted ∙ over-behind (with_order (sheet_in figures) (take kept room))
          (with-long (sheet_in figures) (take kept room) (sheet-long figures long)) figures;
      beyond = m.behind;
    }
  where
    whole-less : (n m size got : ℕ) → m ≡ n + 1 → n ≤ most_orders → size < 65536 → got ≤ size
        → left_by m 0 + (got + 2) ≤ (most_orders + 1 - n) * 65537
    whole-less n m size got e few most come = omega arith

-- An entry that has not.
pub settle-part : (figures room : List ℕ) (size got : ℕ) (work : List ℤ) → CanSettle figures room size got work → (got ≡ size → ⊥)
    → Settles figures room size got work (record { known = 2; size = size; got = got }) figures work
settle-part figures room size got work c e =
    record {
      sound =
          record {
            long = c.can.long;
            wide = c.wide;
            fitting = c.can.fitting;
            count = omega (arith, c.can.few);
            most = c.most;
            few = omega arith;
            half = λ h. omega arith;
            idle = λ h. omega arith;
            inside = λ h. lt_of_le got size c.come e;
          };
      state = rw (ne_eqb got size e);
      less = part-less (orders (sheet_in figures)) size got c.can.few c.most c.come;
      behind = refl;
      beyond = refl;
    }
  where
    lt_of_le : (a b : ℕ) → a ≤ b → (a ≡ b → ⊥) → a < b
    lt_of_le a b h q = cases (ltb a b)
        (λ t. ltb-true a b t)
        (λ t. let g : b ≤ a = ltb-false a b t in absurd (q (omega arith)))

    part-less : (n size got : ℕ) → n ≤ most_orders → size < 65536 → got ≤ size
        → left_by n (2 + got) + (got + 2) ≤ (most_orders + 1 - n) * 65537
    part-less n size got few most come = omega arith

-- ---- an entry's bytes

-- One byte more copied.
pub copy_step : (room : List ℕ) (got : ℕ) (piece : List ℕ) (at i : ℕ) (front : List ℕ) → front ≡ kept_in room got (take i (drop at piece))
    → got + i < front_room → at + i < length piece
    → set front (got + i) (get_or piece (at + i) 0) ≡ kept_in room got (take (i + 1) (drop at piece))
copy_step room got piece at i front e h g =
    let src = drop at piece in
    let one : i + 1 ≡ suc i = omega arith in
    let fits : i < length src = omega (arith, length-drop at piece) in
    let many : length (take i src) ≡ i = length-take-le i src (omega arith) in
    let b = get_or piece (at + i) 0 in
    sym
    (ap (λ n. kept_in room got (take n src)) one
    ∙ ap (kept_in room got) (take-suc src i 0 fits)
    ∙ kept_append room got (take i src) (get_or src i 0 ∷ [])
    ∙ ap (λ n. kept_in (kept_in room got (take i src)) (got + n) (get_or src i 0 ∷ [])) many
    ∙ ap (λ c. kept_in (kept_in room got (take i src)) (got + i) (c ∷ [])) (get_or-drop at piece i 0)
    ∙ byte-kept (kept_in room got (take i src)) (got + i) b h
    ∙ ap (λ l. set l (got + i) b) (sym e))

-- Bytes for which there is room are put one behind the other.
kept-sets : (room : List ℕ) (got : ℕ) (x : List ℕ) → got + length x ≤ front_room → kept_in room got x ≡ sets room got x
kept-sets room got [] h = refl
kept-sets room got (b ∷ x) h =
    let one : got + 1 ≡ suc got = omega arith in
    ap (λ l. kept_in l (got + 1) x) (byte-kept room got b (omega arith))
    ∙ ap (λ n. kept_in (set room got b) n x) one
    ∙ kept-sets (set room got b) (suc got) x (omega arith)

-- As many as there is room for are all that is kept.
pub keep-least : (room : List ℕ) (got : ℕ) (src : List ℕ) (n m : ℕ) → n ≤ length src → got < front_room → m ≡ min n (front_room - got)
    → kept_in room got (take m src) ≡ kept_in room got (take n src)
keep-least room got src n m has h e = cases (ltb (front_room - got) n)
    (λ t. let less : front_room - got < n = ltb-true (front_room - got) n t in
    let both : n ≡ m + (n - m) = omega arith in
    let full : front_room ≤ got + length (take m src) = omega (arith, length-take-le m src (omega arith)) in
    sym
    (ap (λ j. kept_in room got (take j src)) both
    ∙ ap (kept_in room got) (take-add m (n - m) src)
    ∙ kept_append room got (take m src) (take (n - m) (drop m src))
    ∙ kept_full (kept_in room got (take m src)) (got + length (take m src)) (take (n - m) (drop m src)) full))
    (λ t. let less : n ≤ front_room - got = ltb-false (front_room - got) n t in
    let same : m ≡ n = omega arith in
    ap (λ j. kept_in room got (take j src)) same)

-- So they are as a stretch copied.
kept-copied : (room : List ℕ) (got : ℕ) (src : List ℕ) (n : ℕ) → n ≤ length src → got + n ≤ front_room → front_room ≤ length room
    → paste room got (take n src) n ≡ kept_in room got (take n src)
kept-copied room got src n has small wide =
    let long : length (take n src) ≡ n = length-take-le n src has in
    let put : kept_in room got (take n src) ≡ take got room ++ take n src ++ drop (got + length (take n src)) room =
    kept-sets room got (take n src) (omega arith) ∙ sets-eq (take n src) room got (omega arith) in
    ap (λ l. take got room ++ l ++ drop (got + n) room) (take-take n n src (omega arith))
    ∙ sym (put ∙ ap (λ k. take got room ++ take n src ++ drop (got + k) room) long)

-- A stretch with as many as there is room for.
pub stretch-kept : (room : List ℕ) (got : ℕ) (src : List ℕ) (n : ℕ) → got < front_room → front_room ≤ length room
    → n ≡ min (length src) (front_room - got) → paste room got (take n src) n ≡ kept_in room got src
stretch-kept room got src n less wide e =
    kept-copied room got src n (omega arith) (omega arith) wide
    ∙ keep-least room got src (length src) n (omega arith) less e
    ∙ ap (kept_in room got) (take_all (length src) src (omega arith))

-- ---- a turn

pub can-add : (p : Part) (figures room : List ℕ) (work : List ℤ) → Sound p figures room → over (sheet_in figures) ≡ false
    → area ≤ length work → CanAdd figures work
unfolding over
can-add p figures room work s e space =
    record { long = s.long; fitting = s.fitting; few = ltb-false most_orders (orders (sheet_in figures)) e; space = space }

-- The places behind a byte, and behind some.
next-byte : (s : State) (piece : List ℕ) (at : ℕ) → at < length piece
    → run s (drop at piece) ≡ run (byte s (get_or piece at 0)) (drop (at + 1) piece)
next-byte s piece at h =
    let one : at + 1 ≡ suc at = omega arith in
    rw (one, drop-cons piece at 0 h)

next-bytes : (s : State) (piece : List ℕ) (at n : ℕ) → run s (drop at piece) ≡ run (run s (take n (drop at piece))) (drop (at + n) piece)
next-bytes s piece at n =
    ap (run s) (sym (take-append-drop n (drop at piece)))
    ∙ run-append s (take n (drop at piece)) (drop n (drop at piece))
    ∙ ap (run (run s (take n (drop at piece)))) (drop-drop n at piece)

-- The state with what has come of the length as its number.
at-known : (p : Part) (figures room : List ℕ) (k : ℕ) → p.known ≡ k
    → seen p figures room ≡ record { done = sheet_in figures; known = k; size = p.size; got = p.got; room = room }
at-known p figures room k e =
    ap (λ (j : ℕ). record { done = sheet_in figures; known = j; size = p.size; got = p.got; room = room }) e

-- Some bytes more leave fewer to come.
less-more : (a k got n r : ℕ) → k ≡ 2 → 1 ≤ n → r + ((got + n) + 2) ≤ a → r < a - (k + got)
less-more a k got n r e some h = omega arith

less-low : (a k got r : ℕ) → k ≡ 1 → got ≡ 0 → r + 2 ≤ a → r < a - (k + got)
less-low a k got r e idle h = omega arith

less-high : (n k got : ℕ) → k ≡ 0 → got ≡ 0 → n ≤ most_orders → left_by n 1 < left_by n (k + got)
less-high n k got e idle few = omega arith

some-come : (n size got here at : ℕ) → n ≡ min (size - got) (here - at) → got < size → at < here → 1 ≤ n
some-come n size got here at e h g = omega arith

pub less-again : (l r at next begun : ℕ) → r < l → at < next → l + min at 1 ≤ begun → r + min next 1 ≤ begun
less-again l r at next begun h g e = omega arith

module _ (p : Part) (figures room piece : List ℕ) (at : ℕ) (work : List ℤ) (c : CanTurn p figures room piece at work) where
  pub few-enough : CanAdd figures work
  few-enough = can-add p figures room work c.sound c.more c.space

  pub turn-high : p.known ≡ 0 → (high : ℕ) → high ≡ get_or piece at 0 → high < 256
      → Turned p figures room piece at work
      (record { part = record { known = 1; size = high; got = 0 }; next = at + 1 })
      figures room work
  unfolding byte
  turn-high e high h small =
      let idle = c.sound.idle (omega (arith, e)) in
      record {
        sound =
            record {
              long = c.sound.long;
              wide = c.sound.wide;
              fitting = c.sound.fitting;
              count = c.sound.count;
              most = omega arith;
              few = omega arith;
              half = λ q. small;
              idle = λ q. refl;
              inside = λ q. omega arith;
            };
        less = less-high (orders (sheet_in figures)) p.known p.got e idle few-enough.few;
        on = omega arith;
        inside = omega (arith, c.here);
        rest = sym (next-byte (seen p figures room) piece at c.here ∙ ap (λ s. run s (drop (at + 1) piece)) stepped);
        behind = refl;
        beyond = refl;
      }
    where
      stepped : byte (seen p figures room) (get_or piece at 0) ≡ seen (record { known = 1; size = high; got = 0 }) figures room
      stepped = rw (c.more, eq-eqb p.known 0 e, h)

  pub turn_low : p.known ≡ 1 → (low : ℕ) → low ≡ get_or piece at 0 → (begun : Part) (figures' : List ℕ) (work' : List ℤ)
      → Settles figures room (p.size * 256 + low) 0 work begun figures' work'
      → Turned p figures room piece at work (record { part = begun; next = at + 1 }) figures' room work'
  unfolding byte
  turn_low e low h begun figures' work' s =
      let idle = c.sound.idle (omega (arith, e)) in
      record {
        sound = s.sound;
        less = less-low ((most_orders + 1 - orders (sheet_in figures)) * 65537) p.known p.got (left begun figures') e idle s.less;
        on = omega arith;
        inside = omega (arith, c.here);
        rest = sym (next-byte (seen p figures room) piece at c.here ∙ ap (λ s. run s (drop (at + 1) piece)) stepped);
        behind = s.behind;
        beyond = s.beyond;
      }
    where
      stepped : byte (seen p figures room) (get_or piece at 0) ≡ seen begun figures' room
      stepped =
          ap (λ s. byte s (get_or piece at 0)) (at-known p figures room 1 e) ∙ rw (c.more, ← h) (sym s.state)

  pub turn_more : p.known ≡ 2 → (n : ℕ) → n ≡ min (p.size - p.got) (length piece - at) → (room' : List ℕ) → Kept room p.got piece at n room'
      → (more : Part) (figures' : List ℕ) (work' : List ℤ) → Settles figures room' p.size (p.got + n) work more figures' work'
      → Turned p figures room piece at work (record { part = more; next = at + n }) figures' room' work'
  turn_more e n h room' k more figures' work' s =
      record {
        sound = s.sound;
        less = less-more ((most_orders + 1 - orders (sheet_in figures)) * 65537) p.known p.got n (left more figures') e
            (some-come n p.size p.got (length piece) at h inner c.here) s.less;
        on = omega (arith, c.here, inner);
        inside = omega (arith, c.here);
        rest = sym (next-bytes (seen p figures room) piece at n ∙ ap (λ s. run s (drop (at + n) piece)) stepped);
        behind = s.behind;
        beyond = s.beyond;
      }
    where
      inner : p.got < p.size
      inner = c.sound.inside (omega (arith, e))

      some : length (take n (drop at piece)) ≡ n
      some = length-take-le n (drop at piece) (omega (arith, length-drop at piece))

      ran : run (seen p figures room) (take n (drop at piece))
          ≡ within (sheet_in figures) p.size (p.got + length (take n (drop at piece))) (kept_in room p.got (take n (drop at piece)))
      ran =
          ap (λ s. run s (take n (drop at piece))) (at-known p figures room 2 e)
          ∙ run_inside (sheet_in figures) p.size p.got room (take n (drop at piece)) (omega (arith, some, inner, c.here)) c.more
          (omega (arith, some, inner))

      stepped : run (seen p figures room) (take n (drop at piece)) ≡ seen more figures' room'
      stepped =
          ran
          ∙ ap (λ j. within (sheet_in figures) p.size (p.got + j) (kept_in room p.got (take n (drop at piece)))) some
          ∙ ap (within (sheet_in figures) p.size (p.got + n)) (sym k)
          ∙ sym s.state

pub known_two : (k : ℕ) → k ≤ 2 → (k ≡ 0 → ⊥) → (k ≡ 1 → ⊥) → k ≡ 2
known_two zero h p q = absurd (p refl)
known_two (suc zero) h p q = absurd (q refl)
known_two (suc (suc zero)) h p q = refl
known_two (suc (suc (suc k))) h p q = absurd (omega arith)

-- ---- bytes that can still come

pub left_over : (p : Part) (figures : List ℕ) → over (sheet_in figures) ≡ true → left p figures ≡ 0
unfolding over
left_over p figures e = omega (arith, ltb-true most_orders (orders (sheet_in figures)) e)

left-by-some : (n known size got : ℕ) → n ≤ most_orders → known ≤ 2 → size < 65536 → (known ≤ 1 → got ≡ 0) → (1 < known → got < size)
    → 1 ≤ left_by n (known + got)
left-by-some n known size got few two most idle inside = cases (ltb 1 known)
    (λ t. omega (arith, inside (ltb-true 1 known t)))
    (λ t. omega (arith, idle (ltb-false 1 known t)))

pub left-some : (p : Part) (figures room : List ℕ) → Sound p figures room → over (sheet_in figures) ≡ false → 1 ≤ left p figures
unfolding over
left-some p figures room s e =
    left-by-some (orders (sheet_in figures)) p.known p.size p.got (ltb-false most_orders (orders (sheet_in figures)) e)
    s.few s.most s.idle s.inside
