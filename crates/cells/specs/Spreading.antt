-- The cells of a list, point by point.
use Rattle.std.specs.Prelude.{length, ℕ, zero, suc, ◌+◌, ◌-◌, ◌≤◌, ◌<◌, ◌≡◌, refl, Bool, true, false, cond, leb, ℤ, pos, ◌+ℤ◌, ◌-ℤ◌, ◌≤ℤ◌}
use Rattle.std.proofs.Common.{sym, ap, ◌∙◌, subst, arith}
use mathlib.Core.List.Memᴰ.{head}
use mathlib.Core.List.Memᴰ.{tail}
use mathlib.Core.List.{List, [], ◌∷◌, ◌++◌, Memᴰ as In}
use mathlib.Core.List.Memᴰ
use mathlib.Core.List.Memᴰ.{not-nil}
use borrow.Table.Steps.{cases}
use Rattle.seconds.specs.Signed.{signed, min_z, min-is, add_is, sub_is}
use Rattle.order.specs.Job.{Point}
use Rattle.profile.proofs.Rising.{Below, below-member, Rising, rising-more, rising-front}
use Rattle.profile.proofs.Closure.{PointWithin}
use Rattle.codes.specs.Code.{at0, code, code_of, point_of, lightness, list_at, past_all}
use Rattle.codes.specs.CodeLaws.{since-few, light-is, point-back}
use Rattle.codes.specs.HeldLaws.{held-point, held-within, list_length}
use Rattle.cells.specs.Cells.{cell_by, cell_of, reach, wide, Cells, Put, CanCount, CanRun, CanSpread}
use Rattle.cells.specs.CellLaws.{Within, by-range, append-cell, cell-past, reach-append, reach_few}
use Rattle.cells.specs.RisingCells.{front-cell}

-- A list at a place in two parts.
list-parts : (l : List ℤ) (i m n : ℕ) → list_at l i (m + n) ≡ list_at l i m ++ list_at l (i + m) n
list-parts l i zero n =
    let e : i + 0 ≡ i = omega arith in
    let f : 0 + n ≡ n = omega arith in
    rw (e, f) refl
list-parts l i (suc m) n =
    let e : suc m + n ≡ suc (m + n) = omega arith in
    let f : suc i + m ≡ i + suc m = omega arith in
    rw e (ap (λ (ps : List Point). point_of (at0 l i) ∷ ps) (list-parts l (suc i) m n ∙ ap (λ (k : ℕ). list_at l (suc i) m ++ list_at l k n) f))

-- One point more.
cells-more : {row after : List ℤ} {fs : List Point} {p : Point} → Rising (fs ++ (p ∷ [])) → Within (fs ++ (p ∷ []))
    → PointWithin p → Cells row fs → (top : ℤ) → top ≡ code_of p.time 0
    → Put (λ x. top -ℤ pos x) (reach fs) (suc p.weight) row after → Cells after (fs ++ (p ∷ []))
cells-more {row} {after} {fs} {p} r h s c top is put = record {
  size = put.size ∙ c.size;
  cell = λ x w. cases (leb (reach fs) x) (λ e. further x w (omega signed)) (λ e. inside x w (omega signed));
}
  where
    inside : (x : ℕ) → x < wide → x < reach fs → at0 after x ≡ cell_of (fs ++ (p ∷ [])) x
    inside x w k = put.before x k ∙ c.cell x w ∙ sym (front-cell fs (p ∷ []) r h x k)

    further : (x : ℕ) → x < wide → reach fs ≤ x → at0 after x ≡ cell_of (fs ++ (p ∷ [])) x
    further x w k = go (leb x p.weight) refl ∙ sym own
      where
        past : cell_of fs x ≡ past_all
        past = cell-past fs x k

        -- Past the reach of the others the point alone makes the cell.
        own : cell_of (fs ++ (p ∷ [])) x ≡ cell_by p x
        own =
            let most = (by-range s x).high in
            append-cell fs (p ∷ []) (λ q n. h q (Memᴰ.append_right fs n)) x
            ∙ ap (λ (z : ℤ). min_z z (min_z (cell_by p x) past_all)) past ∙ omega (signed, min-is past_all (min_z (cell_by p x) past_all), min-is (cell_by p x) past_all)

        go : (b : Bool) → leb x p.weight ≡ b → at0 after x ≡ cond b (code_of p.time x) past_all
        go true e =
            let weight = s.weight in
            let l : x ≤ p.weight = omega signed in
            let same : (top -ℤ pos x) ≡ code_of p.time x = omega (signed, is, sub_is top (pos x)) in
            put.put x k (omega signed) ∙ same
        go false e = put.behind x (omega signed) ∙ c.cell x w ∙ past

-- ---- the loop

pub record Spreading (work : List ℤ) (place count i x : ℕ) (row : List ℤ) : Type 0 where
  pub few : i ≤ count
  pub reached : x ≡ reach (list_at work place i)
  pub cells : Cells row (list_at work place i)

pub spread_none : (work : List ℤ) (place count : ℕ) {row : List ℤ} → Cells row [] → Spreading work place count 0 0 row
spread_none work place count c = record { few = omega arith; reached = refl; cells = c }

module _ {work : List ℤ} {place count i x : ℕ} {row was : List ℤ} (g : CanSpread work (record { place = place; count = count }) was)
    (s : Spreading work place count i x row) (more : i < count) where
  abbrev number : ℤ
  number = at0 work (place + i)

  abbrev p : Point
  p = point_of number

  found : (q : Point) × PointWithin q × (number ≡ code q)
  found = held-point g.held (place + i) (omega arith) (omega (arith, list_length work place count))

  p-is : p ≡ found.0
  p-is = ap point_of found.2 ∙ point-back found.1

  within : PointWithin p
  within = subst PointWithin (sym p-is) found.1

  number_is : number ≡ code p
  number_is = found.2 ∙ sym (ap code p-is)

  pub number-least : pos 0 ≤ℤ number
  number-least = let e = number_is in omega signed

  pub end_is : 512 - lightness number ≡ suc p.weight
  end_is =
      let l = light-is within in
      let e = ap lightness number_is in
      let w = within.weight in
      omega arith

  abbrev front : List Point
  front = list_at work place i

  one : list_at work place (i + 1) ≡ front ++ (p ∷ [])
  one = list-parts work place i 1

  -- The front with the point is a front of the list.
  further : list_at work place count ≡ (front ++ (p ∷ [])) ++ list_at work (place + (i + 1)) (count - (i + 1))
  further =
      let e : count ≡ (i + 1) + (count - (i + 1)) = omega arith in
      ap (list_at work place) e ∙ list-parts work place (i + 1) (count - (i + 1))
      ∙ ap (λ (ps : List Point). ps ++ list_at work (place + (i + 1)) (count - (i + 1))) one

  rises : Rising (front ++ (p ∷ []))
  rises = rising-front (front ++ (p ∷ [])) _ (rw further at g.rises)

  front-within : Within (front ++ (p ∷ []))
  front-within q n = held-within g.held q (subst (In q) (sym further) (Memᴰ.append_left _ n))

  low : reach front ≤ p.weight
  low = reach_few front p.weight (λ q n. (below front rises q n).lighter)
    where
      below : (fs : List Point) → Rising (fs ++ (p ∷ [])) → (q : Point) → In q fs → Below q p
      below [] r q n = absurd (not-nil n)
      below (f ∷ fs) (rising-more b r) q (head e) = rw e (below-member b (Memᴰ.append_right fs (head refl)))
      below (f ∷ fs) (rising-more b r) q (tail n) = below fs r q n

  pub can-count : (end : ℕ) → end ≡ 512 - lightness number → CanCount number (end - 1)
  can-count end e =
      let f = end_is in
      let w = within.weight in
      let t = since-few within.time in
      let c = number_is in
      record { code = record { low = omega signed; high = omega signed }; few = omega arith }

  module _ (end : ℕ) (e : end ≡ 512 - lightness number) (top : ℤ) (is : top ≡ number +ℤ pos (end - 1)) where
    top-is : top ≡ code_of p.time 0
    top-is =
        let f = end_is in
        let w = within.weight in
        let c = number_is in
        let l : end - 1 ≡ p.weight = omega arith in
        omega (signed, is, add_is number (pos (end - 1)), l)

    pub can-run : CanRun row x end top
    can-run =
        let f = end_is in
        let w = within.weight in
        let t = since-few within.time in
        let c = top-is in
        record {
          order = omega (arith, s.reached, low);
          code = record { low = omega signed; high = omega signed };
          few = omega arith;
          room = omega (arith, s.cells.size);
        }

    pub spread-more : {after : List ℤ} → Put (λ y. top -ℤ pos y) x end row after → Spreading work place count (i + 1) end after
    spread-more put =
        let f : end ≡ suc p.weight = e ∙ end_is in
        let far : reach (front ++ (p ∷ [])) ≡ suc p.weight = omega (arith, reach-append front (p ∷ []), low) in
        record {
          few = omega arith;
          reached = f ∙ sym far ∙ sym (ap reach one);
          cells = rw one (cells-more rises front-within within s.cells top top-is (rw (s.reached, f) at put));
        }

pub spread-all : {work : List ℤ} {place count i x : ℕ} {row : List ℤ} → Spreading work place count i x row → count ≤ i
    → Cells row (list_at work place count)
spread-all {work} {place} {count} {i} s h = let e : i ≡ count = omega (arith, s.few) in rw e at s.cells

-- No cells.
pub wiped : {row after : List ℤ} → length row ≡ wide → Put (λ x. past_all) 0 wide row after → Cells after []
wiped e p = record { size = p.size ∙ e; cell = λ x h. p.put x (omega arith) h }
