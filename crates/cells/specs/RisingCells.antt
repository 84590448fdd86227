-- The cells of a rising list: the first point that is heavy enough makes the cell, so the front of the list makes the cells as
-- far as it reaches.
use Rattle.std.specs.Prelude.{ℕ, ◌≤◌, ◌<◌, ◌≡◌, refl, Bool, true, false, cond, List, [], ◌∷◌, ◌++◌, leb, ◌<ℤ◌}
use Rattle.std.proofs.Common.{sym, ◌∙◌, arith}
use mathlib.Core.List.Memᴰ
use mathlib.Core.List.Memᴰ.{head}
use mathlib.Core.List.Memᴰ.{tail}
use borrow.Table.Steps.{cases}
use Rattle.seconds.specs.Signed.{signed, min_z, min-is}
use Rattle.order.specs.Job.{Point}
use Rattle.profile.proofs.Rising.{BelowAll, below_none, below_more, Rising, rising-more, rising-front}
use Rattle.profile.proofs.Closure.{PointWithin}
use Rattle.codes.specs.Code.{code_of, past_all}
use Rattle.codes.specs.CodeLaws.{since-is, since-few}
use Rattle.cells.specs.Cells.{cell_of, reach}
use Rattle.cells.specs.CellLaws.{Within, min-first, min-second, cell-range}

-- The cells of the points above a point are past it.
pub cell-above : {p : Point} {ps : List Point} → PointWithin p → Within ps → BelowAll p ps
    → (x y : ℕ) → x ≤ 300 → y ≤ 400 → code_of p.time x <ℤ cell_of ps y
cell-above {p} s h below_none x y a b = omega (signed, since-few s.time)
cell-above {p} s h (below_more {q = q} {qs = qs} l m) x y a b =
    go (leb y q.weight) (cell-above s (λ r n. h r (tail n)) m x y a b)
  where
    go : (c : Bool) → code_of p.time x <ℤ cell_of qs y → code_of p.time x <ℤ min_z (cond c (code_of q.time y) past_all) (cell_of qs y)
    go true i =
        omega (signed, since-is s.time, since-is (h q (head refl)).time, l.earlier, min-is (code_of q.time y) (cell_of qs y))
    go false i = omega (signed, since-few s.time, min-is past_all (cell_of qs y))

-- The first point makes the cells up to its weight, and the others those past it.
module _ {p : Point} {ps : List Point} (s : PointWithin p) (h : Within ps) (b : BelowAll p ps) {x : ℕ} where
  pub first_cell : x ≤ p.weight → cell_of (p ∷ ps) x ≡ code_of p.time x
  first_cell k =
      let t : leb x p.weight ≡ true = omega signed in
      let above = cell-above s h b x x (omega (arith, s.weight)) (omega (arith, s.weight)) in
      rw t (min-first {a = code_of p.time x} {l = cell_of ps x} (omega signed))

  pub later-cell : p.weight < x → cell_of (p ∷ ps) x ≡ cell_of ps x
  later-cell k =
      let t : leb x p.weight ≡ false = omega signed in
      rw t (min-second (cell-range ps h x).high)

-- So the front of a list makes the cells as far as it reaches.
pub front-cell : (fs bs : List Point) → Rising (fs ++ bs) → Within (fs ++ bs) → (x : ℕ) → x < reach fs
    → cell_of (fs ++ bs) x ≡ cell_of fs x
front-cell [] bs r h x k = absurd (omega arith)
front-cell (f ∷ fs) bs (rising-more b r) h x k =
    cases (leb x f.weight)
    (λ e. first_cell s further b (omega signed) ∙ sym (first_cell s own below (omega signed)))
    (λ e.
    later-cell s further b (omega signed) ∙ front-cell fs bs r further x (omega (signed, k)) ∙ sym (later-cell s own below (omega signed)))
  where
    s : PointWithin f
    s = h f (head refl)

    further : Within (fs ++ bs)
    further q n = h q (tail n)

    own : Within fs
    own q n = further q (Memᴰ.append_left bs n)

    below : BelowAll f fs
    below = first_below (rising-front (f ∷ fs) bs (rising-more b r))
      where
        first_below : Rising (f ∷ fs) → BelowAll f fs
        first_below (rising-more c t) = c
