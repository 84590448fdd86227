-- The cells pushed by a job, from the two loops that put them.
use Rattle.std.specs.Prelude.{ℕ, ◌+◌, ◌-◌, ◌≡◌, List, ℤ, pos, ◌+ℤ◌, ◌-ℤ◌}
use Rattle.std.proofs.Common.{ap, ◌∙◌, arith}
use Rattle.seconds.specs.Ranges.{Between}
use Rattle.seconds.specs.Signed.{signed, add_is, sub_is, max-is, max_z}
use Rattle.codes.specs.Code.{at0}
use Rattle.cells.specs.Cells.{Put, CanCount, CanRun, moved_on, CanPushCells, PushedCells}

module _ {row : List ℤ} {end : ℕ} {limit delta : ℤ} {gain : ℕ} {pushed : List ℤ} (g : CanPushCells row end limit delta gain pushed)
    {mid : List ℤ} (m : Put (λ y. moved_on limit delta (at0 row (y - gain)) (y - gain)) gain (gain + end) pushed mid)
  where
    pub first-is : at0 mid gain ≡ moved_on limit delta (at0 row 0) 0
    first-is =
        let none_more : gain - gain ≡ 0 = omega arith in
        m.put gain (omega arith) (omega (arith, g.some))
        ∙ ap (λ (k : ℕ). moved_on limit delta (at0 row k) k) none_more

    first_range : Between (pos 0) (pos 250000000) (moved_on limit delta (at0 row 0) 0)
    first_range =
        let a = g.all.cells 0 g.some in
        let b = g.all.ready in
        let d = g.all.adds in
        let facts = g.first in
        record {
          low = omega (signed, max-is (at0 row 0) (limit -ℤ pos 0), sub_is limit (pos 0), add_is (max_z (at0 row 0) (limit -ℤ pos 0)) delta);
          high = omega (signed, max-is (at0 row 0) (limit -ℤ pos 0), sub_is limit (pos 0), add_is (max_z (at0 row 0) (limit -ℤ pos 0)) delta);
        }

    pub can-count : CanCount (at0 mid gain) gain
    can-count =
        let r = first_range in
        let e = first-is in
        record { code = record { low = omega signed; high = omega signed }; few = omega (arith, g.all.light) }

    module _ (first : ℤ) (is : first ≡ at0 mid gain +ℤ pos gain) where
      pub can-run : CanRun mid 0 gain first
      can-run =
          let r = first_range in
          let e = first-is in
          let l = g.all.light in
          record {
            order = omega arith;
            code = record { low = omega (signed, add_is (at0 mid gain) (pos gain)); high = omega (signed, add_is (at0 mid gain) (pos gain)) };
            few = omega (arith, g.all.light);
            room = omega (arith, g.all.room, m.size);
          }

      pub pushes : {after : List ℤ} → Put (λ x. first -ℤ pos x) 0 gain mid after → PushedCells row end limit delta gain pushed after
      pushes p = record {
        size = p.size ∙ m.size;
        moved = λ x h.
            let back : gain + x - gain ≡ x = omega arith in
            p.behind (gain + x) (omega arith) ∙ m.put (gain + x) (omega arith) (omega arith)
            ∙ ap (λ (k : ℕ). moved_on limit delta (at0 row k) k) back;
        light = λ y h. p.put y (omega arith) h ∙ ap (λ (z : ℤ). z -ℤ pos y) (is ∙ ap (λ (z : ℤ). z +ℤ pos gain) first-is);
        behind = λ k h. p.behind k (omega arith) ∙ m.behind k h;
      }
