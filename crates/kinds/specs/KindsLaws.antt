-- The search for the first pack, one step at a time: what is found is what is found from here on.
use Rattle.std.specs.Prelude.{ℕ, ◌+◌, ◌*◌, ◌/◌, ◌<◌, ◌≡◌, true, false, not, ◌≢◌, Some, None, List, ℤ, pos, get_or, drop, length}
use Rattle.std.proofs.Common.{sym, ◌∙◌, arith, get_or-take, get_or-drop, SFits, of_z}
use Rattle.std.proofs.Math.Path.{ap}
use Rattle.std.specs.Int.{w32}
use borrow.Author.Tests.{lt-ltb, le-ltb}
use Rattle.seconds.specs.Signed.{signed, same_bits}
use Rattle.seconds.specs.Ranges.{same}
use Rattle.seconds.specs.RangesLaws.{same-yes, same-no}
use Rattle.packed.specs.Places.{part, first, found_below}
use Rattle.packed.specs.PlacesLaws.{first_on, first-here, first-end, found-there, found-none, found-is, none-is}
use Rattle.packed.specs.Packed.{numbers_of, job_count, fields_at, job_fields, has_pack, the_pack, first_packed, kind_for}
use Rattle.packed.proofs.PackedLaws.{numbers-count, fields-of-numbers, whole-count}
use Rattle.fields.specs.Fields.{fields_of}
use Rattle.fields.specs.declared.Job.{Job}
use Rattle.jobs.specs.Held.{RecordsStand, AllGiven}

-- A pack compared with 0 by its bits.
some-pack : (z : ℤ) → of_z w32 z ≢ 0 → not (same z (pos 0)) ≡ true
some-pack z n = ap not ((same-no z (pos 0)).1 (λ e. n (ap (of_z w32) e)))

no-pack : (z : ℤ) → SFits w32 z → of_z w32 z ≡ 0 → not (same z (pos 0)) ≡ false
no-pack z f e =
    let zero : z ≡ pos 0 = same_bits f (omega signed) e in
    ap not ((same-yes z (pos 0)).1 zero)

-- The search from a place on.
abbrev pub from : List ℤ → ℕ → ℕ → ℕ
from zs k n = first (λ i. has_pack (fields_at zs i)) k n

module _ (zs : List ℤ) (n : ℕ) (counted : n ≡ job_count zs) where
  pub search-starts : first_packed zs ≡ from zs 0 n
  unfolding first_packed
  search-starts = ap (from zs 0) (sym counted)

  module _ (k : ℕ) (more : k < n) (so_far : first_packed zs ≡ from zs k n) (z : ℤ) (its : the_pack (fields_at zs k) ≡ z)
      (fits : SFits w32 z) where
    pub search-on : of_z w32 z ≡ 0 → first_packed zs ≡ from zs (k + 1) n
    search-on e =
        so_far ∙ first_on (λ i. has_pack (fields_at zs i)) k n more (ap (λ y. not (same y (pos 0))) its ∙ no-pack z fits e)

    pub search-finds : of_z w32 z ≢ 0 → Some k ≡ found_below n (first_packed zs)
    search-finds e =
        let found : first_packed zs ≡ k =
        so_far ∙ first-here (λ i. has_pack (fields_at zs i)) k n more (ap (λ y. not (same y (pos 0))) its ∙ some-pack z e) in
        rw found (found-there n k more)

  pub search-ends : (k : ℕ) → k ≡ n → first_packed zs ≡ from zs k n → n ≡ first_packed zs
  search-ends k e so_far = sym (so_far ∙ ap (λ i. from zs i n) e ∙ first-end (λ i. has_pack (fields_at zs i)) n)

  pub search-lacks : (k : ℕ) → k ≡ n → first_packed zs ≡ from zs k n → None ≡ found_below n (first_packed zs)
  search-lacks k e so_far = found-none n (first_packed zs) (omega (arith, search-ends k e so_far))

  -- The kind, by what is found.
  pub kind-one : {k : ℕ} → Some k ≡ found_below n (first_packed zs) → 1 ≡ kind_for zs
  unfolding kind_for
  kind-one {k} h = rw (← counted, lt-ltb (first_packed zs) n (found-is n (first_packed zs) h))

  pub kind-none : None ≡ found_below n (first_packed zs) → 0 ≡ kind_for zs
  unfolding kind_for
  kind-none h = rw (← counted, le-ltb (first_packed zs) n (none-is n (first_packed zs) h))

-- In bytes.
pub counted-in : (bytes : List ℕ) (n kind : ℕ) → RecordsStand bytes n kind → n ≡ job_count (numbers_of bytes)
counted-in bytes n kind r = r.counted ∙ sym (numbers-count bytes)

pub pack-in : (bytes : List ℕ) (n kind k : ℕ) → RecordsStand bytes n kind → k < n → (j : Job) → fields_of j ≡ job_fields bytes k
    → the_pack (fields_at (numbers_of bytes) k) ≡ j.pack
pack-in bytes n kind k r h j e = ap the_pack (fields-of-numbers bytes k (omega (arith, r.counted)) ∙ sym e)

-- In numbers.
pub counted-given : (zs : List ℤ) → AllGiven zs → length zs / 7 ≡ job_count zs
counted-given zs w = sym (whole-count zs (length zs / 7) w.whole)

pub pack-given : (zs : List ℤ) (k : ℕ) → the_pack (fields_at zs k) ≡ get_or zs (7 * k + 1) (pos 0)
unfolding fields_at part
pack-given zs k = get_or-take 7 (drop (7 * k) zs) 1 (pos 0) (omega arith) ∙ get_or-drop (7 * k) zs 1 (pos 0)
