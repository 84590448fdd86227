-- One order more in a sheet: it has as many figures, stays tidy, and counts one order more.
use Rattle.std.specs.Prelude.{ℕ, ◌+◌, ◌≡◌, List, length}
use Rattle.std.proofs.Common.{sym, ap, ◌∙◌}
use Rattle.sheet.specs.Sheet.{Sheet, sum_count, orders, one_order, join}
use Rattle.sheet.specs.SheetLaws.{Tidy, one-tidy, join-tidy, join-orders, one-orders, lists_length}
use Rattle.sheet.specs.Answered.{answered, with_order}

pub with-long : (d : Sheet) (bytes : List ℕ) → length d.sums ≡ sum_count → length (with_order d bytes).sums ≡ sum_count
unfolding with_order join
with-long d bytes h =
    let one = (one-tidy (answered bytes)).long in
    lists_length d.sums (one_order (answered bytes)).sums (h ∙ sym one) ∙ one

pub with-tidy : (d : Sheet) (bytes : List ℕ) → Tidy d → Tidy (with_order d bytes)
unfolding with_order
with-tidy d bytes t = join-tidy d (one_order (answered bytes)) t (one-tidy (answered bytes))

pub with-orders : (d : Sheet) (bytes : List ℕ) → length d.sums ≡ sum_count → orders (with_order d bytes) ≡ orders d + 1
unfolding with_order
with-orders d bytes h =
    join-orders d (one_order (answered bytes)) (h ∙ sym (one-tidy (answered bytes)).long)
    ∙ ap (λ n. orders d + n) (one-orders (answered bytes))
