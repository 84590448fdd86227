-- The contract of feeding determines its answer and all three lent buffers at exit, for every input.
use Prim.Native.Nat.{ℕ}
use mathlib.Core.List.{List}
use contract.Lifetimes.{Lfts}
use lib.IntN.{ℤ}
use Rattle.std.specs.Prelude.{Result, ⊤}
use Rattle.refusals.specs.declared.Reason.{Reason}
use Rattle.seconds.specs.Determined.{Determines, determined}
use Rattle.feeding.specs.Calls.{feed_refusal, feed_after, front_after, feed_work_after}
use Rattle.feeding.proofs.feed.Reads as feed

pub feed-determined : (κs : Lfts 4)
    → Determines {Z = Result ⊤ Reason × List ℕ × List ℕ × List ℤ} (feed.Post κs)
    (λ r x. (r, x.0.now, x.1.0.now, x.1.1.1.0.now))
feed-determined κs =
    determined (feed.Post κs) (λ r x. (r, x.0.now, x.1.0.now, x.1.1.1.0.now))
    (λ a. (
      feed_refusal a.0.now a.1.0.now a.1.1.0.now a.1.1.1.0.now,
      feed_after a.0.now a.1.0.now a.1.1.0.now a.1.1.1.0.now,
      front_after a.0.now a.1.0.now a.1.1.0.now a.1.1.1.0.now,
      feed_work_after a.0.now a.1.0.now a.1.1.1.0.now,
    ))
    (λ a r x h i. (h.answer i, h.numbers i, h.room i, h.cleaned i))
