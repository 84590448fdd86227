-- What the contract of feeding says of every outcome that it allows: two pieces, the second call on what the first has left, have the
-- answer and the buffers of both as one piece; and a stream fed from the beginning has its sheet, or 18.
use Prim.Native.Nat.{◌≤◌}
use Rattle.std.specs.Prelude.{Result, ⊤}
use Rattle.refusals.specs.declared.Reason.{Reason}
use mathlib.Core.Path.{◌≡◌, refl, sym, ◌∙◌}
use mathlib.Core.List.{◌++◌}
use contract.Lifetimes.{Lfts}
use denote.Triple.Clauses.{AtExit}
use denote.Triple.Entry.{Args}
use lib.Dec.{ltb}
use lib.ListN.{length, get_or}
use Rattle.area.specs.Area.{area}
use Rattle.packed.proofs.LayoutLaws.{AreBytes}
use Rattle.sheet.specs.Sheet.{most_orders, sheet_in}
use Rattle.streams.specs.Entries.{entries_of, is_cut, too_many, stream_sheet}
use Rattle.streams.specs.Stream.{front_room}
use Rattle.feeding.specs.Calls.{many_refusal}
use Rattle.feeding.specs.Calls.{FeedCall}
use Rattle.feeding.specs.Pieces.{begin, on_same, two-pieces, stream-answer, stream-fed}
use Rattle.feeding.specs.contracts.feed as feed
use Rattle.feeding.proofs.feed.Reads as reads

-- An outcome of a call: what was lent, the answer, and what is lent at exit.
pub record Outcome : Type 1 where
  pub lifetimes : Lfts 4
  pub args : Args feed.signature lifetimes
  pub answer : Result ⊤ Reason
  pub exit : AtExit feed.ended lifetimes
  pub allowed : reads.Post lifetimes args answer exit

-- A call on what another has left.
pub record Behind (a b : Outcome) : Type 0 where
  pub numbers : b.args.0.now ≡ a.exit.0.now
  pub front : b.args.1.0.now ≡ a.exit.1.0.now
  pub work : b.args.1.1.1.0.now ≡ a.exit.1.1.1.0.now

-- A call with the buffers of one, and the pieces of both.
pub record AtOnce (a b c : Outcome) : Type 0 where
  pub numbers : c.args.0.now ≡ a.args.0.now
  pub front : c.args.1.0.now ≡ a.args.1.0.now
  pub piece : c.args.1.1.0.now ≡ a.args.1.1.0.now ++ b.args.1.1.0.now
  pub work : c.args.1.1.1.0.now ≡ a.args.1.1.1.0.now

-- Two calls that end alike.
pub record Alike (b c : Outcome) : Type 0 where
  pub answers : c.answer ≡ b.answer
  pub numbers : c.exit.0.now ≡ b.exit.0.now
  pub front : c.exit.1.0.now ≡ b.exit.1.0.now
  pub work : c.exit.1.1.1.0.now ≡ b.exit.1.1.1.0.now

pub outcome-pieces : (a b c : Outcome) → AreBytes a.args.1.1.0.now → Behind a b → AtOnce a b c → Alike b c
outcome-pieces a b c bytes h k =
    let x = a.args.1.1.0.now in
    let y = b.args.1.1.0.now in
    let second : FeedCall a.exit.0.now a.exit.1.0.now y a.exit.1.1.1.0.now b.answer b.exit.0.now b.exit.1.0.now b.exit.1.1.1.0.now =
    on_same h.numbers h.front refl h.work b.allowed in
    let one = two-pieces a.args.0.now a.args.1.0.now x y a.args.1.1.1.0.now a.answer a.exit.0.now a.exit.1.0.now a.exit.1.1.1.0.now
    b.answer b.exit.0.now b.exit.1.0.now b.exit.1.1.1.0.now a.allowed second bytes in
    let other : FeedCall a.args.0.now a.args.1.0.now (x ++ y) a.args.1.1.1.0.now c.answer c.exit.0.now c.exit.1.0.now c.exit.1.1.1.0.now =
    on_same k.numbers k.front k.piece k.work c.allowed in
    record {
      answers = other.answer ∙ sym one.answer;
      numbers = other.numbers ∙ sym one.numbers;
      front = other.room ∙ sym one.room;
      work = other.cleaned ∙ sym one.cleaned;
    }

module _ (a : Outcome) (start : a.args.0.now ≡ begin) (wide : front_room ≤ length a.args.1.0.now)
    (space : area ≤ length a.args.1.1.1.0.now) where
  pub outcome-answer : a.answer ≡ many_refusal (too_many a.args.1.1.0.now)
  outcome-answer =
      stream-answer a.args.1.0.now a.args.1.1.0.now a.args.1.1.1.0.now a.answer a.exit.0.now a.exit.1.0.now
      a.exit.1.1.1.0.now wide space (on_same start refl refl refl a.allowed)

  pub outcome-sheet : length (entries_of a.args.1.1.0.now) ≤ most_orders
      → (sheet_in a.exit.0.now ≡ stream_sheet a.args.1.1.0.now)
      × (ltb 0 (get_or a.exit.0.now 26 0) ≡ is_cut a.args.1.1.0.now)
  outcome-sheet =
      stream-fed a.args.1.0.now a.args.1.1.0.now a.args.1.1.1.0.now a.answer a.exit.0.now a.exit.1.0.now
      a.exit.1.1.1.0.now wide space (on_same start refl refl refl a.allowed)
