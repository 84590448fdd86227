-- `feeding::feed` meets its contract, by its checks. Assumes nothing.
use mathlib.Core.Path.{sym, ◌∙◌}
use Rattle.feeding.specs.TakingLaws.{numbers-short, front-short, area-short, no-state, piece-taken}
use Rattle.feeding.proofs.feed.Goals as goal
use Rattle.feeding.proofs.feed.Goals.{then-feed-lt-FEED-via-then-feed-lt-FEED, then-feed-lt-FEED-via-else-feed-lt-FEED+then-front-lt-FRONT, then-feed-lt-FEED-via-else-feed-lt-FEED+else-front-lt-FRONT+then-work-lt-AREA}

pub returns-then-feed-lt-FEED : goal.returns-then-feed-lt-FEED
returns-then-feed-lt-FEED c =
    let a = c.args in
    elim c.then-feed-lt-FEED.branch [
      | then-feed-lt-FEED-via-then-feed-lt-FEED w ↦
          numbers-short a.feed.now a.front.now a.piece.now a.work.now w.if-feed-lt-FEED.true
      | then-feed-lt-FEED-via-else-feed-lt-FEED+then-front-lt-FRONT w ↦
          front-short a.feed.now a.front.now a.piece.now a.work.now w.if-feed-lt-FEED.false w.if-front-lt-FRONT.true
      | then-feed-lt-FEED-via-else-feed-lt-FEED+else-front-lt-FRONT+then-work-lt-AREA w ↦
          area-short a.feed.now a.front.now a.piece.now a.work.now w.if-feed-lt-FEED.false w.if-front-lt-FRONT.false w.if-work-lt-AREA.true
    ]

pub returns-then-not-is_state : goal.returns-then-not-is_state
returns-then-not-is_state c =
    let a = c.args in
    no-state a.feed.now a.front.now a.piece.now a.work.now c.if-feed-lt-FEED.false c.if-front-lt-FRONT.false c.if-work-lt-AREA.false
    (sym c.is_state.ensures ∙ c.if-not-is_state.true)

pub returns : goal.returns
returns c =
    let a = c.args in
    let t = c.take_piece in
    piece-taken a.feed.now a.front.now a.piece.now a.work.now c.if-feed-lt-FEED.false c.if-front-lt-FRONT.false c.if-work-lt-AREA.false
    (sym c.is_state.ensures ∙ c.if-not-is_state.false) t.result t.new.feed t.new.front t.new.work t.ensures
