-- `best_plan::keeps_most` meets its contract: the greatest weight of the order's profile decides.
-- Assumes nothing.
use mathlib.Core.Path.{◌≡◌}
use Rattle.seconds.specs.Limits.{rest, latest_free}
use Rattle.profile.specs.Profile.{worth, order_profile}
use Rattle.packed.specs.Packed.{order_of}
use Rattle.weighing.specs.Weighing.{weight_in}
use Rattle.weighing.specs.WeighingLaws.{weight-found}
use Rattle.best_plan.specs.CallLaws.{header-passed, mask-there, can-sum, can-weigh, most-weighed}
use Rattle.best_plan.proofs.keeps_most.Goals as goal
use Rattle.best_plan.proofs.keeps_most.Goals.{After-weigh}

pub records_in-records-requires : goal.records_in-records-requires
records_in-records-requires c = header-passed c.requires

pub mask_of-requires : goal.mask_of-requires
mask_of-requires c = mask-there c.requires

pub kept_weight-kept-requires : goal.kept_weight-kept-requires
kept_weight-kept-requires c = can-sum c.requires c.records_in-records.ensures c.records_in-records.result.stand.counted

pub weigh-requires : goal.weigh-requires
weigh-requires c = can-weigh c.requires

-- The order was weighed at the latest time: the code's is tied to the rest here.
weighed : (c : After-weigh) → weight_in c.weigh.result ≡ worth (order_profile (order_of c.args.order.now)) latest_free
unfolding rest
weighed c = weight-found (order_of c.args.order.now) latest_free c.weigh.result c.weigh.ensures

pub returns : goal.returns
returns c =
    most-weighed c.requires c.records_in-records.ensures c.records_in-records.result.stand.counted c.mask_of.ensures c.kept_weight-kept.ensures
    (weighed (goal.at.returns c).After-weigh) c.not_above.ensures
