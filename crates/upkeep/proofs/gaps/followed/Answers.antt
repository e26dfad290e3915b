-- A number below the table's length has its entry; any other stays.
use Rattle.upkeep.proofs.Gathering.{followed_is}
use Rattle.upkeep.proofs.gaps.followed.Goals as goal

pub returns : goal.returns
returns c = followed_is _ _ _ c.get.ensures.lookup.0 c.get.ensures.lookup.1 _ c.copied.ensures _ c.unwrap_or.ensures
