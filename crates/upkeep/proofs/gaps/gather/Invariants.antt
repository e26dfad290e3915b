-- The pages below p are gathered: a vacant one adds nothing, a stored one goes to the first free place, or stands there.
use Rattle.std.proofs.Common.{length, ◌/◌}
use Rattle.protocol.specs.Numbers.{page_bytes}
use Rattle.upkeep.proofs.Gathering.{Gathering}
use Rattle.upkeep.proofs.gaps.gather.Given as goal

abbrev pub invariant-loop-p : goal.invariant-loop-p
invariant-loop-p l = Gathering l.initial.templates l.index l.initial.table (length l.initial.templates / page_bytes) l.templates l.table l.next l.p
