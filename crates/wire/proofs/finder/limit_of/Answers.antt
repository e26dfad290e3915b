-- The four identifiers have their limits, and no other byte is one of them.
use Rattle.std.proofs.Common.{rules}
use Rattle.protocol.specs.Numbers.{longest}
use Rattle.protocol.specs.Packet.{is_identifier, limit}
use Rattle.wire.specs.Limits.{limit_of}
use Rattle.wire.proofs.Picks.{picks}
use Rattle.wire.proofs.finder.limit_of.Goals as goal

pub returns-in-Ok-Command : goal.returns-in-Ok-Command
unfolding limit_of is_identifier limit
returns-in-Ok-Command c = rw (← c.in-Ok-Command.ensures, c.in-Ok-Command.field-0-is)

pub returns-in-Ok-Data : goal.returns-in-Ok-Data
unfolding limit_of is_identifier limit longest
returns-in-Ok-Data c = rw (← c.in-Ok-Data.ensures, c.in-Ok-Data.field-0-is)

pub returns-in-Ok-Acknowledge : goal.returns-in-Ok-Acknowledge
unfolding limit_of is_identifier limit
returns-in-Ok-Acknowledge c = rw (← c.in-Ok-Acknowledge.ensures, c.in-Ok-Acknowledge.field-0-is)

pub returns-in-Ok-Last : goal.returns-in-Ok-Last
unfolding limit_of is_identifier limit longest
returns-in-Ok-Last c = rw (← c.in-Ok-Last.ensures, c.in-Ok-Last.field-0-is)

pub returns-in-Err : goal.returns-in-Err
unfolding limit_of is_identifier
returns-in-Err c = let h = c.in-Err.ensures in search (picks, rules)
