-- The line of the definitions that lies in what is lent, and what a call leaves of it.
use Rattle.std.specs.Prelude.{List, ℕ, Result}
use Rattle.protocol.specs.declared.Lengths.{Lengths}
use Rattle.protocol.specs.declared.Line.{Line}
use Rattle.protocol.specs.declared.refusals.Refusal.{Refusal}
use Rattle.protocol.specs.Receiver.{Handed}
use Rattle.protocol.specs.Receiver as receivers
use Rattle.protocol.specs.Records.{received_of, received_at, taken_of}
use Rattle.reader.specs.declared.memory.Memory.{Memory}
use Rattle.reader.specs.Memory.{reader_at}
use Rattle.reader.specs.Calls.{Left}

-- the line of the definitions that a line and its lent memory are
abbrev pub line_at : Line → Memory → receivers.Line
line_at l m = receivers.line (reader_at l.settings m) l.receiver

-- the line after a call and its outcome, the memory, and the reply room
abbrev pub handed_at : Line → Result Lengths Refusal → Left → List ℕ → Handed
handed_at l o x room = received_of (received_at l (taken_of o)) x.0.now x.1.0.now x.1.1.0.now x.1.1.1.0.now x.1.1.1.1.0.now room
