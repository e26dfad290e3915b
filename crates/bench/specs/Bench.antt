-- The bench's line, and what a call on it handed back and left.
use Rattle.std.specs.Prelude.{List, ℕ, Result}
use Rattle.protocol.specs.declared.Lengths.{Lengths}
use Rattle.protocol.specs.declared.refusals.Refusal.{Refusal}
use Rattle.protocol.specs.Receiver.{Line, Handed}
use Rattle.protocol.specs.Records.{line_of, received_of, received_at, taken_of}
use Rattle.bench.specs.declared.bench.Bench.{Bench}

abbrev pub line_at : Bench → Line
line_at b = line_of b.line b.templates b.index b.notepad b.buffer1 b.buffer2

abbrev pub offered_at : Result Lengths Refusal → Bench → List ℕ → Handed
offered_at o b room = received_of (received_at b.line (taken_of o)) b.templates b.index b.notepad b.buffer1 b.buffer2 room
