-- What is left to send, laid from here, gives the whole.
use Rattle.std.specs.Slice.Iter.{chunks_exact_rest, chunks_exact_size}
use mathlib.Core.Path.{◌≡◌}
use Rattle.reader.proofs.Replies.{Sending}
use Rattle.reader.proofs.reply.put_data.Given as goal

abbrev pub invariant-loop-content : goal.invariant-loop-content
invariant-loop-content l =
    (goal.iterator-loop-content).can_next l.content-iterator ×
    (chunks_exact_size l.content-iterator ≡ l.size) ×
    Sending l.settings.address l.bytes l.size l.at l.end l.initial.reply l.reply (chunks_exact_rest l.content-iterator) l.to
