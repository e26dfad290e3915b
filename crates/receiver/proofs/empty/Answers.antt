-- Zeros with nothing laid over them.
use borrow.Author.Rules.{rules}
use Rattle.protocol.specs.Numbers.{holds, longest}
use Rattle.protocol.specs.Bytes.{lay}
use Rattle.protocol.specs.Receiver.{holding}
use Rattle.receiver.proofs.empty.Goals as goal

pub returns : goal.returns
unfolding holding lay holds longest
returns c = search rules
