-- First one buffer, then the other: so both.
use mathlib.Core.Path.{ap, ◌∙◌}
use Rattle.protocol.specs.Reader.{Reader, buffer_of, with_buffer, without_pages}
use Rattle.protocol.specs.Tests.{among}
use Rattle.reader.specs.Memory.{without_numbered}
use Rattle.reader.proofs.memory.Sound.forget.Goals as goal

pub returns-clause-forgot : goal.returns-clause-forgot
unfolding buffer_of with_buffer without_pages
returns-clause-forgot c = c.forget_by-2.ensures.forgot ∙ ap (λ (r : Reader). without_numbered 2 (among c.args.page c.args.count) r) c.forget_by.ensures.forgot
