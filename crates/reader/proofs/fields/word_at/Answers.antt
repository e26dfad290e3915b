use Rattle.protocol.specs.Bytes.{word_at}
use Rattle.reader.proofs.fields.word_at.Goals as goal

pub returns : goal.returns
unfolding word_at
returns c = c.from_be_bytes.ensures
