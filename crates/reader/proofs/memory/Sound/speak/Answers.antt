-- Silence is nothing; a buffer that is sent is a page long.
use mathlib.Core.Path.{sym}
use Rattle.protocol.specs.Numbers.{page_bytes}
use Rattle.protocol.proofs.Laws.Lists.{lay_nothing}
use Rattle.reader.proofs.Laws.{chosen_long}
use Rattle.reader.proofs.memory.Sound.speak.Goals as goal

pub returns-in-Silence-clause-written : goal.returns-in-Silence-clause-written
returns-in-Silence-clause-written c = rw (c.in-Silence.is) (sym (lay_nothing 0 c.args.reply.now))

pub put_upload-requires-clause-page : goal.put_upload-requires-clause-page
put_upload-requires-clause-page c = let s = c.args.self.now in rw (c.bytes_of.ensures) (chosen_long _ _ _ page_bytes s.second s.first)

pub returns-in-Upload-clause-length : goal.returns-in-Upload-clause-length
returns-in-Upload-clause-length c = rw (c.in-Upload.is, ← c.bytes_of.ensures) c.put_upload.ensures.length

pub returns-in-Upload-clause-written : goal.returns-in-Upload-clause-written
returns-in-Upload-clause-written c = rw (c.in-Upload.is, ← c.bytes_of.ensures) c.put_upload.ensures.written
