-- 00h, page and score, each high byte first; and 09h and zeros.
use mathlib.Core.Path.{refl}
use Rattle.protocol.specs.Bytes.{two, joined}
use Rattle.protocol.specs.Search.{match_code, match_bytes}
use Rattle.reader.proofs.search.answer_of.Goals as goal

pub returns-in-Some : goal.returns-in-Some
unfolding match_code match_bytes joined two
returns-in-Some c = rw (c.in-Some.is, c.to_be_bytes.ensures, c.to_be_bytes-in-Some.ensures) (refl, refl)

pub returns-in-None : goal.returns-in-None
unfolding match_code match_bytes joined two
returns-in-None c = rw (c.in-None.is) (refl, refl)
