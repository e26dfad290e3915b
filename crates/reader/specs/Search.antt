-- What Search answers.
use Rattle.std.specs.Prelude.{◌≡◌}
use Rattle.protocol.specs.Codes.{code_number}
use Rattle.protocol.specs.Search.{match_code, match_bytes}
use Rattle.protocol.specs.Search as searches
use Rattle.reader.specs.declared.answers.Answer.{Answer}
use Rattle.reader.specs.declared.answers.Answer.TheVariants.{Match}

-- its code, and its page and score
abbrev pub AnswersMatch : Answer → searches.Match → Type 0
AnswersMatch (Match k w) m = (code_number k ≡ match_code m) × (w ≡ match_bytes m)
AnswersMatch a m = ⊥
