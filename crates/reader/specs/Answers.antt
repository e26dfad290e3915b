-- What an answer says: the reply of the definitions.
use Rattle.std.specs.Prelude.{List, [], ℕ, Result, Ok, Err}
use Rattle.protocol.specs.declared.Settings.{Settings}
use Rattle.protocol.specs.declared.codes.Code.{Code}
use Rattle.protocol.specs.Numbers.{done}
use Rattle.protocol.specs.Bytes.{follow}
use Rattle.protocol.specs.Codes.{code_number}
use Rattle.protocol.specs.Reader.{size_of}
use Rattle.protocol.specs.Data.{acknowledge, data_packets}
use Rattle.reader.specs.declared.answers.Answer.{Answer}
use Rattle.reader.specs.declared.answers.Answer.TheVariants.{Silence, Alone, Count, Match, Parameters, Page, Upload}
use Rattle.reader.specs.Buffers.{buffer_number, chosen_of}

-- the most bytes behind a code
abbrev pub listed_bytes : ℕ
listed_bytes = 32

-- a buffer in data packets takes this much of the reply room at most
abbrev pub upload_bytes : ℕ
upload_bytes = 688

-- the bytes that an answer says, with the settings and both buffers as they are
abbrev pub spoken_of : Answer → Settings → List ℕ → List ℕ → List ℕ
spoken_of Silence s b c = []
spoken_of (Alone k) s b c = acknowledge s.address (code_number k) []
spoken_of (Count w) s b c = acknowledge s.address done w
spoken_of (Match k w) s b c = acknowledge s.address (code_number k) w
spoken_of (Parameters w) s b c = acknowledge s.address done w
spoken_of (Page w) s b c = acknowledge s.address done w
spoken_of (Upload n) s b c = follow (acknowledge s.address done []) (data_packets s.address (size_of s.size) (chosen_of (buffer_number n) b c))

-- a command that is refused is answered by its code alone
abbrev pub answer_in : Result Answer Code → Answer
answer_in (Ok a) = a
answer_in (Err k) = Alone k
