-- Rows of the table: one of whose tests fails, and what a command that a test stops answers.
use mathlib.Core.Path.{◌≡◌, refl, ap}
use mathlib.Core.Bool.{false}
use mathlib.Core.List.{List, [], ◌∷◌}
use Prim.Native.Nat.{ℕ, suc}
use Rattle.std.specs.Prelude.{Result, Ok, Err}
use Rattle.std.specs.Result.{IsErrAnd}
use Rattle.protocol.specs.declared.Settings.{Settings}
use Rattle.protocol.specs.declared.codes.Code.{Code}
use Rattle.protocol.specs.declared.codes.Code.TheVariants.{BadPacket, Done}
use Rattle.protocol.specs.Numbers.{done, bad_packet}
use Rattle.protocol.specs.Codes.{code_number}
use Rattle.protocol.specs.Tests.{Test, verdict}
use Rattle.protocol.specs.Bytes.{follow}
use Rattle.protocol.specs.Reader.{Reader}
use Rattle.protocol.specs.Data.{acknowledge}
use Rattle.protocol.specs.Table.{Effect, apply, Row, does, gives, is_buffer}
use Rattle.protocol.specs.Step.{says, carry, carry_as}
use Rattle.protocol.specs.Records.{reader_of}
use Rattle.reader.specs.declared.answers.Answer.{Answer}
use Rattle.reader.specs.declared.answers.Answer.TheVariants.{Alone, Page}
use Rattle.reader.specs.declared.memory.Sound.{Sound}
use Rattle.reader.specs.Answers.{answer_in}
use Rattle.reader.specs.Memory.{reader_in, said_of}

-- what `?` hands on
pub is_err : {A E : Type 0} (r : Result A E) (k : E) → IsErrAnd r (λ e. e ≡ k) → r ≡ Err k
is_err (Ok a) k q = elim q [ ]
is_err (Err e) k q = rw q refl

-- a test that fails, other than by 00h, changes nothing and is answered by its code alone
pub refused : (x : Sound) (k : Code) (w : Row) (n : ℕ) → code_number k ≡ suc n → verdict w.tests ≡ suc n → said_of (Alone k) x ≡ carry (reader_in x) w
unfolding carry carry_as says
refused x k w n e f = rw (f, e) refl

-- a number that names no buffer, where a row asks for one first
pub nameless : (x : Sound) (n : ℕ) (r : Result Answer Code) (k : Code) (w : Row) (ts : List Test) → IsErrAnd r (λ e. e ≡ k) → (k ≡ BadPacket) × (is_buffer n ≡ false)
    → w.tests ≡ (is_buffer n, bad_packet) ∷ ts → said_of (answer_in r) x ≡ carry (reader_in x) w
unfolding verdict
nameless x n r k w ts e f t = rw (is_err r k e, f.0) (refused x BadPacket w 0 refl (rw (t, f.1) refl))

-- a row whose tests pass, that does something
pub did : (x y : Sound) (ts : List Test) (f : Effect) → verdict ts ≡ 0 → reader_in y ≡ apply f (reader_in x) → said_of (Alone Done) y ≡ carry (reader_in x) (does ts f)
unfolding carry carry_as follow
did x y ts f v e = rw v (ap (λ (r : Reader). record { reply = acknowledge r.plain.address done []; after = r }) e)

-- and what it leaves, by its parts
pub did_parts : (x : Sound) (q : Settings) (t i m b c : List ℕ) (ts : List Test) (f : Effect) → verdict ts ≡ 0 → reader_of q t i m b c ≡ apply f (reader_in x)
    → record { reply = acknowledge q.address done []; after = reader_of q t i m b c } ≡ carry (reader_in x) (does ts f)
unfolding carry carry_as follow
did_parts x q t i m b c ts f v e = rw v (ap (λ (r : Reader). record { reply = acknowledge r.plain.address done []; after = r }) e)

-- or gives something
pub gave : (x : Sound) (ts : List Test) (b w : List ℕ) → verdict ts ≡ 0 → b ≡ w → said_of (Page b) x ≡ carry (reader_in x) (gives ts w)
unfolding carry carry_as follow apply
gave x ts b w v e = rw (v, e) refl
