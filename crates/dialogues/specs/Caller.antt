-- Request [1]: a receiver's caller, who offers a run piece by piece; the run whole, by document 01's call; and sequences of pieces and line
-- switches.
use Rattle.std.specs.Prelude.{Bool, true, ◌&&◌, cond, ◌≡◌, List, [], ◌∷◌, ℕ, zero, suc, eqb, length, take, drop}
use Rattle.protocol.specs.Finder.{find_of, used_of}
use Rattle.protocol.specs.Reader.{Reader}
use Rattle.protocol.specs.Search.{Chip}
use Rattle.protocol.specs.Step.{hear, IsSearch, step_of}
use Rattle.protocol.specs.Call.{Shape, Lent, Told, reply_of}
use Rattle.protocol.specs.Dialogue.{Event, received, switch}
use Rattle.dialogues.specs.History.{Exchange}
use Rattle.protocol.specs.Receiver.{bytes_in, holding, Line, line, Handed, run_of, receive_of, line_switch_of}

-- ---- "the caller offers the rest, then an empty piece"

-- one of its calls: how many bytes it offers of those left, and what it lends
pub record Try : Type 0 where
  pub size : ℕ
  pub lent : Lent

-- what some calls did: the replies in order, the line after them, and the bytes of the run that are left
pub record Ran : Type 0 where
  pub replies : List (List ℕ)
  pub after : Line
  pub left : List ℕ

-- silence is no reply
unfoldable pub replied : List ℕ → Ran → Ran
replied [] d = d
replied (b ∷ a) d = record { replies = (b ∷ a) ∷ d.replies; after = d.after; left = d.left }

-- a run offered: any way to cut it, to offer a rest again, or to offer nothing
unfoldable pub offers : Shape → List Try → Line → List ℕ → Ran
offers σ [] x s = record { replies = []; after = x; left = s }
offers σ (t ∷ ts) x s =
    let o = receive_of σ x (take t.size s) t.lent in
    replied (reply_of o.told) (offers σ ts o.after (drop o.told.used s))

-- "no call is refused"
unfoldable pub served : Shape → List Try → Line → List ℕ → Bool
served σ [] x s = true
served σ (t ∷ ts) x s =
    let o = receive_of σ x (take t.size s) t.lent in
    eqb o.told.refusal 0 && served σ ts o.after (drop o.told.used s)

-- Scores and thresholds are "lent at each call and may be new each time" (request [8]), and a Search sees those of the call that deals with it. Here each call that
-- deals with a Search lends these
unfoldable pub SearchesSee : Shape → Chip → List Try → Line → List ℕ → Type 0
SearchesSee σ χ [] x s = Unit {0}
SearchesSee σ χ (t ∷ ts) x s =
    let piece = take t.size s in
    let o = receive_of σ x piece t.lent in
    (IsSearch (hear x.reader.plain.address (run_of x.receiver piece)) → t.lent.chip ≡ χ) × SearchesSee σ χ ts o.after (drop o.told.used s)

-- "until a call takes nothing, answers nothing and leaves the held bytes as they are": all of the run is taken, and this call, of an empty
-- piece, is such a one
pub record Rests (σ : Shape) (d : Ran) (lent : Lent) : Type 0 where
  pub all : d.left ≡ []
  pub accepted : (receive_of σ d.after [] lent).told.refusal ≡ 0
  pub takes : (receive_of σ d.after [] lent).told.used ≡ 0
  pub answers : (receive_of σ d.after [] lent).told.length ≡ 0
  pub leaves : bytes_in (receive_of σ d.after [] lent).after.receiver ≡ bytes_in d.after.receiver

-- after that call
unfoldable pub resting : Shape → Ran → Lent → Ran
resting σ d lent = record { replies = d.replies; after = (receive_of σ d.after [] lent).after; left = d.left }

-- ---- the same run whole: document 01's call again and again, until it uses nothing; at most so many times

unfoldable pub at_rest : Reader → List ℕ → Ran
at_rest r s = record { replies = []; after = line r (holding s); left = [] }

unfoldable pub drain : Chip → ℕ → Reader → List ℕ → Ran
drain χ zero r s = at_rest r s
drain χ (suc n) r s =
    cond (eqb (used_of (find_of s)) 0) (at_rest r s)
    (replied (step_of χ r s).reply (drain χ n (step_of χ r s).after (drop (used_of (find_of s)) s)))

-- a call that uses something uses at least one byte
unfoldable pub drained : Chip → Reader → List ℕ → Ran
drained χ r s = drain χ (length s) r s

-- ---- sequences of pieces and line switches; an event's run is a piece here

unfoldable pub on_line : Shape → Line → Event → Handed
on_line σ x (received piece lent) = receive_of σ x piece lent
on_line σ x switch = line_switch_of x

-- the line after some events
unfoldable pub finally_on : Shape → Line → List Event → Line
finally_on σ x [] = x
finally_on σ x (e ∷ es) = finally_on σ (on_line σ x e).after es

-- the runs on which document 01's calls are done
unfoldable pub runs : Shape → Line → List Event → List Event
runs σ x [] = []
runs σ x (received piece lent ∷ es) = received (run_of x.receiver piece) lent ∷ runs σ (receive_of σ x piece lent).after es
runs σ x (switch ∷ es) = switch ∷ runs σ (line_switch_of x).after es

-- what the host of a receiver saw of each call: the bytes that it was done on, and the reply that the receiver gave
unfoldable pub seen : Shape → Line → List Event → List Exchange
seen σ x [] = []
seen σ x (received piece lent ∷ es) =
    let o = receive_of σ x piece lent in
    record { run = run_of x.receiver piece; reply = reply_of o.told } ∷ seen σ o.after es
seen σ x (switch ∷ es) = seen σ (line_switch_of x).after es

-- up to and including the first accepted password: the events gone through, what each got back, and the line after the last
pub record Talk : Type 0 where
  pub events : List Event
  pub told : List Told
  pub last : Line

unfoldable pub ends_at : Line → Talk
ends_at x = record { events = []; told = []; last = x }

unfoldable pub begins : Event → Told → Talk → Talk
begins e t d = record { events = e ∷ d.events; told = t ∷ d.told; last = d.last }

unfoldable pub talk : Shape → Line → List Event → Talk
talk σ x [] = ends_at x
talk σ x (e ∷ es) =
    let o = on_line σ x e in
    begins e o.told (cond o.after.reader.plain.verified (ends_at o.after) (talk σ o.after es))
