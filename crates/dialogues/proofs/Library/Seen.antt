-- What the words of a library's history mean: what its host saw of a sequence of calls and line switches.
use mathlib.Core.Path.{◌≡◌, refl}
use mathlib.Core.List.{List, [], ◌∷◌}
use lib.ListN.{take}
use Prim.Native.Nat.{ℕ}
use Rattle.protocol.specs.Reader.{Reader}
use Rattle.protocol.specs.Call.{Shape, Lent, reply_of, call_of, switch_of}
use Rattle.protocol.specs.Dialogue.{Event, received, switch}
use Rattle.dialogues.specs.History.{exchanges}

pub record Seen (σ : Shape) : Type 0 where
  -- what the host saw: the run of each call and the reply to it, the front of the reply room; of a line switch nothing
  pub seen_none : (r : Reader) → exchanges σ r [] ≡ []
  pub seen_run : (r : Reader) (s : List ℕ) (lent : Lent) (es : List Event) → exchanges σ r (received s lent ∷ es)
      ≡ record { run = s; reply = take (call_of σ r s lent).told.length (call_of σ r s lent).told.room } ∷ exchanges σ (call_of σ r s lent).after es
  pub seen_switch : (r : Reader) (es : List Event) → exchanges σ r (switch ∷ es) ≡ exchanges σ (switch_of r).after es

pub seen_words : (σ : Shape) → Seen σ
unfolding exchanges reply_of
seen_words σ = record { seen_none = λ r. refl; seen_run = λ r s lent es. refl; seen_switch = λ r es. refl }
