-- The library's history as its host saw it: what it asked for, and was answered by 00h.
use Rattle.std.specs.Prelude.{Bool, false, ◌&&◌, ◌||◌, not, cond, List, [], ◌∷◌, ◌++◌, ℕ, eqb, length, get_or}
use Rattle.protocol.specs.declared.Found.{Found}
use Rattle.protocol.specs.declared.Found.TheVariants.{Noise, Unfinished, Unfit, Whole}
use Rattle.protocol.specs.Numbers.{done}
use Rattle.protocol.specs.Bytes.{same}
use Rattle.protocol.specs.Tests.{among, some}
use Rattle.protocol.specs.Packet.{address_at}
use Rattle.protocol.specs.Finder.{find_of}
use Rattle.protocol.specs.Reader.{Reader}
use Rattle.protocol.specs.Commands.{free, barred, Barred, search_for, store, load_char, up_char, down_char, delet_char, empty, set_sys_para, set_password, set_address, write_notepad, read_notepad, templete_num, read_index_table, damaged, unknown, misfit, command}
use Rattle.protocol.specs.Data.{acknowledge}
use Rattle.protocol.specs.Step.{Heard, nothing, order, piece, hear}
use Rattle.protocol.specs.Call.{Shape, reply_of, call_of, switch_of}
use Rattle.protocol.specs.Dialogue.{Event, received, switch}

-- what a host saw of a call: the run that it sent, and the reply that it got
pub record Exchange : Type 0 where
  pub run : List ℕ
  pub reply : List ℕ

unfoldable pub exchanges : Shape → Reader → List Event → List Exchange
exchanges σ r [] = []
exchanges σ r (received s lent ∷ es) = record { run = s; reply = reply_of (call_of σ r s lent).told } ∷ exchanges σ (call_of σ r s lent).after es
exchanges σ r (switch ∷ es) = exchanges σ (switch_of r).after es

-- pages put in, taken out, and moved: each page's new number, by a table
pub data Act : Type 0 where
  put : ℕ → Act
  cut : ℕ → ℕ → Act
  cut_all : Act
  moved : List ℕ → Act

unfoldable pub acts_of : Barred → List Act
acts_of (search_for b p n) = []
acts_of (store b p) = put p ∷ []
acts_of (load_char b p) = []
acts_of (up_char b) = []
acts_of (down_char b) = []
acts_of (delet_char p n) = cut p n ∷ []
acts_of empty = cut_all ∷ []
acts_of (set_sys_para k v) = []
acts_of (set_password w) = []
acts_of (set_address a) = []
acts_of (write_notepad p b) = []
acts_of (read_notepad p) = []
acts_of templete_num = []
acts_of (read_index_table p) = []

unfoldable pub acts_in : Heard → List Act
acts_in nothing = []
acts_in (order damaged) = []
acts_in (order unknown) = []
acts_in (order misfit) = []
acts_in (order (command (free c))) = []
acts_in (order (command (barred c))) = acts_of c
acts_in (piece last right content) = []

-- the address that a run's packet is for
unfoldable pub addressee : List ℕ → Found → List ℕ
addressee s (Noise n) = []
addressee s (Unfinished p) = []
addressee s (Unfit p) = []
addressee s (Whole p n) = address_at s p

-- what the run asks of the reader that it is for
unfoldable pub asks : List ℕ → List Act
asks s = acts_in (hear (addressee s (find_of s)) s)

-- a reply of 00h and no more, from the reader of an address
unfoldable pub grants : List ℕ → List ℕ → Bool
grants address reply = same reply (acknowledge address done [])

unfoldable pub acts_seen : Exchange → List Act
acts_seen x = cond (grants (addressee x.run (find_of x.run)) x.reply) (asks x.run) []

-- the newest first
unfoldable pub history : List Exchange → List Act → List Act
history [] old = old
history (x ∷ xs) old = history xs (acts_seen x ++ old)

-- is page q stored and not deleted since?
unfoldable pub live : List Act → ℕ → Bool
live [] q = false
live (put p ∷ old) q = eqb p q || live old q
live (cut p n ∷ old) q = not (among p n q) && live old q
live (cut_all ∷ old) q = false
-- "a moved page goes on as stored under its new number, and its old number no longer stands for it"
live (moved table ∷ old) q = some (λ p. live old p && eqb (get_or table p 0) q) (length table)
