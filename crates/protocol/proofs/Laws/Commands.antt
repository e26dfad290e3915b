-- The table of commands: a law of every row, had at whatever row a code picks; which rows the lock bars; what is read as a command; the tests of every row; the
-- lengths of parameters.
use mathlib.Core.Bool.{Bool, true, false, cond}
use mathlib.Core.Path.{◌≡◌, refl, sym, ◌∙◌, subst}
use mathlib.Core.Logic.{◌≢◌}
use mathlib.Core.List.{List, [], ◌∷◌}
use Prim.Native.Nat.{ℕ, ◌+◌}
use native.Mathlib.Omega.{arith}
use lib.Dec.{T, eqb}
use borrow.Author.Tests.{eqb-true}
use lib.ListN.{length, drop, length-drop}
use Rattle.protocol.specs.declared.Found.{Found}
use Rattle.protocol.specs.declared.Found.TheVariants.{Noise, Unfinished, Unfit, Whole}
use Rattle.protocol.specs.Numbers.{note_bytes, four_bytes, command_packet, acknowledge_packet, last_packet}
use Rattle.protocol.specs.Bytes.{byte_at, same}
use Rattle.protocol.specs.Packet.{length_of, address_at, identifier_at, content_at, right_at}
use Rattle.protocol.specs.Finder.{find_of}
use Rattle.protocol.specs.Reader.{Reader}
use Rattle.protocol.specs.Commands.{Barred, search_for, store, load_char, up_char, down_char, delet_char, empty, set_sys_para, set_password, set_address, write_notepad, read_notepad, templete_num, read_index_table, Command, free, barred, Entry, commands, Known, none, some, row_of, Order, damaged, unknown, misfit, command, order_as, order_of}
use Rattle.protocol.specs.Search.{Chip}
use Rattle.protocol.specs.Table.{rule}
use Rattle.protocol.specs.Step.{Heard, nothing, order, piece, hear_as, hear_at, hear}
use Rattle.protocol.proofs.Laws.Logic.{numbered}

-- ---- a law of every row

abbrev pub Each : (Entry → Type 0) → List Entry → Type 0
Each P [] = Unit {0}
Each P (e ∷ es) = P e × Each P es

abbrev pub At : (Entry → Type 0) → Known → Type 0
At P none = Unit {0}
At P (some e) = P e

pub row_law : (P : Entry → Type 0) (es : List Entry) → Each P es → (k : ℕ) → At P (row_of es k)
unfolding row_of
row_law P [] h k = tt
row_law P (e ∷ es) h k = go (eqb k e.code) (row_law P es h.1 k)
  where
    go : (b : Bool) → At P (row_of es k) → At P (cond b (some e) (row_of es k))
    go true ih = h.0
    go false ih = ih

-- which is the code's own
pub own_code : (es : List Entry) (k : ℕ) → At (λ e. e.code ≡ k) (row_of es k)
unfolding row_of
own_code [] k = tt
own_code (e ∷ es) k = go (eqb k e.code) refl (own_code es k)
  where
    go : (b : Bool) → eqb k e.code ≡ b → At (λ e. e.code ≡ k) (row_of es k) → At (λ e. e.code ≡ k) (cond b (some e) (row_of es k))
    go true q ih = sym (eqb-true k e.code q)
    go false q ih = ih

-- ---- every code but 0Fh, 13h and 40h reads as a command that the lock bars

abbrev pub BarredRow : Entry → Type 0
BarredRow e = e.code ≢ 0x0f → e.code ≢ 0x13 → e.code ≢ 0x40 → (c : List ℕ) → (b : Barred) × (e.read c ≡ barred b)

pub barred_rows : Each BarredRow commands
unfolding commands
barred_rows =
    (λ m n o c. (_, refl), (λ m n o c. (_, refl), (λ m n o c. (_, refl), (λ m n o c. (_, refl), (λ m n o c. (_, refl), (λ m n o c. (_, refl), (λ m n o c. (_, refl), (λ m n o c. (_, refl), (λ m n o c. absurd (m refl), (λ m n o c. (_, refl), (λ m n o c. absurd (n refl), (λ m n o c. (_, refl), (λ m n o c. (_, refl), (λ m n o c. (_, refl), (λ m n o c. (_, refl), (λ m n o c. (_, refl), (λ m n o c. absurd (o refl), tt)))))))))))))))))

-- ---- what is read as a command: the sum is right, and the length is that of the code's row

pub record Fits (right : Bool) (c : List ℕ) (k : Command) : Type 0 where
  pub sum : right ≡ true
  pub entry : Entry
  pub row : row_of commands (byte_at c 0) ≡ some entry
  pub long : entry.len ≡ length_of c
  pub read : entry.read c ≡ k

pub order_fits : (right : Bool) (c : List ℕ) (k : Command) → order_of right c ≡ command k → Fits right c k
unfolding order_of order_as
order_fits false c k q = let z : ◌≡◌ {A = ℕ} 0 1 = cc in absurd (omega arith)
order_fits true c k q = go (row_of commands (byte_at c 0)) refl q
  where
    go : (w : Known) → row_of commands (byte_at c 0) ≡ w → order_as c w ≡ command k → Fits true c k
    go none e q = let z : ◌≡◌ {A = ℕ} 0 1 = cc in absurd (omega arith)
    go (some x) e q = at (eqb x.len (length_of c)) refl q
      where
        at : (t : Bool) → eqb x.len (length_of c) ≡ t → cond t (command (x.read c)) misfit ≡ command k → Fits true c k
        at true l q = record { sum = refl; entry = x; row = e; long = eqb-true x.len (length_of c) l; read = cc }
        at false l q = let z : ◌≡◌ {A = ℕ} 0 1 = cc in absurd (omega arith)

-- ---- no test of a row gives the code 00h

pub tests_numbered : (χ : Chip) (r : Reader) (c : Barred) → T (numbered (rule χ r c).tests)
unfolding rule
tests_numbered χ r (search_for b p n) = tt
tests_numbered χ r (store b p) = tt
tests_numbered χ r (load_char b p) = tt
tests_numbered χ r (up_char b) = tt
tests_numbered χ r (down_char b) = tt
tests_numbered χ r (delet_char p n) = tt
tests_numbered χ r empty = tt
tests_numbered χ r (set_sys_para k v) = tt
tests_numbered χ r (set_password w) = tt
tests_numbered χ r (set_address a) = tt
tests_numbered χ r (write_notepad p b) = tt
tests_numbered χ r (read_notepad p) = tt
tests_numbered χ r templete_num = tt
tests_numbered χ r (read_index_table p) = tt

-- ---- passwords and addresses have four bytes, what goes into the notepad a page of it

abbrev pub Long : Barred → Type 0
Long (search_for b p n) = Unit {0}
Long (store b p) = Unit {0}
Long (load_char b p) = Unit {0}
Long (up_char b) = Unit {0}
Long (down_char b) = Unit {0}
Long (delet_char p n) = Unit {0}
Long empty = Unit {0}
Long (set_sys_para k v) = Unit {0}
Long (set_password w) = length w ≡ four_bytes
Long (set_address a) = length a ≡ four_bytes
Long (write_notepad p b) = length b ≡ note_bytes
Long (read_notepad p) = Unit {0}
Long templete_num = Unit {0}
Long (read_index_table p) = Unit {0}

abbrev pub LongCommand : Command → Type 0
LongCommand (free c) = Unit {0}
LongCommand (barred c) = Long c

abbrev LongRow : Entry → Type 0
LongRow e = (c : List ℕ) → e.len ≡ length_of c → LongCommand (e.read c)

skipped : (k m : ℕ) (c : List ℕ) → k + m + 2 ≡ length_of c → length (drop k c) ≡ m
skipped k m c e = length-drop k c ∙ omega arith

long_rows : Each LongRow commands
unfolding commands
long_rows =
    (λ c e. tt, (λ c e. tt, (λ c e. tt, (λ c e. tt, (λ c e. tt, (λ c e. tt, (λ c e. tt, (λ c e. tt, (λ c e. tt, (λ c e. skipped 1 4 c e, (λ c e. tt, (λ c e. skipped 1 4 c e, (λ c e. skipped 2 32 c e, (λ c e. tt, (λ c e. tt, (λ c e. tt, (λ c e. tt, tt)))))))))))))))))

abbrev pub LongHeard : Heard → Type 0
LongHeard nothing = Unit {0}
LongHeard (order damaged) = Unit {0}
LongHeard (order unknown) = Unit {0}
LongHeard (order misfit) = Unit {0}
LongHeard (order (command c)) = LongCommand c
LongHeard (piece last right content) = Unit {0}

long_order : (right : Bool) (c : List ℕ) → LongHeard (order (order_of right c))
long_order right c = go (order_of right c) refl
  where
    go : (o : Order) → order_of right c ≡ o → LongHeard (order o)
    go damaged q = tt
    go unknown q = tt
    go misfit q = tt
    go (command k) q =
        let f : Fits right c k = order_fits right c k q in
        subst LongCommand f.read (subst (At LongRow) f.row (row_law LongRow commands long_rows (byte_at c 0)) c f.long)

either : (b : Bool) (x y : Heard) → LongHeard x → LongHeard y → LongHeard (cond b x y)
either true x y h k = h
either false x y h k = k

pub long_heard : (a s : List ℕ) → LongHeard (hear a s)
unfolding hear hear_at hear_as
long_heard a s = at (find_of s)
  where
    at : (f : Found) → LongHeard (hear_at a s f)
    at (Noise n) = tt
    at (Unfinished p) = tt
    at (Unfit p) = tt
    at (Whole p n) =
        let i : ℕ = identifier_at s p in
        let right : Bool = right_at s p n in
        let c : List ℕ = content_at s p n in
        let rest : Heard = piece (eqb i last_packet) right c in
        either (same (address_at s p) a) (hear_as i right c) nothing
        (either (eqb i command_packet) (order (order_of right c)) (cond (eqb i acknowledge_packet) nothing rest) (long_order right c)
        (either (eqb i acknowledge_packet) nothing rest tt tt)) tt
