-- Which bytes a command is read from: its code, then its parameters, page, N, start and count two bytes each high byte first, other parameters one byte,
-- passwords and addresses four. Any other length is a misfit.
use mathlib.Core.Bool.{Bool, true}
use mathlib.Core.Logic.{◌↔◌}
use mathlib.Core.Path.{◌≡◌, refl, sym, ap, ◌∙◌, subst}
use mathlib.Core.List.{List, [], ◌∷◌}
use Prim.Native.Nat.{ℕ, ◌+◌, ◌*◌}
use native.Mathlib.Omega.{arith}
use lib.Dec.{T}
use lib.ListN.{length, get_or, take, drop, length-take, length-drop}
use borrow.Author.Tests.{eqb-true, eq-eqb}
use Rattle.protocol.specs.Numbers.{four_bytes, command_packet}
use Rattle.protocol.specs.Bytes.{byte_at, word_at, two, total}
use Rattle.protocol.specs.Packet.{packet, length_of, sum_of, accepts, right_at}
use Rattle.protocol.specs.Commands.{read_sys_para, verify_password, hand_shake, search_for, store, load_char, up_char, down_char, delet_char, empty, set_sys_para, set_password, set_address, write_notepad, read_notepad, templete_num, read_index_table, Command, free, barred, Entry, commands, row_of, command, order_as, order_of}
use Rattle.protocol.specs.Step.{Heard, order, hear_as, hear}
use Rattle.protocol.proofs.Laws.Lists.{from}
use Rattle.protocol.proofs.Laws.Commands.{Each, At, row_law, own_code, Fits, order_fits}
use Rattle.protocol.proofs.Promises.Packets.Finding.{WholeAt, content_of, content_long, first_content, Hears, no_packet, another, answered, ordered, more, last, heard, hears}
use Rattle.protocol.proofs.Promises.Packets.ReadBack.{heard_packet}

-- the content is a right packet's, and reads as this command
abbrev Reads : List ℕ → Command → Type 0
Reads content c = order_of true content ≡ command c

pub record Parameters : Type 0 where
  pub search_read : (b h l m n : ℕ) → Reads (0x04 ∷ b ∷ h ∷ l ∷ m ∷ n ∷ []) (barred (search_for b (h * 256 + l) (m * 256 + n)))
  pub store_read : (b h l : ℕ) → Reads (0x06 ∷ b ∷ h ∷ l ∷ []) (barred (store b (h * 256 + l)))
  pub load_read : (b h l : ℕ) → Reads (0x07 ∷ b ∷ h ∷ l ∷ []) (barred (load_char b (h * 256 + l)))
  pub up_read : (b : ℕ) → Reads (0x08 ∷ b ∷ []) (barred (up_char b))
  pub down_read : (b : ℕ) → Reads (0x09 ∷ b ∷ []) (barred (down_char b))
  pub delete_read : (h l m n : ℕ) → Reads (0x0c ∷ h ∷ l ∷ m ∷ n ∷ []) (barred (delet_char (h * 256 + l) (m * 256 + n)))
  pub empty_read : Reads (0x0d ∷ []) (barred empty)
  pub set_read : (k v : ℕ) → Reads (0x0e ∷ k ∷ v ∷ []) (barred (set_sys_para k v))
  pub parameters_read : Reads (0x0f ∷ []) (free read_sys_para)
  pub password_read : (w x y z : ℕ) → Reads (0x12 ∷ w ∷ x ∷ y ∷ z ∷ []) (barred (set_password (w ∷ x ∷ y ∷ z ∷ [])))
  pub verify_read : (w x y z : ℕ) → Reads (0x13 ∷ w ∷ x ∷ y ∷ z ∷ []) (free (verify_password (w ∷ x ∷ y ∷ z ∷ [])))
  pub address_read : (w x y z : ℕ) → Reads (0x15 ∷ w ∷ x ∷ y ∷ z ∷ []) (barred (set_address (w ∷ x ∷ y ∷ z ∷ [])))
  pub note_read : (p : ℕ) (b : List ℕ) → length b ≡ 32 → Reads (0x18 ∷ p ∷ b) (barred (write_notepad p b))
  pub notes_read : (p : ℕ) → Reads (0x19 ∷ p ∷ []) (barred (read_notepad p))
  pub number_read : Reads (0x1d ∷ []) (barred templete_num)
  pub index_read : (p : ℕ) → Reads (0x1f ∷ p ∷ []) (barred (read_index_table p))
  pub hand_read : Reads (0x40 ∷ []) (free hand_shake)

pub parameters : Parameters
unfolding order_of order_as row_of commands word_at
parameters =
    record {
      search_read = λ b h l m n. refl;
      store_read = λ b h l. refl;
      load_read = λ b h l. refl;
      up_read = λ b. refl;
      down_read = λ b. refl;
      delete_read = λ h l m n. refl;
      empty_read = refl;
      set_read = λ k v. refl;
      parameters_read = refl;
      password_read = λ w x y z. refl;
      verify_read = λ w x y z. refl;
      address_read = λ w x y z. refl;
      note_read = λ p b e. rw e refl;
      notes_read = λ p. refl;
      number_read = refl;
      index_read = λ p. refl;
      hand_read = refl;
    }

-- and of ReadSysPara also the other way: nothing else is read as it
abbrev Told : List ℕ → Entry → Type 0
Told content e = e.read content ≡ free read_sys_para → (e.code ≡ 0x0f) × (e.len ≡ 3)

told_rows : (content : List ℕ) → Each (Told content) commands
unfolding commands
told_rows content =
    (λ e. (cc, cc), (λ e. (cc, cc), (λ e. (cc, cc), (λ e. (cc, cc), (λ e. (cc, cc), (λ e. (cc, cc), (λ e. (cc, cc), (λ e. (cc, cc), (λ e. (refl, refl), (λ e. (cc, cc), (λ e. (cc, cc), (λ e. (cc, cc), (λ e. (cc, cc), (λ e. (cc, cc), (λ e. (cc, cc), (λ e. (cc, cc), (λ e. (cc, cc), tt)))))))))))))))))

-- the sum is right, and the content is 0Fh alone
pub only_parameters : (right : Bool) (content : List ℕ) → order_of right content ≡ command (free read_sys_para) → (right ≡ true) × (content ≡ 0x0f ∷ [])
only_parameters right content q =
    let f : Fits right content (free read_sys_para) = order_fits right content (free read_sys_para) q in
    let own : f.entry.code ≡ byte_at content 0 = subst (At (λ e. e.code ≡ byte_at content 0)) f.row (own_code commands (byte_at content 0)) in
    let told = subst (At (Told content)) f.row (row_law (Told content) commands (told_rows content) (byte_at content 0)) f.read in
    (f.sum, single content (omega (arith, f.long, told.1)) (sym own ∙ told.0))
  where
    single : (c : List ℕ) → length c ≡ 1 → byte_at c 0 ≡ 0x0f → c ≡ 0x0f ∷ []
    single [] l e = absurd (omega arith)
    single (b ∷ []) l e = ap (λ (x : ℕ). x ∷ []) e
    single (b ∷ a ∷ c) l e = absurd (omega arith)

-- so a packet with identifier 1 and that content, for the reader of the address a, asks it for this command
pub asked_by : (a content : List ℕ) (c : Command) → length a ≡ four_bytes → T (accepts command_packet (length_of content)) → order_of true content ≡ command c
    → hear a (packet a command_packet content) ≡ order (command c)
unfolding hear_as
asked_by a content c h t e = heard_packet a command_packet content h t ∙ ap order e

-- ---- a run that asks for ReadSysPara

-- the run asks the reader of the address a for ReadSysPara: its first packet is whole, with length field 3, that address, identifier 1, the code 0Fh, and the sum of
-- 01h, 00h, 03h and 0Fh
pub record AsksParameters (a s : List ℕ) : Type 0 where
  pub place : ℕ
  pub whole : WholeAt s place 3
  pub address : take 4 (drop (place + 2) s) ≡ a
  pub identifier : get_or s (place + 6) 0 ≡ 1
  pub code : get_or s (place + 9) 0 ≡ 0x0f
  pub sum : get_or s (place + 10) 0 * 256 + get_or s (place + 11) 0 ≡ 0x13

-- that is the right sum
sum_right : (s : List ℕ) (p : ℕ) → get_or s (p + 6) 0 ≡ 1 → content_of s p 3 ≡ 0x0f ∷ [] → (right_at s p 3 ≡ true) ↔ (get_or s (p + 10) 0 * 256 + get_or s (p + 11) 0 ≡ 0x13)
unfolding word_at sum_of two total
sum_right s p i c =
    let at : p + 7 + 3 ≡ p + 10 = omega arith in
    let next : p + 10 + 1 ≡ p + 11 = omega arith in
    let word : word_at s (p + 7 + 3) ≡ get_or s (p + 10) 0 * 256 + get_or s (p + 11) 0 = rw (at, next) refl in
    let sum : sum_of (get_or s (p + 6) 0) (content_of s p 3) ≡ 0x13 = rw (i, c) refl in
    (λ e. sym word ∙ eqb-true _ _ e ∙ sum, λ e. eq-eqb _ _ (word ∙ e ∙ sym sum))

pub asks_parameters : (a s : List ℕ) → hear a s ≡ order (command (free read_sys_para)) → AsksParameters a s
asks_parameters a s e = go (hear a s) (hears a s) e
  where
    go : (h : Heard) → Hears a s h → h ≡ order (command (free read_sys_para)) → AsksParameters a s
    go h (no_packet d) q = let z : ◌≡◌ {A = ℕ} 0 1 = cc in absurd (omega arith)
    go h (another w d) q = let z : ◌≡◌ {A = ℕ} 0 1 = cc in absurd (omega arith)
    go h (answered w i) q = let z : ◌≡◌ {A = ℕ} 0 1 = cc in absurd (omega arith)
    go h (more w b i) q = let z : ◌≡◌ {A = ℕ} 0 1 = cc in absurd (omega arith)
    go h (last w b i) q = let z : ◌≡◌ {A = ℕ} 0 1 = cc in absurd (omega arith)
    go h (ordered {p} {n} w b i) q =
        let only = only_parameters (right_at s p n) (content_of s p n) cc in
        let three : n ≡ 3 = sym (content_long s p n w) ∙ ap (λ (c : List ℕ). length c + 2) only.1 in
        record {
          place = p;
          whole = rw three at w;
          address = b;
          identifier = i;
          code = sym (first_content s p n w) ∙ ap (λ (c : List ℕ). get_or c 0 0) only.1;
          sum = (sum_right s p i (ap (content_of s p) (sym three) ∙ only.1)).0 (rw three at only.0);
        }

-- and such a run does
pub parameters_asked : (a s : List ℕ) → AsksParameters a s → hear a s ≡ order (command (free read_sys_para))
parameters_asked a s k =
    let content : content_of s k.place 3 ≡ 0x0f ∷ [] = ap (take 1) (from s (k.place + 9) (omega (arith, k.whole.inside))) ∙ ap (λ (b : ℕ). b ∷ []) k.code in
    heard (ordered k.whole k.address k.identifier) ∙ rw ((sum_right s k.place k.identifier content).1 k.sum, content) (ap order parameters.parameters_read)

-- its reader's address has four bytes
pub four_bytes_lem : {a s : List ℕ} → AsksParameters a s → length a ≡ 4
four_bytes_lem {a} {s} k = ap length (sym k.address) ∙ simp (length-take, length-drop) (omega (arith, k.whole.inside))
