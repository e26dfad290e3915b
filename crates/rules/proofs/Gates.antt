-- What comes before the row, against the table of the definitions: one law of every row, had at whatever row a code picks.
use mathlib.Core.Path.{◌≡◌, refl, ap, ◌∙◌}
use mathlib.Core.Logic.{◌≢◌}
use mathlib.Core.Bool.{Bool, true, false, true≢false, ◌||◌, not, cond}
use mathlib.Core.List.{List}
use Prim.Native.Nat.{ℕ}
use native.Mathlib.Omega.{arith}
use lib.Dec.{eqb}
use borrow.Author.Tests.{eqb-true, eq-eqb}
use Rattle.protocol.specs.declared.command_codes.CommandCode.{CommandCode}
use Rattle.protocol.specs.declared.command_codes.CommandCode.TheVariants.{Search, Store, LoadChar, UpChar, DownChar, DeletChar, Empty, SetSysPara, ReadSysPara, SetPwd, VfyPwd, SetAdder, WriteNotepad, ReadNotepad, TempleteNum, ReadIndexTable, HandShake}
use Rattle.protocol.specs.Codes.{command_number}
use Rattle.protocol.specs.Numbers.{bad_packet, unknown_command, password_first}
use Rattle.protocol.specs.Bytes.{byte_at}
use Rattle.protocol.specs.Packet.{length_of}
use Rattle.protocol.specs.Reader.{Plain, Reader, locked}
use Rattle.protocol.specs.Commands.{Entry, commands, Known, none, some, row_of, order_as, order_of}
use Rattle.protocol.specs.Search.{Chip}
use Rattle.protocol.specs.Step.{says, obey, heed}
use Rattle.protocol.proofs.Laws.Commands.{Each, At, row_law, own_code, BarredRow, barred_rows}
use Rattle.rules.specs.Commands.{len_of, read_of, is_free, Admitted, gate_of}

-- no row's length is 0
abbrev Long : Entry → Type 0
Long e = eqb e.len 0 ≡ false

long : Each Long commands
unfolding commands
long = (refl, (refl, (refl, (refl, (refl, (refl, (refl, (refl, (refl, (refl, (refl, (refl, (refl, (refl, (refl, (refl, (refl, tt)))))))))))))))))

-- each command has a row, whose length is not 0
has_length : (c : CommandCode) → eqb (len_of (row_of commands (command_number c))) 0 ≡ false
unfolding len_of row_of commands
has_length Search = refl
has_length Store = refl
has_length LoadChar = refl
has_length UpChar = refl
has_length DownChar = refl
has_length DeletChar = refl
has_length Empty = refl
has_length SetSysPara = refl
has_length ReadSysPara = refl
has_length SetPwd = refl
has_length VfyPwd = refl
has_length SetAdder = refl
has_length WriteNotepad = refl
has_length ReadNotepad = refl
has_length TempleteNum = refl
has_length ReadIndexTable = refl
has_length HandShake = refl

pub sized : (c : CommandCode) (k : ℕ) → command_number c ≡ k → eqb (len_of (row_of commands k)) 0 ≡ false
sized c k e = rw (← e) (has_length c)

-- a code that is not free is none of the three
not_free : (k : ℕ) → is_free k ≡ false → (k ≢ 0x0f) × ((k ≢ 0x13) × (k ≢ 0x40))
unfolding is_free
not_free k q = (λ e. true≢false (rw e at q), (λ e. true≢false (rw e at q), λ e. true≢false (rw e at q)))

module _ (χ : Chip) (r : Reader) (c : List ℕ) where
  -- the gate at a row
  abbrev gate_as : ℕ → Known → ℕ
  gate_as k w = cond (eqb (len_of w) 0) unknown_command (cond (eqb (len_of w) (length_of c)) (cond (is_free k || not (locked r.plain)) 0 password_first) bad_packet)

  stops : (k : ℕ) (w : Known) → At Long w → At BarredRow w → At (λ e. e.code ≡ k) w → (gate_as k w ≡ 0 → ⊥) → heed χ r (order_as c w) ≡ says r (gate_as k w)
  unfolding heed order_as len_of obey
  stops k none h b q z = refl
  stops k (some e) h b q z = go (eqb e.len (length_of c)) refl (is_free k) refl (locked r.plain) refl
    where
      go : (a : Bool) → eqb e.len (length_of c) ≡ a → (o : Bool) → is_free k ≡ o → (l : Bool) → locked r.plain ≡ l → heed χ r (order_as c (some e)) ≡ says r (gate_as k (some e))
      go false ea o eo l el = rw (ea, h) refl
      go true ea true eo l el = absurd (z (rw (ea, h, eo) refl))
      go true ea false eo false el = absurd (z (rw (ea, h, eo, el) refl))
      go true ea false eo true el = let n = not_free e.code (ap is_free q ∙ eo) in let m = b n.0 n.1.0 n.1.1 c in rw (ea, h, eo, m.1, el) refl

  -- the gate's code, where it stops
  pub gate_stops : (right : Bool) → (gate_of right (byte_at c 0) (length_of c) r.plain ≡ 0 → ⊥)
      → heed χ r (order_of right c) ≡ says r (gate_of right (byte_at c 0) (length_of c) r.plain)
  unfolding gate_of order_of heed
  gate_stops false z = refl
  gate_stops true z =
      let k : ℕ = byte_at c 0 in
      stops k (row_of commands k) (row_law Long commands long k) (row_law BarredRow commands barred_rows k) (own_code commands k) z

  goes : (w : Known) → len_of w ≡ length_of c → heed χ r (order_as c w) ≡ obey χ r (read_of w c)
  unfolding heed order_as len_of read_of
  goes none e = absurd (omega arith)
  goes (some x) e = rw (eq-eqb x.len (length_of c) e) refl

  -- the row, where it does not
  pub gate_goes : (right : Bool) → right ≡ true → len_of (row_of commands (byte_at c 0)) ≡ length_of c → heed χ r (order_of right c) ≡ obey χ r (read_of (row_of commands (byte_at c 0)) c)
  unfolding order_of
  gate_goes right e h = rw e (goes (row_of commands (byte_at c 0)) h)

-- what a passed gate says
pub record Passed (right : Bool) (k n : ℕ) (p : Plain) : Type 0 where
  pub sum : right ≡ true
  pub admits : Admitted k n p

pub gate_passes : (right : Bool) (k n : ℕ) (p : Plain) → gate_of right k n p ≡ 0 → Passed right k n p
unfolding gate_of
gate_passes right k n p e = go right refl (eqb (len_of (row_of commands k)) 0) refl (eqb (len_of (row_of commands k)) n) refl (is_free k || not (locked p)) refl
  where
    go : (a : Bool) → right ≡ a → (b : Bool) → eqb (len_of (row_of commands k)) 0 ≡ b → (d : Bool) → eqb (len_of (row_of commands k)) n ≡ d → (f : Bool)
        → (is_free k || not (locked p)) ≡ f → Passed right k n p
    go false ea b eb d ed f ef = let z : ◌≡◌ {A = ℕ} bad_packet 0 = rw ea at e in absurd (omega arith)
    go true ea true eb d ed f ef = let z : ◌≡◌ {A = ℕ} unknown_command 0 = rw (ea, eb) at e in absurd (omega arith)
    go true ea false eb false ed f ef = let z : ◌≡◌ {A = ℕ} bad_packet 0 = rw (ea, eb, ed) at e in absurd (omega arith)
    go true ea false eb true ed false ef = let z : ◌≡◌ {A = ℕ} password_first 0 = rw (ea, eb, ed, ef) at e in absurd (omega arith)
    go true ea false eb true ed true ef = record { sum = ea; admits = record { long = eqb-true _ _ ed; open' = ef } }
