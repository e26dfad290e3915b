-- Document 01: "Order: unknown code 19h; wrong length 01h; locked and not 13h or 40h gives 21h; then the row's tests, left to right. A code
-- other than 00h changes nothing more, save that a wrong password clears the mark." Request [13]: "Document 01's order changes in one place: 0Fh joins 13h and 40h
-- before the lock." A wrong sum comes before all of them, whether the reader is locked or not. The row's tests are in Rows, the wrong password in Opens, what 0Fh
-- answers in Fitter, and Search's 09h, request [8]'s exception, in Searches. Stated over the bytes of a whole packet for this reader with identifier 1.
use mathlib.Core.Bool.{Bool, true, false, cond}
use mathlib.Core.Path.{◌≡◌, refl, sym, ap, ◌∙◌, subst}
use mathlib.Core.Logic.{◌≢◌}
use mathlib.Core.List.{List}
use Prim.Native.Nat.{ℕ, ◌+◌}
use lib.Dec.{T}
use lib.ListN.{length}
use borrow.Author.Tests.{eq-eqb, ne_eqb}
use Rattle.protocol.specs.declared.Found.TheVariants.{Whole}
use Rattle.protocol.specs.Bytes.{byte_at}
use Rattle.protocol.specs.Packet.{length_of, address_at, identifier_at, content_at, right_at}
use Rattle.protocol.specs.Finder.{find_of}
use Rattle.protocol.specs.Reader.{Reader, locked, capacity}
use Rattle.protocol.specs.Commands.{Barred, barred, Entry, commands, none, some, row_of, Order, damaged, unknown, misfit, command, order_as, order_of}
use Rattle.protocol.specs.Table.{rule}
use Rattle.protocol.specs.Step.{order, hear_as, hear_at, hear, says, carry, obey, heed, rested, answer}
use Rattle.protocol.specs.Call.{Shape, Lent, fit_lent, legal, call_of}
use Rattle.protocol.proofs.Laws.Commands.{At, row_law, own_code, BarredRow, barred_rows}
use Rattle.protocol.proofs.Laws.Finder.{heard_at}
use Rattle.protocol.proofs.Laws.Answers.{spared}
use Rattle.protocol.proofs.Promises.Words.Told.{Says, answered}

-- the run s has a whole packet with identifier 1 for the reader r at p, n its length field
pub record Ordered (r : Reader) (s : List ℕ) (p n : ℕ) : Type 0 where
  pub found : find_of s ≡ Whole p n
  pub address : address_at s p ≡ r.plain.address
  pub identifier : identifier_at s p ≡ 1

module _ (σ : Shape) (r : Reader) (s : List ℕ) (lent : Lent) (f : T (legal σ r)) (u : T (fit_lent (capacity r.guarded) lent)) (p n : ℕ) (k : Ordered r s p n) where
  abbrev content : List ℕ
  content = content_at s p n

  heard : hear r.plain.address s ≡ order (order_of (right_at s p n) content)
  unfolding hear hear_as
  heard = ap (hear_at r.plain.address s) k.found ∙ heard_at r.plain.address s p n k.address ∙ ap (λ (i : ℕ). hear_as i (right_at s p n) (content_at s p n)) k.identifier

  -- the call is answered a code alone, and changes nothing but an open transfer, which is ended
  abbrev pub Tells : ℕ → Type 0
  Tells code = Says (rested r) code s lent (call_of σ r s lent)

  said : (o : Order) (code : ℕ) → order_of (right_at s p n) content ≡ o → heed lent.chip (rested r) o ≡ says (rested r) code → Tells code
  unfolding answer says
  said o code h e = answered σ r s lent f u (says (rested r) code) (rw (heard, h, e) refl)

  -- the sum is wrong: 01h
  pub damaged_first : right_at s p n ≡ false → Tells 0x01
  unfolding order_of heed
  damaged_first e = said damaged 0x01 (rw e refl) refl

  module _ (right : right_at s p n ≡ true) where
    -- no command has the code: 19h
    pub unknown_next : row_of commands (byte_at content 0) ≡ none → Tells 0x19
    unfolding order_of order_as heed
    unknown_next e = said unknown 0x19 (rw (right, e) refl) refl

    module _ (e : Entry) (row : row_of commands (byte_at content 0) ≡ some e) where
      -- its length is another: 01h
      pub misfit_next : e.len ≢ length content + 2 → Tells 0x01
      unfolding order_of order_as heed
      misfit_next d = said misfit 0x01 (rw (right, row, ne_eqb e.len (length_of content) d) refl) refl

      module _ (fit : e.len ≡ length content + 2) where
        bars : (c : Barred) → e.read content ≡ barred c → locked r.plain ≡ true → Tells 0x21
        unfolding order_of order_as heed obey
        bars c is l =
            said (command (barred c)) 0x21 (rw (right, row, eq-eqb e.len (length_of content) fit, is) refl)
            (ap (λ (b : Bool). cond b (says (rested r) 0x21) (carry (rested r) (rule lent.chip (rested r) c))) ((spared r).lock ∙ l))

        -- the reader is locked, and the code is not 0Fh, 13h or 40h: 21h
        pub locked_next : byte_at content 0 ≢ 0x0f → byte_at content 0 ≢ 0x13 → byte_at content 0 ≢ 0x40 → locked r.plain ≡ true → Tells 0x21
        locked_next a b d l =
            let own : e.code ≡ byte_at content 0 = subst (At (λ x. x.code ≡ byte_at content 0)) row (own_code commands (byte_at content 0)) in
            let shut : BarredRow e = subst (At BarredRow) row (row_law BarredRow commands barred_rows (byte_at content 0)) in
            let c = shut (λ q. a (sym own ∙ q)) (λ q. b (sym own ∙ q)) (λ q. d (sym own ∙ q)) content in
            bars c.0 c.1 l
