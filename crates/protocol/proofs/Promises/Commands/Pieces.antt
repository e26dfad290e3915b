-- Steps 6 and 7: identifier 1 ends an open transfer; a data packet goes in, or ends the transfer with 0Eh; without a transfer it is silent.
use mathlib.Core.Bool.{Bool, true, false, cond}
use mathlib.Core.Path.{◌≡◌, refl, sym, ap, ap₂, ◌∙◌, subst}
use mathlib.Core.List.{List, [], ◌++◌}
use Prim.Native.Nat.{ℕ, ◌+◌, ◌<◌}
use lib.Dec.{T, eqb, ltb, eqb→eq, ltb→lt}
use borrow.Author.Tests.{eq-eqb, lt-ltb}
use lib.ListN.{length, take, drop}
use Rattle.protocol.specs.Bytes.{lay}
use Rattle.protocol.specs.Reader.{Transfer, closed, opened, Plain, Origin, no_origin, Reader, size_of, buffer_of, emptied, with_transfer, with_buffer, reader, capacity}
use Rattle.protocol.specs.Data.{acknowledge}
use Rattle.protocol.specs.Step.{piece, hear, silence, says, ended, rested, fits, take_as, take_in, answer}
use Rattle.protocol.specs.Call.{Shape, Lent, fit_transfer, fit_lent, legal, call_of}
use Rattle.protocol.proofs.Laws.Logic.{T→true, and_l, eqb_same}
use Rattle.protocol.proofs.Laws.Origins.{unfilled_none}
use Rattle.protocol.proofs.Laws.Legal.{fitting, Moving, moving, legal_transfer, legal_origins}
use Rattle.protocol.proofs.Promises.Words.Told.{Replies, Leaves, Gives, answered, buffer, number, blank, WithBuffer, with_buffer_lem}

-- ---- an open transfer ended

-- x is the reader r with its transfer closed, and the transfer's buffer zeroed and unmarked
abbrev pub Stopped : Bool → Reader → Reader → Type 0
Stopped w r x = WithBuffer (number w) blank closed r x

stopped : (w : Bool) (got : ℕ) (r : Reader) → Stopped w r (ended r (opened w got))
unfolding ended emptied
stopped w got r = with_buffer_lem w emptied closed r

-- "Identifier 1 ends an open transfer: its buffer is zeroed." Every promise about a command speaks of the reader `rested r`
pub order_ends : (r : Reader) (w : Bool) (got : ℕ) → r.plain.transfer ≡ opened w got → Stopped w r (rested r)
unfolding rested
order_ends r w got e = subst (λ (x : Transfer). Stopped w r (ended r x)) (sym e) (stopped w got r)

pub none_ends : (r : Reader) → r.plain.transfer ≡ closed → rested r ≡ r
unfolding rested ended
none_ends r e = ap (ended r) e

-- ---- a data packet

-- the sum right, the content exactly one size long; with identifier 2 the total got stays below 512, with 8 it becomes 512
pub record GoesIn (p : Plain) (got : ℕ) (last right : Bool) (content : List ℕ) : Type 0 where
  pub sum : right ≡ true
  pub long : length content ≡ size_of p.size
  pub total : cond last (got + size_of p.size ≡ 512) (got + size_of p.size < 512)

goes_in : (p : Plain) (got : ℕ) (last right : Bool) (content : List ℕ) → T (fits p got last right content) → GoesIn p got last right content
unfolding fits
goes_in p got last right content t =
    record { sum = T→true right (search (and_l)); long = (fitting p got last right content t).one; total = go last (fitting p got last right content t).total }
  where
    go : (b : Bool) → T (cond b (eqb (got + size_of p.size) 512) (ltb (got + size_of p.size) 512))
        → cond b (got + size_of p.size ≡ 512) (got + size_of p.size < 512)
    go true x = eqb→eq (got + size_of p.size) 512 x
    go false x = ltb→lt (got + size_of p.size) 512 x

fits_in : (p : Plain) (got : ℕ) (last right : Bool) (content : List ℕ) → GoesIn p got last right content → fits p got last right content ≡ true
unfolding fits
fits_in p got last right content g = rw (g.sum, g.long, eqb_same (size_of p.size)) (go last g.total)
  where
    go : (b : Bool) → cond b (got + size_of p.size ≡ 512) (got + size_of p.size < 512)
        → cond b (eqb (got + size_of p.size) 512) (ltb (got + size_of p.size) 512) ≡ true
    go true x = eq-eqb (got + size_of p.size) 512 x
    go false x = lt-ltb (got + size_of p.size) 512 x

-- "Then the bytes go in at the place reached, silently; 8 also sets the filled mark and closes." The buffer has no origin; all else stays
abbrev pub Taken : Bool → ℕ → Bool → List ℕ → Reader → Reader → Type 0
Taken w got last content r x =
    let b = (buffer (number w) r.guarded).bytes in
    WithBuffer (number w) record { bytes = take got b ++ (content ++ drop (got + length content) b); filled = last; origin = no_origin } (cond last closed (opened w (got + length content))) r x

taken : (r : Reader) (w : Bool) (got : ℕ) (content : List ℕ) (last : Bool) → length content ≡ size_of r.plain.size → (buffer_of w r.guarded).filled ≡ false
    → (buffer_of w r.guarded).origin ≡ no_origin → Taken w got last content r (take_as r w got content true last).after
unfolding take_as silence lay buffer_of
taken r w got content last o f a = subst (Taken w got last content r) (sym (same last)) (go w)
  where
    put : Bool → Transfer → Bool → Origin → Reader
    put x m b e = reader (with_transfer m r.plain) (with_buffer x record { bytes = lay got content (buffer_of x r.guarded).bytes; filled = b; origin = e } r.guarded)

    left : Bool → Bool → Transfer
    left x b = cond b closed (opened x (got + length content))

    same : (b : Bool) → (take_as r w got content true b).after ≡ put w (left w b) b no_origin
    same true = ap (put w closed true) a
    same false =
        ap₂ (λ (n : ℕ) (b : Bool). put w (opened w (got + n)) b (buffer_of w r.guarded).origin) (sym o) f
        ∙ ap (put w (opened w (got + length content)) false) a

    go : (x : Bool) → Taken x got last content r (put x (left x last) last no_origin)
    go true = with_buffer_lem true _ (left true last) r
    go false = with_buffer_lem false _ (left false last) r

module _ (σ : Shape) (r : Reader) (s : List ℕ) (lent : Lent) (f : T (legal σ r)) (u : T (fit_lent (capacity r.guarded) lent)) (last right : Bool) (content : List ℕ)
    (h : hear r.plain.address s ≡ piece last right content) where
  module _ (w : Bool) (got : ℕ) (e : r.plain.transfer ≡ opened w got) where
    takes : (b : Bool) → fits r.plain got last right content ≡ b → answer lent.chip r (hear r.plain.address s) ≡ take_as r w got content b last
    unfolding answer take_in
    takes b q = ap (answer lent.chip r) h ∙ ap (take_in r last right content) e ∙ ap (λ (x : Bool). take_as r w got content x last) q

    -- a data packet that goes in
    pub piece_goes_in : GoesIn r.plain got last right content → Leaves [] (Taken w got last content r) s lent (call_of σ r s lent)
    unfolding silence take_as
    piece_goes_in g =
        let a = answered σ r s lent f u (take_as r w got content true last) (takes true (fits_in r.plain got last right content g)) in
        let m : Moving r.plain r.guarded w got = moving r.plain r.guarded w got (subst (λ (x : Transfer). T (fit_transfer r.plain r.guarded x)) e (legal_transfer σ r f)) in
        record { told = subst (λ (x : List ℕ). Replies x s lent (call_of σ r s lent)) (quiet last) a.told; after = subst (Taken w got last content r) (sym a.after) (taken r w got content last g.long m.unfilled (unfilled_none _ _ _ (legal_origins σ r f w) m.unfilled)) }
      where
        quiet : (b : Bool) → (take_as r w got content true b).reply ≡ []
        quiet true = refl
        quiet false = refl

    -- "Anything else: 0Eh, buffer zeroed, transfer closed."
    pub piece_fails : (GoesIn r.plain got last right content → ⊥) → Leaves (acknowledge r.plain.address 0x0e []) (Stopped w r) s lent (call_of σ r s lent)
    unfolding take_as says ended with_transfer
    piece_fails d =
        let a = answered σ r s lent f u (take_as r w got content false last) (takes false (go (fits r.plain got last right content) refl)) in
        record { told = a.told; after = subst (Stopped w r) (sym a.after) (stopped w got r) }
      where
        go : (b : Bool) → fits r.plain got last right content ≡ b → fits r.plain got last right content ≡ false
        go true q = absurd (d (goes_in r.plain got last right content (rw q tt)))
        go false q = q

  -- "Identifier 2 or 8 without a transfer: silent."
  pub piece_ignored : r.plain.transfer ≡ closed → Gives [] r s lent (call_of σ r s lent)
  unfolding answer take_in silence
  piece_ignored e = answered σ r s lent f u (silence r) (ap (answer lent.chip r) h ∙ ap (take_in r last right content) e)
