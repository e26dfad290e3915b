-- Document 01, "Commands": "The length field is fixed by the command code; any other length is 01h. Order: unknown code 19h; wrong length 01h".
-- The seventeen codes and their length fields, at the level of a call: the run has a whole packet at p with identifier 1 for the reader, its sum
-- right, n its length field. What follows where the length is the code's own is in Parameters.
use mathlib.Core.Bool.{true}
use mathlib.Core.Path.{◌≡◌, refl, sym, ap, ◌∙◌}
use mathlib.Core.Logic.{◌≢◌}
use mathlib.Core.List.{List, [], ◌∷◌, map}
use Prim.Native.Nat.{ℕ, ◌+◌}
use lib.Dec.{T}
use borrow.Author.Tests.{ne_eqb}
use lib.ListN.{get_or}
use Rattle.protocol.specs.Packet.{content_at, right_at}
use Rattle.protocol.specs.Reader.{Reader, capacity, locked}
use Rattle.protocol.specs.Commands.{Entry, commands, none, some, row_of}
use Rattle.protocol.specs.Step.{rested}
use Rattle.protocol.specs.Call.{Shape, Lent, fit_lent, legal, call_of}
use Rattle.protocol.proofs.Promises.Words.Told.{Says}
use Rattle.protocol.proofs.Promises.Packets.Finding.{WholeAt, whole_at, content_long, first_content}
use Rattle.protocol.proofs.Promises.Commands.Order.{Ordered, unknown_next, misfit_next, locked_next}

-- the seventeen codes, each with its length field
abbrev pub table : List (ℕ × ℕ)
table =
    (0x04, 8)
    ∷ (0x06, 6)
    ∷ (0x07, 6)
    ∷ (0x08, 4)
    ∷ (0x09, 4)
    ∷ (0x0c, 7)
    ∷ (0x0d, 3)
    ∷ (0x0e, 5)
    ∷ (0x0f, 3)
    ∷ (0x12, 7)
    ∷ (0x13, 7)
    ∷ (0x15, 7)
    ∷ (0x18, 36)
    ∷ (0x19, 4)
    ∷ (0x1d, 3)
    ∷ (0x1f, 4)
    ∷ (0x40, 3)
    ∷ []

-- the code k is none of them
abbrev pub Absent : ℕ → List (ℕ × ℕ) → Type 0
Absent k [] = Unit {0}
Absent k (c ∷ cs) = (k ≢ c.0) × Absent k cs

-- so it is with each of them
abbrev pub Each : (ℕ → ℕ → Type 0) → List (ℕ × ℕ) → Type 0
Each P [] = Unit {0}
Each P (c ∷ cs) = P c.0 c.1 × Each P cs

each : {P Q : ℕ → ℕ → Type 0} → ((k m : ℕ) → P k m → Q k m) → (cs : List (ℕ × ℕ)) → Each P cs → Each Q cs
each f [] h = tt
each f (c ∷ cs) h = (f c.0 c.1 h.0, each f cs h.1)

-- ---- the definition's rows

rows : map (λ (e : Entry). (e.code, e.len)) commands ≡ table
unfolding commands
rows = refl

no_row : (es : List Entry) (k : ℕ) → Absent k (map (λ (e : Entry). (e.code, e.len)) es) → row_of es k ≡ none
unfolding row_of
no_row [] k h = refl
no_row (e ∷ es) k h = rw (ne_eqb k e.code h.0) (no_row es k h.1)

-- the code k has a row, with the length field m
abbrev HasRow : ℕ → ℕ → Type 0
HasRow k m = (e : Entry) × ((row_of commands k ≡ some e) × (e.len ≡ m))

has_rows : Each HasRow table
unfolding commands row_of
has_rows =
    ((_, (refl, refl)), ((_, (refl, refl)), ((_, (refl, refl)), ((_, (refl, refl)), ((_, (refl, refl)), ((_, (refl, refl)), ((_, (refl, refl)), ((_, (refl, refl)), ((_, (refl, refl)), ((_, (refl, refl)), ((_, (refl, refl)), ((_, (refl, refl)), ((_, (refl, refl)), ((_, (refl, refl)), ((_, (refl, refl)), ((_, (refl, refl)), ((_, (refl, refl)), tt)))))))))))))))))

module _ (σ : Shape) (r : Reader) (s : List ℕ) (lent : Lent) (f : T (legal σ r)) (u : T (fit_lent (capacity r.guarded) lent)) (p n : ℕ) (o : Ordered r s p n) (right : right_at s p n ≡ true) where
  whole : WholeAt s p n
  whole = whole_at s p n o.found

  -- the code is the first byte of the content
  code_at : get_or (content_at s p n) 0 0 ≡ get_or s (p + 9) 0
  code_at = first_content s p n whole

  -- every other code is unknown: 19h
  pub unknown_code : Absent (get_or s (p + 9) 0) table → Says (rested r) 0x19 s lent (call_of σ r s lent)
  unknown_code h = unknown_next σ r s lent f u p n o right (ap (row_of commands) code_at ∙ no_row commands (get_or s (p + 9) 0) (rw rows h))

  -- any other length than the code's own: 01h
  abbrev Fixed : ℕ → ℕ → Type 0
  Fixed k m = get_or s (p + 9) 0 ≡ k → n ≢ m → Says (rested r) 0x01 s lent (call_of σ r s lent)

  fixed : (k m : ℕ) → HasRow k m → Fixed k m
  fixed k m (y, (row, len)) e d = misfit_next σ r s lent f u p n o right y (ap (row_of commands) (code_at ∙ e) ∙ row) (λ c. d (sym (content_long s p n whole) ∙ sym c ∙ len))

  pub length_fixed : Each Fixed table
  length_fixed = each fixed table has_rows

  -- the code's own length, but the reader is locked: 21h, save for 0Fh, 13h and 40h
  abbrev LockedOut : ℕ → ℕ → Type 0
  LockedOut k m = get_or s (p + 9) 0 ≡ k → n ≡ m → k ≢ 0x0f → k ≢ 0x13 → k ≢ 0x40 → locked r.plain ≡ true → Says (rested r) 0x21 s lent (call_of σ r s lent)

  bars : (k m : ℕ) → HasRow k m → LockedOut k m
  bars k m (y, (row, len)) e q a b d l =
      let is : get_or (content_at s p n) 0 0 ≡ k = code_at ∙ e in
      locked_next σ r s lent f u p n o right y (ap (row_of commands) is ∙ row) (len ∙ sym q ∙ sym (content_long s p n whole))
      (λ c. a (sym is ∙ c)) (λ c. b (sym is ∙ c)) (λ c. d (sym is ∙ c)) l

  pub locked_codes : Each LockedOut table
  locked_codes = each bars table has_rows
