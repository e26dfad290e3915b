-- Document 02, request [3]: "Hosts that use it are ignored. Allow length 3 to 258 for identifiers 2 and 8; 1 and 7 keep 256. Size code 3 means 256." What that
-- is for a host: packets of lengths 257 and 258, and a template in data packets of 256 bytes.
use mathlib.Core.Bool.{Bool, true, false}
use mathlib.Core.Path.{◌≡◌, refl, sym, ap, ◌∙◌, subst}
use mathlib.Core.Logic.{inl, inr, ◌≢◌}
use mathlib.Core.List.{List, [], ◌∷◌, ◌++◌, append-nil}
use Prim.Native.Nat.{ℕ, zero, suc, ◌+◌, ◌≤◌, ◌<◌, ◌/◌}
use native.Mathlib.Omega.{arith}
use lib.Dec.{T, lit≤}
use lib.ListN.{length, get_or, take, drop, length-drop, length-append}
use lib.Seq.{take_all, length-take-le}
use Rattle.protocol.specs.Numbers.{longest}
use Rattle.protocol.specs.Bytes.{four, same, joined}
use Rattle.protocol.specs.Packet.{packet, accepts, limit, is_identifier, right_at}
use Rattle.protocol.specs.Reader.{closed, opened, Plain, Guarded, Reader, size_of, keyed, locked, capacity}
use Rattle.protocol.specs.Commands.{up_char, barred, command}
use Rattle.protocol.specs.Data.{acknowledge, packets, data_packets}
use Rattle.protocol.specs.Step.{order, piece, hear, rested}
use Rattle.protocol.specs.Call.{Shape, Lent, fit_lent, legal, core, call_of}
use Rattle.protocol.specs.Records.{fresh_of}
use Rattle.protocol.proofs.Laws.Finder.{length_packet}
use Rattle.protocol.proofs.Promises.Words.Told.{Replies, Leaves, Gives, Numbered, blank, WithBuffer}
use Rattle.protocol.proofs.Promises.Packets.Packets.{Data, Other, Accepted, data_accepted}
use Rattle.protocol.proofs.Promises.Packets.Finding.{silently, First, length_field, WholeAt, unfit, unfinished, whole, uses, silent_without, content_of, content_long, more, last, heard}
use Rattle.protocol.proofs.Promises.Refusals.LegalMeans.{core_holds, legal_means}
use Rattle.protocol.proofs.Promises.Refusals.StaysLegal.{Legal}
use Rattle.protocol.proofs.Promises.Commands.Pieces.{GoesIn, Stopped, Taken, none_ends, piece_goes_in, piece_fails, piece_ignored}
use Rattle.protocol.proofs.Promises.Commands.Parameters.{parameters, asked_by}
use Rattle.protocol.proofs.Promises.Commands.Upload.{upload}
use Rattle.dialogues.proofs.Downloads.FirstDownload.{A, down_packet, size_packet, full, with_code, Talks, unasked, asked}
use Rattle.dialogues.proofs.Lines.InPieces.{HoweverCut, unasked_cut, asked_cut}

-- ---- lengths above 256, whatever the size code

-- the run s has a head at p, the first place with EF followed by 01
module _ (σ : Shape) (r : Reader) (s : List ℕ) (lent : Lent) (l : T (legal σ r)) (u : T (fit_lent (capacity r.guarded) lent)) (p : ℕ) (first : First s p) (head : p + 9 ≤ length s) where
  -- a command or an acknowledge of length 257 or more starts no packet: p + 2 used, and nothing changes
  pub other_passed : Other (get_or s (p + 6) 0) → 256 < length_field s p → call_of σ r s lent ≡ silently r (p + 2) lent
  other_passed i long = silent_without σ r s lent l u (unfit first head (λ a. let k = a.kept i in omega arith)) (λ q m e. let z : ◌≡◌ {A = ℕ} 0 1 = cc in omega arith)

  module _ (i : Data (get_or s (p + 6) 0)) (least : 3 ≤ length_field s p) (most : length_field s p ≤ 258) where
    fits : Accepted (get_or s (p + 6) 0) (length_field s p)
    fits = data_accepted (get_or s (p + 6) 0) (length_field s p) i least most

    -- a data packet of length up to 258 is waited for, and then used whole
    pub data_waits : length s < p + 9 + length_field s p → call_of σ r s lent ≡ silently r p lent
    data_waits few = silent_without σ r s lent l u (unfinished first head fits few) (λ q m e. let z : ◌≡◌ {A = ℕ} 0 1 = cc in omega arith)

    pub data_used : p + 9 + length_field s p ≤ length s → (call_of σ r s lent).told.used ≡ p + 9 + length_field s p
    data_used all = uses σ r s lent l u (whole record { first = first; field = refl; accepted = fits; inside = all })

-- ---- data packets for us of lengths 257 and 258, whatever their sum

module _ (r : Reader) (s : List ℕ) (lent : Lent) (l : T (legal core r)) (u : T (fit_lent (capacity r.guarded) lent)) (p n : ℕ) (w : WholeAt s p n)
    (ours : take 4 (drop (p + 2) s) ≡ r.plain.address) (i : Data (get_or s (p + 6) 0)) where
  ends : Data (get_or s (p + 6) 0) → Bool
  ends (inl e) = false
  ends (inr e) = true

  heard_piece : (d : Data (get_or s (p + 6) 0)) → hear r.plain.address s ≡ piece (ends d) (right_at s p n) (content_of s p n)
  unfolding ends
  heard_piece (inl e) = heard (more w ours e)
  heard_piece (inr e) = heard (last w ours e)

  -- without a transfer silence
  pub data_ignored : r.plain.transfer ≡ closed → Gives [] r s lent (call_of core r s lent)
  data_ignored e = piece_ignored core r s lent l u (ends i) (right_at s p n) (content_of s p n) (heard_piece i) e

  module _ (b : Bool) (got : ℕ) (e : r.plain.transfer ≡ opened b got) where
    other_size : n ≢ size_of r.plain.size + 2 → Leaves (acknowledge r.plain.address 0x0e []) (Stopped b r) s lent (call_of core r s lent)
    other_size d =
        let misfit : GoesIn r.plain got (ends i) (right_at s p n) (content_of s p n) → ⊥ = λ g. d (sym (content_long s p n w) ∙ ap (λ (k : ℕ). k + 2) g.long) in
        piece_fails core r s lent l u (ends i) (right_at s p n) (content_of s p n) (heard_piece i) b got e misfit

    -- no size is that long, but that of code 3 at length 258
    not_in_force : 256 < n → (r.plain.size ≡ 3 → n ≢ 258) → n ≢ size_of r.plain.size + 2
    unfolding size_of
    not_in_force long d = go r.plain.size (legal_means r l).settings.size refl
      where
        go : (k : ℕ) → k ≤ 3 → r.plain.size ≡ k → n ≢ size_of k + 2
        go zero h z q = omega arith
        go (suc zero) h z q = omega arith
        go (suc (suc zero)) h z q = omega arith
        go (suc (suc (suc zero))) h z q = d z q
        go (suc (suc (suc (suc k)))) h z q = omega arith

    -- in one 0Eh, and it ends: of length 257 at every size code, and of 258 at every code but 3
    pub fails_257 : n ≡ 257 → Leaves (acknowledge r.plain.address 0x0e []) (Stopped b r) s lent (call_of core r s lent)
    fails_257 long = other_size (not_in_force (omega arith) (λ z q. omega arith))

    pub fails_258 : n ≡ 258 → r.plain.size ≢ 3 → Leaves (acknowledge r.plain.address 0x0e []) (Stopped b r) s lent (call_of core r s lent)
    fails_258 long d = other_size (not_in_force (omega arith) (λ z q. d z))

-- ---- and at code 3 one of length 258 goes in, with its sum right: first with identifier 2, and then with 8

module _ (r : Reader) (s : List ℕ) (lent : Lent) (l : T (legal core r)) (u : T (fit_lent (capacity r.guarded) lent)) (code : r.plain.size ≡ 3) (p : ℕ) (w : WholeAt s p 258)
    (ours : take 4 (drop (p + 2) s) ≡ r.plain.address) (right : right_at s p 258 ≡ true) (b : Bool) where
  size : size_of r.plain.size ≡ 256
  unfolding size_of
  size = rw code refl

  long : length (content_of s p 258) ≡ size_of r.plain.size
  long = omega (arith, content_long s p 258 w, size)

  pub first_goes_in : get_or s (p + 6) 0 ≡ 2 → r.plain.transfer ≡ opened b 0 → Leaves [] (Taken b 0 false (content_of s p 258) r) s lent (call_of core r s lent)
  first_goes_in i e =
      piece_goes_in core r s lent l u false (right_at s p 258) (content_of s p 258) (heard (more w ours i)) b 0 e record { sum = right; long = long; total = omega (arith, size) }

  pub second_goes_in : get_or s (p + 6) 0 ≡ 8 → r.plain.transfer ≡ opened b 256 → Leaves [] (Taken b 256 true (content_of s p 258) r) s lent (call_of core r s lent)
  second_goes_in i e =
      piece_goes_in core r s lent l u true (right_at s p 258) (content_of s p 258) (heard (last w ours i)) b 256 e record { sum = right; long = long; total = omega (arith, size) }

-- ---- "Size code 3 means 256": a template in two data packets of 256 bytes

module _ (m : ℕ) (lent : ℕ → Lent) (f : (n : ℕ) → T (fit_lent m (lent n))) (t i n c d : List ℕ) (pages : length t / 512 ≡ m) (l : Legal core core_holds (fresh_of t i n c d)) (b : ℕ) (which : Numbered b)
    (s : List ℕ) (long : length s ≡ 512) where
  abbrev r : Reader
  r = fresh_of t i n c d

  -- a new vault, and a host that sets code 3 first: served
  pub asked_256 : Talks m lent f r (size_packet 3 ∷ down_packet b ∷ packets A 2 256 s) (acknowledge A 0x00 [] ∷ acknowledge A 0x00 [] ∷ [] ∷ [] ∷ [])
      (WithBuffer b (full s) closed (with_code 3 r.guarded))
  unfolding size_of
  asked_256 = asked m lent f t i n c d pages l b which s long 3 2 256 (lit≤ tt) refl refl

  -- and one that does not: no longer ignored, but told 0Eh
  pub unasked_256 : Talks m lent f r (down_packet b ∷ packets A 2 256 s) (acknowledge A 0x00 [] ∷ acknowledge A 0x0e [] ∷ [] ∷ []) (WithBuffer b blank closed r)
  unasked_256 = unasked m lent f t i n c d pages l b which s long 256 (lit≤ tt, lit≤ tt) (λ e. omega arith) 1 refl

  -- both behind a receiver, however they are cut
  pub asked_256_cut : HoweverCut r (size_packet 3 ∷ down_packet b ∷ packets A 2 256 s) (acknowledge A 0x00 [] ∷ acknowledge A 0x00 [] ∷ [])
      (WithBuffer b (full s) closed (with_code 3 r.guarded))
  unfolding size_of
  asked_256_cut = asked_cut t i n c d l b which s long 3 2 256 (lit≤ tt) refl refl

  pub unasked_256_cut : HoweverCut r (down_packet b ∷ packets A 2 256 s) (acknowledge A 0x00 [] ∷ acknowledge A 0x0e [] ∷ []) (WithBuffer b blank closed r)
  unasked_256_cut = unasked_cut t i n c d l b which s long 256 (lit≤ tt, lit≤ tt) (λ e. omega arith) 1 refl

-- and out again: UpChar to the reader that the download left is answered 00h and the template in two data packets of 256 bytes, 546 bytes in all
module _ (g : Guarded) (b : ℕ) (which : Numbered b) (s : List ℕ) (long : length s ≡ 512) (x : Reader) (l : Legal core core_holds x)
    (left : WithBuffer b (full s) closed (with_code 3 g) x) (lent : Lent) (f : T (fit_lent (capacity x.guarded) lent)) where
  abbrev sent : List ℕ
  sent = acknowledge A 0x00 [] ++ (packet A 0x02 (take 256 s) ++ packet A 0x08 (drop 256 s))

  abbrev up_packet : List ℕ
  up_packet = packet A 0x01 (0x08 ∷ b ∷ [])

  own : rested x ≡ x
  own = none_ends x (ap (λ (p : Plain). p.transfer) left.settings)

  asks : hear x.plain.address up_packet ≡ order (command (barred (up_char b)))
  unfolding accepts limit is_identifier longest
  asks = rw left.settings (asked_by A (0x08 ∷ b ∷ []) (barred (up_char b)) refl tt (parameters.up_read b))

  unlocked : locked x.plain ≡ false
  unfolding locked keyed four same
  unlocked = rw left.settings refl

  two_packets : data_packets A 256 s ≡ packet A 0x02 (take 256 s) ++ packet A 0x08 (drop 256 s)
  unfolding data_packets packets joined
  two_packets = rw (take_all 256 (drop 256 s) (omega (arith, length-drop 256 s)), append-nil (packet A 0x08 (drop 256 s)))

  pub uploads_256 : Gives sent x up_packet lent (call_of core x up_packet lent)
  unfolding size_of
  uploads_256 =
      let o = upload core core_holds x l unlocked b which up_packet lent f asks (rw (own, left.chosen) refl) in
      record {
        told = subst (λ (y : List ℕ). Replies y up_packet lent (call_of core x up_packet lent)) (rw (own, left.settings, left.chosen, two_packets)) o.told;
        after = o.after ∙ own;
      }

  pub uploads_546 : length sent ≡ 546
  unfolding acknowledge
  uploads_546 =
      let h : length (take 256 s) ≡ 256 = length-take-le 256 s (omega arith) in
      let k : length (drop 256 s) ≡ 256 = length-drop 256 s ∙ omega arith in
      simp length-append (omega (arith, length_packet A 0x07 (0x00 ∷ []) refl, length_packet A 0x02 (take 256 s) refl, length_packet A 0x08 (drop 256 s) refl))
