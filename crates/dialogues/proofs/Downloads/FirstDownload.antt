-- Document 02, request [2]: "the first download at every new vault". At 128 data bytes it is served with nothing set; a host that sends 64 "must set code 1
-- itself or send 128", and otherwise gets 0Eh. Proved once over the size and its code; LongData has request [3]'s 256.
use mathlib.Core.Bool.{Bool, true, false, cond}
use mathlib.Core.Path.{◌≡◌, refl, sym, ap, ap₂, ◌∙◌, subst}
use mathlib.Core.Logic.{inl, inr, ◌≢◌}
use mathlib.Core.List.{List, [], ◌∷◌, map}
use Prim.Native.Nat.{ℕ, zero, suc, ◌+◌, ◌*◌, ◌/◌, ◌≤◌}
use native.Mathlib.Nat.{suc-mul}
use native.Mathlib.Omega.{arith}
use lib.Dec.{T, eqb, lit≤}
use lib.ListN.{length, take, drop, length-drop, replicate}
use lib.Seq.{length-take-le, take-append_seam}
use Rattle.protocol.specs.Numbers.{data_packet, last_packet, longest}
use Rattle.protocol.specs.Bytes.{four, same}
use Rattle.protocol.specs.Packet.{packet, accepts, limit, is_identifier}
use Rattle.protocol.specs.Reader.{Transfer, closed, opened, Plain, no_origin, Buffer, Guarded, Reader, fresh, size_of, keyed, locked, with_transfer, capacity}
use Rattle.protocol.specs.Commands.{down_char, set_sys_para, barred, command}
use Rattle.protocol.specs.Data.{acknowledge, packets}
use Rattle.protocol.specs.Step.{order, piece, hear_as, hear, ended, rested}
use Rattle.protocol.specs.Call.{Lent, fit_lent, reply_of, call_of, core, Ended}
use Rattle.protocol.specs.Records.{fresh_of}
use Rattle.protocol.specs.Dialogue.{Event, received, on, finally}
use Rattle.dialogues.specs.History.{Exchange, exchanges}
use Rattle.dialogues.proofs.Laws.History.{call_capacity}
use Rattle.protocol.proofs.Promises.Words.Told.{Replies, Leaves, Gives, Numbered, number_is, blank, WithBuffer}
use Rattle.protocol.proofs.Promises.Packets.Packets.{Data, accepts_means, data_accepted}
use Rattle.protocol.proofs.Promises.Refusals.LegalMeans.{core_holds}
use Rattle.protocol.proofs.Promises.Refusals.StaysLegal.{Legal, stays_legal}
use Rattle.protocol.proofs.Promises.Commands.Pieces.{GoesIn, none_ends, piece_fails, piece_ignored}
use Rattle.dialogues.proofs.Downloads.Download.{deliver, Silent, downloaded, template}
use Rattle.protocol.proofs.Promises.Packets.ReadBack.{heard_packet}
use Rattle.protocol.proofs.Promises.Commands.Settings.{sets_size}
use Rattle.protocol.proofs.Promises.Commands.Moves.{down_awaits}
use Rattle.protocol.proofs.Promises.Commands.Parameters.{parameters, asked_by}

-- document 01's A
abbrev pub A : List ℕ
A = 0xff ∷ 0xff ∷ 0xff ∷ 0xff ∷ []

-- a host's packets: DownChar for buffer b; SetSysPara, parameter 6, with a size code
abbrev pub down_packet : ℕ → List ℕ
down_packet b = packet A 0x01 (0x09 ∷ b ∷ [])

abbrev pub size_packet : ℕ → List ℕ
size_packet v = packet A 0x01 (0x0e ∷ 6 ∷ v ∷ [])

-- a buffer with a template and its mark, and no origin
abbrev pub full : List ℕ → Buffer
full s = record { bytes = s; filled = true; origin = no_origin }

-- fresh settings, but for the size code v
abbrev pub with_code : ℕ → Guarded → Reader
with_code v g =
    record {
      plain = record { password = 0 ∷ 0 ∷ 0 ∷ 0 ∷ []; address = A; level = 3; size = v; baud = 6; sensor = 0; verified = false; transfer = closed };
      guarded = g;
    }

counted : (k n : ℕ) (s : List ℕ) → length (packets A k n s) ≡ k
unfolding packets
counted zero n s = refl
counted (suc k) n s = ap suc (counted k n (drop n s))

-- so many bytes can be sent in a data packet
abbrev pub Sendable : ℕ → Type 0
Sendable n = (1 ≤ n) × (n ≤ 256)

pub data_taken : (i n : ℕ) → Data i → Sendable n → T (accepts i (n + 2))
data_taken i n d ok = (accepts_means i (n + 2)).1 (data_accepted i (n + 2) d (omega (arith, ok.0)) (omega (arith, ok.1)))

heard_data : (n : ℕ) → Sendable n → (a : List ℕ) → a ≡ A → (last : Bool) (c : List ℕ) → length c ≡ n → hear a (packet A (cond last last_packet data_packet) c) ≡ piece last true c
unfolding hear_as
heard_data n ok a home true c one = rw home (heard_packet A last_packet c refl (rw one (data_taken last_packet n (inr refl) ok)))
heard_data n ok a home false c one = rw home (heard_packet A data_packet c refl (rw one (data_taken data_packet n (inl refl) ok)))

-- buffer b written a second time
again : (b : ℕ) (c c' : Buffer) (m m' : Transfer) (r t x : Reader) → WithBuffer b c m r t → WithBuffer b c' m' t x → WithBuffer b c' m' r x
unfolding with_transfer
again b c c' m m' r t x one two =
    record {
      settings = two.settings ∙ ap (with_transfer m') one.settings;
      chosen = two.chosen;
      spare = two.spare ∙ one.spare;
      templates = two.templates ∙ one.templates;
      index = two.index ∙ one.index;
      notepad = two.notepad ∙ one.notepad;
      found = two.found ∙ one.found;
    }

-- a reader of m pages, and what is lent to it anew at each call
module _ (m : ℕ) (lent : ℕ → Lent) (f : (n : ℕ) → T (fit_lent m (lent n))) where
  fits : (r : Reader) → capacity r.guarded ≡ m → (k : ℕ) → T (fit_lent (capacity r.guarded) (lent k))
  fits r e k = rw e (f k)

  -- what packets sent one to a call are answered
  abbrev pub answers_to : Reader → List (List ℕ) → List (List ℕ)
  answers_to r sent = map (λ (x : Exchange). x.reply) (exchanges core r (deliver lent sent))

  -- and what the reader is in the end
  pub record Talks (r : Reader) (sent answers : List (List ℕ)) (Left : Reader → Type 0) : Type 0 where
    pub answered : answers_to r sent ≡ answers
    pub leaves : Left (finally core r (deliver lent sent))

  replied : (a s : List ℕ) (k : ℕ) (e : Ended) → Replies a s (lent k) e → reply_of e.told ≡ a
  unfolding reply_of
  replied a s k e o = rw (o.long, o.room) (take-append_seam a (drop (length a) (lent k).room))

  -- the first packet, which leaves the reader t, and then the others
  and_then : (r t : Reader) (p a : List ℕ) (ps answers : List (List ℕ)) (Left : Reader → Type 0) → Gives a t p (lent (length ps)) (call_of core r p (lent (length ps)))
      → Talks t ps answers Left → Talks r (p ∷ ps) (a ∷ answers) Left
  unfolding deliver exchanges finally on
  and_then r t p a ps answers Left o rest =
      let called : Ended = call_of core r p (lent (length ps)) in
      let on : Talks called.after ps answers Left = subst (λ (x : Reader). Talks x ps answers Left) (sym o.after) rest in
      record { answered = ap₂ (λ (x : List ℕ) (xs : List (List ℕ)). x ∷ xs) (replied a p (length ps) called o.told) on.answered; leaves = on.leaves }

  silently : (ps : List (List ℕ)) (t : Reader) → Silent (exchanges core t (deliver lent ps)) → answers_to t ps ≡ replicate (length ps) []
  unfolding deliver exchanges
  silently [] t q = refl
  silently (p ∷ ps) t (e, q) = ap₂ (λ (x : List ℕ) (xs : List (List ℕ)). x ∷ xs) e (silently ps (call_of core t p (lent (length ps))).after q)

  -- a whole download, from a reader of the address A that is not locked and has no transfer open: k packets of the size in force, n
  module _ (r : Reader) (many_pages : capacity r.guarded ≡ m) (l : Legal core core_holds r) (home : r.plain.address ≡ A) (unlocked : locked r.plain ≡ false) (still : r.plain.transfer ≡ closed)
      (b : ℕ) (which : Numbered b) where
    asks : hear r.plain.address (down_packet b) ≡ order (command (barred (down_char b)))
    unfolding accepts limit is_identifier longest
    asks = subst (λ (x : List ℕ). hear x (down_packet b) ≡ order (command (barred (down_char b)))) (sym home) (asked_by A (0x09 ∷ b ∷ []) (barred (down_char b)) refl tt (parameters.down_read b))

    opens : (k : ℕ) → Leaves (acknowledge A 0x00 []) (WithBuffer b blank (opened (eqb b 2) 0) r) (down_packet b) (lent k) (call_of core r (down_packet b) (lent k))
    opens k =
        let o = down_awaits core core_holds r l unlocked (down_packet b) (lent k) (fits r many_pages k) b asks which in
        let own : rested r ≡ r = none_ends r still in
        let to : acknowledge (rested r).plain.address 0x00 [] ≡ acknowledge A 0x00 [] = ap (λ (x : Reader). acknowledge x.plain.address 0x00 []) own ∙ ap (λ (x : List ℕ). acknowledge x 0x00 []) home in
        record {
          told = subst (λ (x : List ℕ). Replies x (down_packet b) (lent k) (call_of core r (down_packet b) (lent k))) to o.told;
          after = subst (λ (x : Reader). WithBuffer b blank (opened (eqb b 2) 0) x (call_of core r (down_packet b) (lent k)).after) own o.after;
        }

    opened_legal : (k : ℕ) → Legal core core_holds (call_of core r (down_packet b) (lent k)).after
    unfolding on
    opened_legal k = stays_legal core core_holds r l (received (down_packet b) (lent k))

    served : (s : List ℕ) → length s ≡ 512 → (k n : ℕ) → 512 / size_of r.plain.size ≡ k → size_of r.plain.size ≡ n
        → Talks r (down_packet b ∷ packets A k n s) (acknowledge A 0x00 [] ∷ replicate k []) (WithBuffer b (full s) closed r)
    served s long k n many each =
        let ps : List (List ℕ) = packets A k n s in
        let o = opens (length ps) in
        let t : Reader = (call_of core r (down_packet b) (lent (length ps))).after in
        let settings = o.after.settings in
        let d = downloaded core core_holds m lent f t (call_capacity core core_holds r (down_packet b) (lent (length ps)) ∙ many_pages) (opened_legal (length ps)) (eqb b 2) (ap (λ (x : Plain). x.transfer) settings) s long in
        let address : t.plain.address ≡ A = ap (λ (x : Plain). x.address) settings ∙ home in
        let size : t.plain.size ≡ r.plain.size = ap (λ (x : Plain). x.size) settings in
        let sent : template core core_holds m lent f t s ≡ deliver lent ps = rw (address, size, many, each) refl in
        and_then r t (down_packet b) (acknowledge A 0x00 []) ps (replicate k []) (WithBuffer b (full s) closed r) record { told = o.told; after = refl }
        record {
          answered =
              silently ps t (subst (λ (es : List Event). Silent (exchanges core t es)) sent d.silent) ∙ ap (λ (j : ℕ). replicate j []) (counted k n s);
          leaves =
              again b _ _ _ _ r t _ o.after
              (subst (λ (es : List Event). WithBuffer b (full s) closed t (finally core t es)) sent
              (subst (λ (j : ℕ). WithBuffer j (full s) closed t (finally core t (template core core_holds m lent f t s))) (number_is b which) d.ends));
        }

  -- data packets that no transfer waits for
  ignored : (n : ℕ) → Sendable n → (k : ℕ) (s : List ℕ) → length s ≡ k * n → (r : Reader) → capacity r.guarded ≡ m → Legal core core_holds r → r.plain.address ≡ A → r.plain.transfer ≡ closed
      → Talks r (packets A k n s) (replicate k []) (λ (x : Reader). x ≡ r)
  unfolding packets deliver exchanges finally
  ignored n ok zero s long r many l home still = record { answered = refl; leaves = refl }
  ignored n ok (suc k) s long r many l home still =
      let one : length (take n s) ≡ n = length-take-le n s (omega (arith, suc-mul k n)) in
      let ps : List (List ℕ) = packets A k n (drop n s) in
      let p : List ℕ = packet A (cond (eqb k 0) last_packet data_packet) (take n s) in
      and_then r r p [] ps (replicate k []) (λ (x : Reader). x ≡ r)
      (piece_ignored core r p (lent (length ps)) l.legal (fits r many (length ps)) (eqb k 0) true (take n s) (heard_data n ok r.plain.address home (eqb k 0) (take n s) one) still)
      (ignored n ok k (drop n s) (length-drop n s ∙ omega (arith, suc-mul k n)) r many l home still)

  module _ (t i n c d : List ℕ) (pages : length t / 512 ≡ m) (l : Legal core core_holds (fresh_of t i n c d)) (b : ℕ) (which : Numbered b) (s : List ℕ) (long : length s ≡ 512) where
    abbrev r : Reader
    r = fresh_of t i n c d

    -- four data packets of 128 bytes
    pub first_download : Talks r (down_packet b ∷ packets A 4 128 s) (acknowledge A 0x00 [] ∷ replicate 4 []) (WithBuffer b (full s) closed r)
    unfolding fresh four size_of locked keyed same capacity
    first_download = served r pages l refl refl refl b which s long 4 128 refl refl

    -- of another size, without asking: the first is answered 0Eh and ends the transfer, the others find none
    pub unasked : (z : ℕ) → Sendable z → z ≢ 128 → (k : ℕ) → suc k * z ≡ 512
        → Talks r (down_packet b ∷ packets A (suc k) z s) (acknowledge A 0x00 [] ∷ acknowledge A 0x0e [] ∷ replicate k []) (WithBuffer b blank closed r)
    unfolding packets fresh four size_of locked keyed same on capacity
    unasked z ok other k many =
        let last : Bool = eqb k 0 in
        let first : List ℕ = packet A (cond last last_packet data_packet) (take z s) in
        let ps : List (List ℕ) = packets A k z (drop z s) in
        let one : length (take z s) ≡ z = length-take-le z s (omega (arith, suc-mul k z)) in
        let o = opens r pages l refl refl refl b which (length (first ∷ ps)) in
        let x : Reader = (call_of core r (down_packet b) (lent (length (first ∷ ps)))).after in
        let same : capacity x.guarded ≡ m = call_capacity core core_holds r (down_packet b) (lent (length (first ∷ ps))) ∙ pages in
        let legal : Legal core core_holds x = opened_legal r pages l refl refl refl b which (length (first ∷ ps)) in
        let settings = o.after.settings in
        let address : x.plain.address ≡ A = ap (λ (p : Plain). p.address) settings in
        let size : size_of x.plain.size ≡ 128 = ap (λ (p : Plain). size_of p.size) settings in
        let misfit : GoesIn x.plain 0 last true (take z s) → ⊥ = λ g. other (sym one ∙ g.long ∙ size) in
        let q =
        piece_fails core x first (lent (length ps)) legal.legal (fits x same (length ps)) last true (take z s) (heard_data z ok x.plain.address address last (take z s) one)
        (eqb b 2) 0 (ap (λ (p : Plain). p.transfer) settings) misfit
        in
        let y : Reader = (call_of core x first (lent (length ps))).after in
        let stopped : WithBuffer b blank closed x y = subst (λ (j : ℕ). WithBuffer j blank closed x y) (number_is b which) q.after in
        let silent =
        ignored z ok k (drop z s) (length-drop z s ∙ omega (arith, suc-mul k z)) y (call_capacity core core_holds x first (lent (length ps)) ∙ same) (stays_legal core core_holds x legal (received first (lent (length ps))))
        (ap (λ (p : Plain). p.address) stopped.settings ∙ address) (ap (λ (p : Plain). p.transfer) stopped.settings)
        in
        and_then r x (down_packet b) (acknowledge A 0x00 []) (first ∷ ps) (acknowledge A 0x0e [] ∷ replicate k []) (WithBuffer b blank closed r) record { told = o.told; after = refl }
        (and_then x y first (acknowledge A 0x0e []) ps (replicate k []) (WithBuffer b blank closed r)
        record { told = subst (λ (a : List ℕ). Replies (acknowledge a 0x0e []) first (lent (length ps)) (call_of core x first (lent (length ps)))) address q.told; after = refl }
        record { answered = silent.answered; leaves = subst (WithBuffer b blank closed r) (sym silent.leaves) (again b _ _ _ _ r x y o.after stopped) })

    -- and with a size code set first: k packets of its z bytes
    pub asked : (v k z : ℕ) → v ≤ 3 → 512 / size_of v ≡ k → size_of v ≡ z
        → Talks r (size_packet v ∷ down_packet b ∷ packets A k z s) (acknowledge A 0x00 [] ∷ acknowledge A 0x00 [] ∷ replicate k []) (WithBuffer b (full s) closed (with_code v r.guarded))
    unfolding fresh four locked keyed same rested ended accepts limit is_identifier longest on capacity
    asked v k z few many each =
        let ps : List (List ℕ) = down_packet b ∷ packets A k z s in
        let given : Lent = lent (length ps) in
        let asks : hear A (size_packet v) ≡ order (command (barred (set_sys_para 6 v))) = asked_by A (0x0e ∷ 6 ∷ v ∷ []) (barred (set_sys_para 6 v)) refl tt (parameters.set_read 6 v) in
        let o = sets_size core r (size_packet v) given l.legal (fits r pages (length ps)) refl v asks few in
        let legal = subst (Legal core core_holds) o.after (stays_legal core core_holds r l (received (size_packet v) given)) in
        and_then r _ (size_packet v) (acknowledge A 0x00 []) ps _ _ o (served _ pages legal refl refl refl b which s long k z many each)

    -- eight packets of 64: without asking, and with code 1 set first
    pub unasked_64 : Talks r (down_packet b ∷ packets A 8 64 s) (acknowledge A 0x00 [] ∷ acknowledge A 0x0e [] ∷ replicate 7 []) (WithBuffer b blank closed r)
    unasked_64 = unasked 64 (lit≤ tt, lit≤ tt) (λ e. omega arith) 7 refl

    pub asked_64 : Talks r (size_packet 1 ∷ down_packet b ∷ packets A 8 64 s) (acknowledge A 0x00 [] ∷ acknowledge A 0x00 [] ∷ replicate 8 [])
        (WithBuffer b (full s) closed (with_code 1 r.guarded))
    unfolding size_of
    asked_64 = asked 1 8 64 (lit≤ tt) refl refl
