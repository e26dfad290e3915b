-- Packets sent one to a call, and the same packets behind a receiver, as the cable gives them: answered alike. So the first download of request [2] is served
-- however it is cut, and so are request [3]'s packets (LongData).
use mathlib.Core.Bool.{Bool, true, false, cond}
use mathlib.Core.Path.{◌≡◌, refl, sym, ap, ap₂, ◌∙◌, subst}
use mathlib.Core.Logic.{inl, inr, ◌≢◌}
use mathlib.Core.List.{List, [], ◌∷◌, ◌++◌}
use Prim.Native.Nat.{ℕ, zero, suc, ◌+◌, ◌*◌, ◌/◌, ◌≤◌}
use native.Mathlib.Nat.{suc-mul}
use native.Mathlib.Omega.{arith}
use lib.Dec.{T, eqb, lit≤}
use lib.ListN.{length, take, drop, length-drop, replicate, drop_of_length-le}
use lib.Seq.{length-take-le}
use Rattle.protocol.specs.declared.Receiver.{Receiver}
use Rattle.protocol.specs.Numbers.{data_packet, last_packet, highest_size, longest, holds}
use Rattle.protocol.specs.Bytes.{same, lay, joined}
use Rattle.protocol.specs.Packet.{packet, address_at, length_of, accepts, limit, is_identifier}
use Rattle.protocol.specs.Finder.{find_of, used_of}
use Rattle.protocol.specs.Reader.{closed, Reader, size_of, capacity}
use Rattle.protocol.specs.Search.{Chip}
use Rattle.protocol.specs.Commands.{commands, row_of, order_as, order_of}
use Rattle.protocol.specs.Data.{acknowledge, packets}
use Rattle.protocol.specs.Step.{nothing, hear_as, hear_at, hear, IsSearch, step_of}
use Rattle.protocol.specs.Call.{Lent, fit_room, fit_lent, reply_of, call_of, core, fit_chip}
use Rattle.protocol.specs.Records.{fresh_of}
use Rattle.protocol.specs.Dialogue.{received, on, finally}
use Rattle.dialogues.specs.History.{exchanges}
use Rattle.protocol.specs.Receiver.{bytes_in, holding, line}
use Rattle.dialogues.specs.Caller.{Try, Ran, replied, offers, served, SearchesSee, Rests, resting, at_rest, drain, drained}
use Rattle.protocol.proofs.Laws.Logic.{and_l, and_i}
use Rattle.protocol.proofs.Laws.Finder.{length_packet, accepts_most}
use Rattle.protocol.proofs.Laws.Sizes.{Size, sizes}
use Rattle.dialogues.proofs.Laws.Growth.{used_nil}
use Rattle.dialogues.proofs.Laws.Drain.{drained_more}
use Rattle.dialogues.proofs.Laws.History.{call_capacity}
use Rattle.protocol.proofs.Laws.Holding.{accepted}
use Rattle.protocol.proofs.Promises.Words.Told.{Numbered, blank, WithBuffer}
use Rattle.protocol.proofs.Promises.Refusals.LegalMeans.{core_holds}
use Rattle.protocol.proofs.Promises.Refusals.StaysLegal.{Legal, stays_legal}
use Rattle.protocol.proofs.Promises.Packets.ReadBack.{ReadsAs, packet_reads}
use Rattle.dialogues.proofs.Downloads.Download.{deliver}
use Rattle.dialogues.proofs.Lines.Cuts.{rests_drained, Searchless, none_left, searchless_more, none_sees, drains_by_call}
use Rattle.dialogues.proofs.Lines.Caller.{spoken, replied_is}
use Rattle.dialogues.proofs.Lines.ComesToRest.{Ready, offers_ready}
use Rattle.dialogues.proofs.Downloads.FirstDownload.{A, down_packet, size_packet, full, with_code, Sendable, data_taken, answers_to, Talks, first_download, unasked, asked}

-- ---- one to a call, or all behind one another

-- each run is used whole
abbrev pub UsedWhole : List (List ℕ) → Type 0
UsedWhole [] = Unit {0}
UsedWhole (p ∷ ps) = (used_of (find_of p) ≡ length p) × UsedWhole ps

-- a run that is used whole, and is no Search, whatever its address
abbrev pub OtherPacket : List ℕ → Type 0
OtherPacket p = (used_of (find_of p) ≡ length p) × ((address : List ℕ) → IsSearch (hear address p) → ⊥)

abbrev pub NoSearches : List (List ℕ) → Type 0
NoSearches [] = Unit {0}
NoSearches (p ∷ ps) = OtherPacket p × NoSearches ps

used_whole : (sent : List (List ℕ)) → NoSearches sent → UsedWhole sent
used_whole [] d = tt
used_whole (p ∷ ps) (d, ds) = (d.0, used_whole ps ds)

-- so there is none in all of them behind one another
pub searchless_all : (sent : List (List ℕ)) → NoSearches sent → Searchless (joined sent)
unfolding joined
searchless_all [] d = none_left used_nil
searchless_all (p ∷ ps) ((w, d), ds) = (searchless_more p (joined ps)).1 (d, rw (drop_of_length-le p {i = used_of (find_of p)} (omega arith)) (searchless_all ps ds))

-- the answers, without silence
abbrev pub spoken_all : List (List ℕ) → List (List ℕ)
spoken_all [] = []
spoken_all (a ∷ answers) = spoken a ++ spoken_all answers

-- a receiver that holds nothing
abbrev pub vacant : Receiver
vacant = record { held = replicate 267 0; spare = 0; count = 0 }

-- a caller came to this: these answers in turn, such a reader, and nothing held
pub record Comes (d : Ran) (answers : List (List ℕ)) (Left : Reader → Type 0) : Type 0 where
  pub replies : d.replies ≡ answers
  pub reader : Left d.after.reader
  pub held : d.after.receiver ≡ vacant

-- the runs behind one another, offered to an empty receiver: however they are cut, whatever each call lends, as long as no call is refused, and once the caller is
-- at rest
abbrev pub HoweverCut : Reader → List (List ℕ) → List (List ℕ) → (Reader → Type 0) → Type 0
HoweverCut r sent answers Left = (ts : List Try) (last : Lent) → T (served core ts (line r vacant) (joined sent))
    → Rests core (offers core ts (line r vacant) (joined sent)) last → Comes (resting core (offers core ts (line r vacant) (joined sent)) last) answers Left

-- a reply room for each call
abbrev room : List ℕ
room = replicate 700 0

module _ (χ : Chip) (m : ℕ) (fit : T (fit_chip m χ)) where
  abbrev pub lent : ℕ → Lent
  lent k = record { chip = χ; room = room }

  pub fits : (k : ℕ) → T (fit_lent m (lent k))
  unfolding fit_room
  fits k = and_i (fit_chip m χ) true fit tt

  -- document 01's call again and again on all of them
  drained_all : (sent : List (List ℕ)) (r : Reader) → capacity r.guarded ≡ m → Legal core core_holds r → UsedWhole sent
      → drained χ r (joined sent)
      ≡ record {
        replies = spoken_all (answers_to m lent fits r sent);
        after = line (finally core r (deliver lent sent)) vacant;
        left = [];
      }
  unfolding drained drain at_rest holding lay holds longest joined exchanges deliver finally on
  drained_all [] r e l w = refl
  drained_all (p ∷ ps) r e l (w, ws) =
      let given : Lent = lent (length ps) in
      let by = drains_by_call core r p given l.legal (rw e (fits (length ps))) in
      let gone : drop (used_of (find_of p)) p ++ joined ps ≡ joined ps = ap (λ (s : List ℕ). s ++ joined ps) (drop_of_length-le p {i = used_of (find_of p)} (omega arith)) in
      let rest = drained_all ps (call_of core r p given).after (call_capacity core core_holds r p given ∙ e) (stays_legal core core_holds r l (received p given)) ws in
      drained_more χ r p (joined ps)
      ∙ ap (λ (s : List ℕ). replied (step_of χ r p).reply (drained χ (step_of χ r p).after s)) gone
      ∙ ap₂ (λ (a : List ℕ) (x : Reader). replied a (drained χ x (joined ps))) (sym by.1.0) (sym by.1.1)
      ∙ ap (replied (reply_of (call_of core r p given).told)) rest
      ∙ replied_is (reply_of (call_of core r p given).told) _

-- what holds of the runs one to a call, with these scores and thresholds, holds of them however they are cut, where each Search sees these
module _ (r : Reader) (l : Legal core core_holds r) (sent answers : List (List ℕ)) (Left : Reader → Type 0) where
  abbrev TalksBy : (χ : Chip) → T (fit_chip (capacity r.guarded) χ) → Type 0
  TalksBy χ fit = Talks (capacity r.guarded) (lent χ (capacity r.guarded) fit) (fits χ (capacity r.guarded) fit) r sent answers Left

  pub in_pieces : UsedWhole sent → (χ : Chip) (fit : T (fit_chip (capacity r.guarded) χ)) → TalksBy χ fit → (ts : List Try) (last : Lent) → T (served core ts (line r vacant) (joined sent))
      → SearchesSee core χ ts (line r vacant) (joined sent) → Rests core (offers core ts (line r vacant) (joined sent)) last
      → Comes (resting core (offers core ts (line r vacant) (joined sent)) last) (spoken_all answers) Left
  unfolding bytes_in
  in_pieces w χ fit talks ts last v see rests =
      let all = rests_drained core χ ts (line r vacant) (joined sent) last v see rests ∙ drained_all χ (capacity r.guarded) fit sent r refl l w in
      record {
        replies = ap (λ (d : Ran). d.replies) all ∙ ap spoken_all talks.answered;
        reader = subst Left (sym (ap (λ (d : Ran). d.after.reader) all)) talks.leaves;
        held = ap (λ (d : Ran). d.after.receiver) all;
      }

  -- and where none is a Search, whatever each call lends
  pub however_cut : NoSearches sent → ((χ : Chip) (fit : T (fit_chip (capacity r.guarded) χ)) → TalksBy χ fit) → HoweverCut r sent (spoken_all answers) Left
  unfolding bytes_in capacity holds longest
  however_cut none talks ts last v rests =
      let c : ℕ = capacity r.guarded in
      let d : Ran = offers core ts (line r vacant) (joined sent) in
      let ready : Ready core core_holds c d.after = offers_ready core core_holds c ts (line r vacant) (joined sent) record { pages = refl; legal = l; cells = refl; few = omega arith } in
      let roomy : T (fit_lent (capacity d.after.reader.guarded) last) = (accepted core d.after [] last rests.accepted).roomy in
      let fit : T (fit_chip c last.chip) = and_l (fit_chip c last.chip) (fit_room last.room) (subst (λ (n : ℕ). T (fit_lent n last)) ready.pages roomy) in
      in_pieces (used_whole sent none) last.chip fit (talks last.chip fit) ts last v (none_sees core last.chip ts (line r vacant) (joined sent) (searchless_all sent none) v) rests

-- ---- a host's packets are used whole, and are no Search

packet_whole : (i : ℕ) (c : List ℕ) → T (accepts i (length_of c)) → used_of (find_of (packet A i c)) ≡ length (packet A i c)
unfolding used_of
packet_whole i c ok = ap used_of (packet_reads A i c refl ok).found ∙ omega (arith, length_packet A i c refl)

-- what it says to the reader of any address is nothing, or what its content is
packet_other : (i : ℕ) (c : List ℕ) → T (accepts i (length_of c)) → (IsSearch (hear_as i true c) → ⊥) → (a : List ℕ) → IsSearch (hear a (packet A i c)) → ⊥
unfolding hear hear_at
packet_other i c ok d a =
    let b : ReadsAs (packet A i c) A i c = packet_reads A i c refl ok in
    rw (b.found, b.right, b.identifier, b.content) (go (same (address_at (packet A i c) 0) a))
  where
    go : (x : Bool) → IsSearch (cond x (hear_as i true c) nothing) → ⊥
    go true j = d j
    go false j = elim j [ ]

pub packet_passed : (i : ℕ) (c : List ℕ) → T (accepts i (length_of c)) → (IsSearch (hear_as i true c) → ⊥) → OtherPacket (packet A i c)
packet_passed i c ok d = (packet_whole i c ok, packet_other i c ok d)

packets_passed : (k n : ℕ) (s : List ℕ) → Sendable n → length s ≡ k * n → NoSearches (packets A k n s)
unfolding packets hear_as
packets_passed zero n s ok long = tt
packets_passed (suc k) n s ok long =
    (go (eqb k 0) (length-take-le n s (omega (arith, suc-mul k n))), packets_passed k n (drop n s) ok (length-drop n s ∙ omega (arith, suc-mul k n)))
  where
    go : (b : Bool) → length (take n s) ≡ n → OtherPacket (packet A (cond b last_packet data_packet) (take n s))
    go true one = packet_passed last_packet (take n s) (rw one (data_taken last_packet n (inr refl) ok)) (λ j. elim j [ ])
    go false one = packet_passed data_packet (take n s) (rw one (data_taken data_packet n (inl refl) ok)) (λ j. elim j [ ])

-- a page is k packets of the z bytes of a size code
size_sendable : (z : ℕ) → Size z → Sendable z
unfolding longest
size_sendable z k = (k.some, omega (arith, accepts_most data_packet (z + 2) k.carries))

size_whole : (z k : ℕ) → Size z → 512 / z ≡ k → k * z ≡ 512
size_whole z k a many = ap (λ (j : ℕ). j * z) (sym many ∙ a.count) ∙ a.whole

-- ---- the first download, however it is cut

silent_all : (k : ℕ) → spoken_all (replicate k []) ≡ []
silent_all zero = refl
silent_all (suc k) = silent_all k

module _ (t i n c d : List ℕ) (l : Legal core core_holds (fresh_of t i n c d)) (b : ℕ) (which : Numbered b) (s : List ℕ) (long : length s ≡ 512) where
  abbrev r : Reader
  r = fresh_of t i n c d

  -- DownChar and data packets; and a size code before them
  down_passed : (k z : ℕ) → Sendable z → k * z ≡ 512 → NoSearches (down_packet b ∷ packets A k z s)
  unfolding accepts limit is_identifier longest hear_as order_of order_as row_of commands
  down_passed k z ok many = (packet_passed 0x01 (0x09 ∷ b ∷ []) tt (λ j. elim j [ ]), packets_passed k z s ok (long ∙ sym many))

  size_passed : (v : ℕ) → OtherPacket (size_packet v)
  unfolding accepts limit is_identifier longest hear_as order_of order_as row_of commands
  size_passed v = packet_passed 0x01 (0x0e ∷ 6 ∷ v ∷ []) tt (λ j. elim j [ ])

  -- four data packets of 128 bytes
  pub first_download_cut : HoweverCut r (down_packet b ∷ packets A 4 128 s) (acknowledge A 0x00 [] ∷ []) (WithBuffer b (full s) closed r)
  unfolding acknowledge packet capacity
  first_download_cut =
      however_cut r l _ _ _ (down_passed 4 128 (lit≤ tt, lit≤ tt) refl)
      (λ χ fit. first_download (capacity r.guarded) (lent χ (capacity r.guarded) fit) (fits χ (capacity r.guarded) fit) t i n c d refl l b which s long)

  -- of another size, without asking
  pub unasked_cut : (z : ℕ) → Sendable z → z ≢ 128 → (k : ℕ) → suc k * z ≡ 512
      → HoweverCut r (down_packet b ∷ packets A (suc k) z s) (acknowledge A 0x00 [] ∷ acknowledge A 0x0e [] ∷ []) (WithBuffer b blank closed r)
  unfolding acknowledge packet capacity
  unasked_cut z ok other k many =
      subst (λ (rest : List (List ℕ)). HoweverCut r (down_packet b ∷ packets A (suc k) z s) (acknowledge A 0x00 [] ∷ acknowledge A 0x0e [] ∷ rest) (WithBuffer b blank closed r)) (silent_all k)
      (however_cut r l _ _ _ (down_passed (suc k) z ok many)
      (λ χ fit. unasked (capacity r.guarded) (lent χ (capacity r.guarded) fit) (fits χ (capacity r.guarded) fit) t i n c d refl l b which s long z ok other k many))

  -- and with a size code set first
  pub asked_cut : (v k z : ℕ) → v ≤ 3 → 512 / size_of v ≡ k → size_of v ≡ z
      → HoweverCut r (size_packet v ∷ down_packet b ∷ packets A k z s) (acknowledge A 0x00 [] ∷ acknowledge A 0x00 [] ∷ []) (WithBuffer b (full s) closed (with_code v r.guarded))
  unfolding acknowledge packet capacity highest_size
  asked_cut v k z few number each =
      let size : Size z = subst Size each (sizes v few) in
      subst (λ (rest : List (List ℕ)). HoweverCut r (size_packet v ∷ down_packet b ∷ packets A k z s) (acknowledge A 0x00 [] ∷ acknowledge A 0x00 [] ∷ rest) (WithBuffer b (full s) closed (with_code v r.guarded)))
      (silent_all k)
      (however_cut r l _ _ _ (size_passed v, down_passed k z (size_sendable z size) (size_whole z k size (rw each at number)))
      (λ χ fit. asked (capacity r.guarded) (lent χ (capacity r.guarded) fit) (fits χ (capacity r.guarded) fit) t i n c d refl l b which s long v k z few number each))

  -- eight packets of 64: without asking, and with code 1 set first
  pub unasked_64_cut : HoweverCut r (down_packet b ∷ packets A 8 64 s) (acknowledge A 0x00 [] ∷ acknowledge A 0x0e [] ∷ []) (WithBuffer b blank closed r)
  unasked_64_cut = unasked_cut 64 (lit≤ tt, lit≤ tt) (λ e. omega arith) 7 refl

  pub asked_64_cut : HoweverCut r (size_packet 1 ∷ down_packet b ∷ packets A 8 64 s) (acknowledge A 0x00 [] ∷ acknowledge A 0x00 [] ∷ [])
      (WithBuffer b (full s) closed (with_code 1 r.guarded))
  unfolding size_of
  asked_64_cut = asked_cut 1 8 64 (lit≤ tt) refl refl
