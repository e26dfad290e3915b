-- Demand 1: "Unfit memory, settings or packet parts get refusal 1, 2, 3 or 4 as document 01 says; no reply is written and no byte changes."
-- Document 01's "Numbers a caller gets back", each as a table of lines: the first that does not hold gives its number, and where all hold the
-- call is carried out.
use mathlib.Core.Path.{◌≡◌, refl}
use mathlib.Core.Logic.{◌↔◌}
use mathlib.Core.List.{List, [], ◌∷◌}
use Prim.Native.Nat.{ℕ, zero, suc, ◌+◌, ◌*◌, ◌≤◌}
use native.Mathlib.Omega.{arith}
use lib.Dec.{T, eqb, leb, leb→le, le→leb, eqb→eq}
use lib.ListN.{length, drop}
use Rattle.protocol.specs.Packet.{length_of, packet, accepts, Made, build_refusal, build_as, build_of}
use Rattle.protocol.specs.Reader.{Reader, capacity}
use Rattle.protocol.specs.Call.{core, Lent, fit_lent, fit_chip, fit_lengths, fit_buffers, fit_room, sound, Ended, refusal_of, refused, carried, call_as, call_of, switch_refusal, switch_as, switch_of}
use Rattle.protocol.proofs.Laws.Logic.{and_l, and_r, and_i, eq→eqb}
use Rattle.protocol.proofs.Laws.Lines.{Line, unless, Follows, follows}
use Rattle.protocol.proofs.Laws.Lists.{drop_lay}
use Rattle.protocol.proofs.Laws.Finder.{length_packet}
use Rattle.protocol.proofs.Laws.Answers.{call_kinds}
use Rattle.protocol.proofs.Promises.Packets.Packets.{Identifier, Other, accepts_means}
use Rattle.protocol.proofs.Promises.Refusals.LegalMeans.{Lengths, Settled, lengths_mean, settings_mean, Means, legal_means}

-- ---- a call

-- the refusal or 0; 0 bytes used, reply length 0, and the reply room as it was lent
pub record Unused (lent : List ℕ) (e : Ended) (n : ℕ) : Type 0 where
  pub refusal : e.told.refusal ≡ n
  pub used : e.told.used ≡ 0
  pub length : e.told.length ≡ 0
  pub room : e.told.room ≡ lent

-- 0 is no refusal; a refusal leaves settings and memory unchanged
abbrev pub Ends : Reader → List ℕ → Ended → ℕ → Type 0
Ends r lent e zero = e.told.refusal ≡ 0
Ends r lent e (suc n) = Unused lent e (suc n) × (e.after ≡ r)

-- request [8]: "1 for scores not C long or thresholds not five"
pub record ChipLengths (r : Reader) (lent : Lent) : Type 0 where
  pub scores : (c : ℕ) → length r.guarded.templates ≡ 512 * c → length lent.chip.scores ≡ c
  pub thresholds : length lent.chip.thresholds ≡ 5

-- "1: a lent length, the reply room's apart"; "2: reply room below 700"; "3: a setting or transfer is not legal, or an index bit at or above C is set"
abbrev pub call_lines : Reader → Lent → List Line
call_lines r lent = unless (Lengths r.guarded) 1 ∷ unless (ChipLengths r lent) 1 ∷ unless (700 ≤ length lent.room) 2 ∷ unless (Settled r) 3 ∷ []

pub chip_mean : (r : Reader) (lent : Lent) → Lengths r.guarded → T (fit_chip (capacity r.guarded) lent.chip) ↔ ChipLengths r lent
unfolding fit_chip capacity
chip_mean r lent m = (
  λ t.
      (let e = eqb→eq (length lent.chip.scores) (capacity r.guarded) (search (and_l)) in
      record { scores = λ c l. omega arith; thresholds = eqb→eq (length lent.chip.thresholds) 5 (search (and_r)) }),
  λ k.
      (let e : length lent.chip.scores ≡ capacity r.guarded = k.scores (capacity r.guarded) (omega (arith, m.templates)) in
      and_i (eqb (length lent.chip.scores) (capacity r.guarded)) (eqb (length lent.chip.thresholds) 5) (eq→eqb _ _ e) (eq→eqb _ _ k.thresholds)),
)

pub fit_room_lem : (lent : Lent) → T (fit_room lent.room) ↔ (700 ≤ length lent.room)
unfolding fit_room
fit_room_lem lent = (leb→le 700 (length lent.room), le→leb 700 (length lent.room))

-- what is lent anew is fit
pub fit_lent_lem : (r : Reader) (lent : Lent) → Lengths r.guarded → T (fit_lent (capacity r.guarded) lent) ↔ (ChipLengths r lent × (700 ≤ length lent.room))
fit_lent_lem r lent m = (
  λ t. ((chip_mean r lent m).0 (search (and_l)), (fit_room_lem lent).0 (search (and_r))),
  λ k. and_i (fit_chip (capacity r.guarded) lent.chip) (fit_room lent.room) ((chip_mean r lent m).1 k.0) ((fit_room_lem lent).1 k.1),
)

module _ (r : Reader) (s : List ℕ) (lent : Lent) where
  called : (n : ℕ) → Ends r lent.room (call_as r s lent n) n
  unfolding call_as carried refused
  called zero = refl
  called (suc n) = (record { refusal = refl; used = refl; length = refl; room = refl }, refl)

  -- "Order: 1, 2, 3 .. Otherwise the call is carried out."
  pub call_refusals : Follows (call_lines r lent) (Ends r lent.room (call_of core r s lent))
  unfolding call_of refusal_of
  call_refusals =
      follows ((fit_lengths core r.guarded, 1) ∷ (fit_chip (capacity r.guarded) lent.chip, 1) ∷ (fit_room lent.room, 2) ∷ (sound r, 3) ∷ []) (call_lines r lent) (Ends r lent.room (call_of core r s lent))
      (lengths_mean r.guarded, (refl, λ m. (chip_mean r lent m, (refl, λ h. (fit_room_lem lent, (refl, λ u. (settings_mean r m, (refl, λ k. tt)))))))) (called (refusal_of core r lent))

  -- and a call that is not refused had a legal reader, a score for each page, five thresholds, and a reply room of at least 700 bytes
  pub refuses_only : (call_of core r s lent).told.refusal ≡ 0 → Means r × (ChipLengths r lent × (700 ≤ length lent.room))
  unfolding refused
  refuses_only =
      call_kinds core r s lent (λ (e : Ended). e.told.refusal ≡ 0 → Means r × (ChipLengths r lent × (700 ≤ length lent.room))) (λ n e. absurd (omega arith))
      (λ t u e.
      let m = legal_means r t in
      (m, ((chip_mean r lent m.lengths).0 (search (and_l)), (fit_room_lem lent).0 (search (and_r)))))

-- ---- the line switch

abbrev pub Switches : Reader → Ended → ℕ → Type 0
Switches r e zero = Unused [] e 0
Switches r e (suc n) = Unused [] e (suc n) × (e.after ≡ r)

-- "The line switch takes any settings and both buffers, and knows only refusal 1."
abbrev pub switch_lines : Reader → List Line
switch_lines r = unless ((length r.guarded.buffer1.bytes ≡ 512) × (length r.guarded.buffer2.bytes ≡ 512)) 1 ∷ []

module _ (r : Reader) where
  pub buffers : T (fit_buffers r.guarded) ↔ ((length r.guarded.buffer1.bytes ≡ 512) × (length r.guarded.buffer2.bytes ≡ 512))
  unfolding fit_buffers
  buffers = (
    λ t. (eqb→eq (length r.guarded.buffer1.bytes) 512 (search (and_l)), eqb→eq (length r.guarded.buffer2.bytes) 512 (search (and_r))),
    λ m. rw (m.0, m.1) tt,
  )

  switches : (n : ℕ) → Switches r (switch_as r n) n
  unfolding switch_as refused
  switches zero = record { refusal = refl; used = refl; length = refl; room = refl }
  switches (suc n) = (record { refusal = refl; used = refl; length = refl; room = refl }, refl)

  -- otherwise none, whatever the settings
  pub switch_refusals : Follows (switch_lines r) (Switches r (switch_of r))
  unfolding switch_of switch_refusal
  switch_refusals =
      follows ((fit_buffers r.guarded, 1) ∷ []) (switch_lines r) (Switches r (switch_of r)) (buffers, (refl, λ m. tt)) (switches (switch_refusal r.guarded))

-- ---- the builder

-- 0 is no refusal: the packet's length, and the room behind it as it was; a refusal: its number, length 0, and the room as it was
abbrev pub Builds : List ℕ → List ℕ → Made → ℕ → Type 0
Builds c lent m zero = (m.refusal ≡ 0) × ((m.length ≡ length c + 11) × (drop (length c + 11) m.room ≡ drop (length c + 11) lent))
Builds c lent m (suc n) = (m.refusal ≡ suc n) × ((m.length ≡ 0) × (m.room ≡ lent))

-- an identifier, and how many bytes of content a packet of it can have: 1 to 256 for identifiers 2 and 8 (request [3]), 1 to 254 for 1 and 7
pub record Contained (i n : ℕ) : Type 0 where
  pub identifier : Identifier i
  pub least : 1 ≤ n
  pub most : n ≤ 256
  pub kept : Other i → n ≤ 254

-- "4: builder only: identifier not 1, 2, 7, 8, or content not" so many bytes; "2: .. for the builder, below content + 11"
abbrev pub build_lines : ℕ → List ℕ → List ℕ → List Line
build_lines i c room = unless (Contained i (length c)) 4 ∷ unless (length c + 11 ≤ length room) 2 ∷ []

module _ (a : List ℕ) (i : ℕ) (c room : List ℕ) (four : length a ≡ 4) where
  contents : T (accepts i (length_of c)) ↔ Contained i (length c)
  contents = (
    λ t. (let a = (accepts_means i (length_of c)).0 t in record { identifier = a.identifier; least = omega (arith, a.least); most = omega (arith, a.most); kept = λ o. omega (arith, a.kept o) }),
    λ m. (accepts_means i (length_of c)).1 record { identifier = m.identifier; least = omega (arith, m.least); most = omega (arith, m.most); kept = λ o. omega (arith, m.kept o) },
  )

  built : (n : ℕ) → Builds c room (build_as (packet a i c) room n) n
  unfolding build_as
  built zero = let e : length (packet a i c) ≡ length c + 11 = length_packet a i c four in (refl, (e, rw e at (drop_lay (packet a i c) room)))
  built (suc n) = (refl, (refl, refl))

  -- "For the builder 4, then 2"; otherwise a packet of content + 11 bytes
  pub build_refusals : Follows (build_lines i c room) (Builds c room (build_of a i c room))
  unfolding build_of build_refusal
  build_refusals =
      follows ((accepts i (length_of c), 4) ∷ (leb (length c + 11) (length room), 2) ∷ []) (build_lines i c room) (Builds c room (build_of a i c room))
      (contents, (refl, λ m. ((leb→le (length c + 11) (length room), le→leb (length c + 11) (length room)), (refl, λ u. tt)))) (built (build_refusal i c room))
