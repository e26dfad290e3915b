-- Document 02, request [3], its limits: "The builder takes content up to 256 for those two identifiers, the receiver of [1] holds up to 267, and the longest
-- unfinished packet grows to 266. .. Refusals: 1Bh now from size code 4; 4 by the new content limits."
use mathlib.Core.Bool.{false}
use mathlib.Core.Path.{◌≡◌, refl}
use mathlib.Core.Logic.{◌⊎◌, inl, inr}
use mathlib.Core.List.{List, ◌∷◌}
use Prim.Native.Nat.{ℕ, ◌+◌, ◌≤◌, ◌<◌}
use native.Mathlib.Omega.{arith}
use lib.Dec.{T, lit≤}
use lib.ListN.{length, get_or}
use Rattle.protocol.specs.Packet.{build_of}
use Rattle.protocol.specs.Finder.{find_of, used_of}
use Rattle.protocol.specs.Reader.{Reader, locked, capacity}
use Rattle.protocol.specs.Commands.{set_sys_para, barred, command}
use Rattle.protocol.specs.Step.{order, hear, rested}
use Rattle.protocol.specs.Call.{Lent, fit_lent, legal, core, call_of}
use Rattle.protocol.specs.Receiver.{Line, receive_of}
use Rattle.protocol.proofs.Promises.Words.Told.{Says}
use Rattle.protocol.proofs.Promises.Packets.Packets.{Data, Other, Accepted, data_accepted}
use Rattle.protocol.proofs.Promises.Packets.Finding.{First, length_field, unfinished, found}
use Rattle.protocol.proofs.Promises.Packets.ZeroUsed.{UnfinishedPacket}
use Rattle.protocol.proofs.Promises.Refusals.LegalMeans.{Lengths, Settled}
use Rattle.protocol.proofs.Promises.Refusals.Refused.{ChipLengths, Ends, call_refusals, Builds, build_refusals}
use Rattle.protocol.proofs.Promises.Commands.Rows.{rows}
use Rattle.protocol.proofs.Promises.Lines.Receiver.{Hands, receive_refusals}

-- ---- the builder: content up to 256 bytes for identifiers 2 and 8, and refusal 4 above it, for 1 and 7 above 254

module _ (a : List ℕ) (i : ℕ) (c room : List ℕ) (four : length a ≡ 4) where
  pub builds_256 : Data i → 1 ≤ length c → length c ≤ 256 → length c + 11 ≤ length room → Builds c room (build_of a i c room) 0
  builds_256 d low high fit =
      let k = data_accepted i (length c + 2) d (omega arith) (omega arith) in
      ((build_refusals a i c room four).0 record { identifier = k.identifier; least = low; most = high; kept = λ o. let n = k.kept o in omega arith }).0 fit

  pub refuses_257 : 257 ≤ length c → Builds c room (build_of a i c room) 4
  refuses_257 long = (build_refusals a i c room four).1 (λ k. let n = k.most in omega arith)

  pub refuses_255 : Other i → 255 ≤ length c → Builds c room (build_of a i c room) 4
  refuses_255 o long = (build_refusals a i c room four).1 (λ k. let n = k.kept o in omega arith)

-- ---- the receiver: refusal 3 above 267 held bytes

pub refuses_268 : (x : Line) (piece : List ℕ) (lent : Lent) → Lengths x.reader.guarded → ChipLengths x.reader lent → 700 ≤ length lent.room → Settled x.reader → 268 ≤ x.receiver.count
    → Hands x lent (receive_of core x piece lent) 3
refuses_268 x piece lent m h u k high = (((((receive_refusals x piece lent).0 m).0 h).0 u).0 k).1 (λ c. omega arith)

-- ---- "the longest unfinished packet grows to 266", a data packet's; that of a command or an acknowledge keeps 264

-- the front of a data packet of length 258
abbrev pub front : List ℕ → List ℕ
front c = 0xef ∷ 0x01 ∷ 0xff ∷ 0xff ∷ 0xff ∷ 0xff ∷ 0x02 ∷ 0x01 ∷ 0x02 ∷ c

pub longest_waits : (c : List ℕ) → length c ≡ 257 → (length (front c) ≡ 266) × (used_of (find_of (front c)) ≡ 0)
longest_waits c e =
    let long : length (front c) ≡ 266 = omega arith in
    let first : First (front c) 0 = record { here = record { inside = omega arith; first = refl; second = refl }; before = λ q h m. omega arith } in
    (long, (found (unfinished first (omega arith) (data_accepted 2 258 (inl refl) (lit≤ tt) (lit≤ tt)) (omega arith))).1)

pub other_waits : (s : List ℕ) → UnfinishedPacket s → 9 ≤ length s → Other (get_or s 6 0) → length s ≤ 264
other_waits s w h i = go w.short
  where
    go : (length s < 9) ⊎ (Accepted (get_or s 6 0) (length_field s 0) × (length s < 9 + length_field s 0)) → length s ≤ 264
    go (inl k) = omega arith
    go (inr (a, k)) = omega (arith, a.kept i)

-- ---- size code 4 and above: SetSysPara answers 1Bh, and nothing changes; stored, refusal 3, whatever else the settings are

pub answers_1b : (r : Reader) (s : List ℕ) (lent : Lent) (f : T (legal core r)) (u : T (fit_lent (capacity r.guarded) lent)) (l : locked r.plain ≡ false) (v : ℕ) → 4 ≤ v
    → hear r.plain.address s ≡ order (command (barred (set_sys_para 6 v))) → Says (rested r) 0x1b s lent (call_of core r s lent)
answers_1b r s lent f u l v high h = ((rows r s lent f u l (set_sys_para 6 v) h).0 (inr (inr refl))).1 (λ q. let k = q.1.1 refl in omega arith)

pub refuses_code_4 : (r : Reader) (s : List ℕ) (lent : Lent) → Lengths r.guarded → ChipLengths r lent → 700 ≤ length lent.room → 4 ≤ r.plain.size
    → Ends r lent.room (call_of core r s lent) 3
refuses_code_4 r s lent m h u high = ((((call_refusals r s lent).0 m).0 h).0 u).1 (λ q. let k = q.size in omega arith)
