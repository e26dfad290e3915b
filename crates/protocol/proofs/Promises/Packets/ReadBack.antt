-- Demand 2: "A packet built by us reads back as itself." Document 01: "found at place 0, all its bytes used, the sum right, and the same
-- identifier, address and content."
use mathlib.Core.Bool.{true, ◌&&◌}
use mathlib.Core.Path.{◌≡◌, refl, sym, ap, ap₂, ◌∙◌, subst}
use mathlib.Core.List.{List, [], ◌∷◌, ◌++◌, append_assoc, append-nil}
use Prim.Native.Nat.{ℕ, zero, suc, ◌+◌, ◌-◌, ◌*◌, ◌≤◌}
use native.Mathlib.Omega.{arith}
use lib.Dec.{T, leb}
use lib.ListN.{length, take, drop, length-append}
use lib.Seq.{take_at, get_or-drop, get_or-append-add}
use Rattle.protocol.specs.declared.Found.TheVariants.{Whole}
use Rattle.protocol.specs.Numbers.{head_bytes, frame_bytes, four_bytes}
use Rattle.protocol.specs.Bytes.{two, byte_at, word_at}
use Rattle.protocol.specs.Packet.{length_of, sum_of, packet, accepts, address_at, identifier_at, length_at, content_at, end_at, right_at, Made, build_refusal, build_as, build_of}
use Rattle.protocol.specs.Finder.{marks_at, start_of, find_of, used_of}
use Rattle.protocol.specs.Step.{hear_as, hear_at, hear}
use Rattle.protocol.proofs.Laws.Logic.{eqb_same, verdict_passed, and_l}
use Rattle.protocol.proofs.Laws.Lists.{by_four, two_bytes, take_lay}
use Rattle.protocol.proofs.Laws.Finder.{length_packet, accepts_most, longest_word, found_at, heard_at}

-- the run s starts with the packet of this address, identifier and content, and its sum is right
pub record ReadsAs (s a : List ℕ) (i : ℕ) (c : List ℕ) : Type 0 where
  pub found : find_of s ≡ Whole 0 (length_of c)
  pub address : address_at s 0 ≡ a
  pub identifier : identifier_at s 0 ≡ i
  pub content : content_at s 0 (length_of c) ≡ c
  pub right : right_at s 0 (length_of c) ≡ true

-- ---- a packet with anything behind it, its address four bytes w x y z

module _ (w x y z i : ℕ) (c t : List ℕ) (ok : T (accepts i (length_of c))) where
  sent : List ℕ
  sent = packet (w ∷ x ∷ y ∷ z ∷ []) i c ++ t

  sum : ℕ
  sum = sum_of i c

  -- what stands behind the head
  tail : drop head_bytes sent ≡ c ++ (two sum ++ t)
  unfolding sent packet two sum
  tail = append_assoc c (two sum) t

  field : length_at sent 0 ≡ length_of c
  unfolding sent packet word_at two
  field = two_bytes (length_of c) (omega (arith, accepts_most i (length_of c) ok, longest_word))

  room : end_at 0 (length_of c) ≤ length sent
  unfolding sent
  room = omega (arith, length-append (packet (w ∷ x ∷ y ∷ z ∷ []) i c) t, length_packet (w ∷ x ∷ y ∷ z ∷ []) i c refl)

  found : find_of sent ≡ Whole 0 (length_of c)
  unfolding find_of sent packet start_of marks_at
  found = found_at sent 0 (length_of c) field ok room

  content : content_at sent 0 (length_of c) ≡ c
  content = ap (take (length_of c - 2)) tail ∙ take_at c (two sum ++ t) (length_of c - 2) (omega arith)

  behind : (k : ℕ) → byte_at sent (9 + (length c + k)) ≡ byte_at (two sum ++ t) k
  behind k = sym (get_or-drop head_bytes sent (length c + k) 0) ∙ ap (λ (l : List ℕ). byte_at l (length c + k)) tail ∙ get_or-append-add c (two sum ++ t) k 0

  summed : word_at sent (7 + length_of c) ≡ sum
  unfolding word_at two sum_of sum
  summed =
      let high : 7 + length_of c ≡ 9 + (length c + 0) = omega arith in
      let low : 7 + length_of c + 1 ≡ 9 + (length c + 1) = omega arith in
      ap₂ (λ (m n : ℕ). m * 256 + n) (ap (byte_at sent) high ∙ behind 0) (ap (byte_at sent) low ∙ behind 1) ∙ two_bytes (sum_of i c) (omega arith)

  reads : ReadsAs sent (w ∷ x ∷ y ∷ z ∷ []) i c
  unfolding sent packet sum
  reads = record { found = found; address = refl; identifier = refl; content = content; right = rw (content, summed, eqb_same (sum_of i c)) refl }

-- ---- for any address of four bytes

pub reads_back : (a : List ℕ) (i : ℕ) (c t : List ℕ) → length a ≡ four_bytes → T (accepts i (length_of c)) → ReadsAs (packet a i c ++ t) a i c
unfolding sent
reads_back a i c t h ok = by_four a h (λ (b : List ℕ). ReadsAs (packet b i c ++ t) b i c) (λ w x y z. reads w x y z i c t ok)

pub packet_reads : (a : List ℕ) (i : ℕ) (c : List ℕ) → length a ≡ four_bytes → T (accepts i (length_of c)) → ReadsAs (packet a i c) a i c
packet_reads a i c h ok = subst (λ (s : List ℕ). ReadsAs s a i c) (append-nil (packet a i c)) (reads_back a i c [] h ok)

-- ---- the builder

-- what it built is a packet, and reads back as itself
pub record BuiltBack (a : List ℕ) (i : ℕ) (c : List ℕ) (m : Made) : Type 0 where
  pub written : take m.length m.room ≡ packet a i c
  pub used : used_of (find_of (take m.length m.room)) ≡ m.length
  pub reads : ReadsAs (take m.length m.room) a i c

pub built_back : (a : List ℕ) (i : ℕ) (c room : List ℕ) → length a ≡ four_bytes → (build_of a i c room).refusal ≡ 0 → BuiltBack a i c (build_of a i c room)
unfolding build_of build_refusal build_as used_of
built_back a i c room h = go (build_refusal i c room) refl
  where
    go : (k : ℕ) → build_refusal i c room ≡ k → (build_as (packet a i c) room k).refusal ≡ 0 → BuiltBack a i c (build_as (packet a i c) room k)
    go zero e z =
        let p : List ℕ = packet a i c in
        let ok : T (accepts i (length_of c)) = and_l (accepts i (length_of c)) (leb (length c + frame_bytes) (length room) && true) (verdict_passed _ tt e) in
        let back : ReadsAs p a i c = packet_reads a i c h ok in
        record {
          written = take_lay p room;
          used = ap (λ (s : List ℕ). used_of (find_of s)) (take_lay p room) ∙ ap used_of back.found ∙ omega (arith, length_packet a i c h);
          reads = rw (take_lay p room) back;
        }
    go (suc k) e z = absurd (omega arith)

-- what a packet for the address a says to its reader
pub heard_packet : (a : List ℕ) (i : ℕ) (c : List ℕ) → length a ≡ four_bytes → T (accepts i (length_of c)) → hear a (packet a i c) ≡ hear_as i true c
unfolding hear
heard_packet a i c h t =
    let s : List ℕ = packet a i c in
    let b : ReadsAs s a i c = packet_reads a i c h t in
    ap (hear_at a s) b.found ∙ heard_at a s 0 (length_of c) b.address ∙ rw (b.right, b.identifier, b.content) refl
