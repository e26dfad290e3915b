-- An upload: what follows UpChar's acknowledge are packets that read back, one behind the other, as the template's parts in order; joined
-- they are the template. Proved once over the size.
use mathlib.Core.Bool.{Bool, true, false, ◌&&◌, cond}
use mathlib.Core.Path.{◌≡◌, refl, sym, ap, ap₂, ◌∙◌, subst}
use mathlib.Core.List.{List, [], ◌∷◌, ◌++◌, map}
use Prim.Native.Nat.{ℕ, zero, suc, ◌+◌, ◌*◌, ◌/◌, ◌≤◌}
use native.Mathlib.Nat.{suc-mul}
use native.Mathlib.Omega.{arith}
use lib.Dec.{T, eqb, eqb-suc-zero}
use lib.ListN.{length, take, drop, length-drop}
use lib.Seq.{length-take-le, drop_at}
use Rattle.protocol.specs.declared.Found.{Found}
use Rattle.protocol.specs.declared.Found.TheVariants.{Noise, Unfinished, Unfit, Whole}
use Rattle.protocol.specs.Numbers.{four_bytes, data_packet, last_packet}
use Rattle.protocol.specs.Bytes.{joined, split}
use Rattle.protocol.specs.Packet.{packet, length_of, accepts, address_at, identifier_at, content_at, right_at, end_at}
use Rattle.protocol.specs.Finder.{find_of}
use Rattle.protocol.specs.Reader.{Buffer, Reader, size_of, locked, buffer_of, capacity}
use Rattle.protocol.specs.Commands.{barred, up_char, command}
use Rattle.protocol.specs.Data.{acknowledge, packets, data_packets}
use Rattle.protocol.specs.Table.{is_buffer, second, rule, apply}
use Rattle.protocol.specs.Step.{order, hear, carry_as, rested}
use Rattle.protocol.specs.Call.{Shape, Lent, fit_lent, Ended, call_of}
use Rattle.protocol.proofs.Laws.Logic.{and_i}
use Rattle.protocol.proofs.Laws.Lists.{follow_append, split_joined}
use Rattle.protocol.proofs.Laws.Finder.{length_packet}
use Rattle.protocol.proofs.Laws.Answers.{obeys}
use Rattle.protocol.proofs.Laws.Legal.{buffer_long, Good}
use Rattle.protocol.proofs.Laws.Sizes.{Size}
use Rattle.protocol.proofs.Promises.Words.Told.{Replies, answered, Numbered, buffer, numbered, buffer_is}
use Rattle.protocol.proofs.Promises.Packets.ReadBack.{ReadsAs, reads_back}
use Rattle.protocol.proofs.Promises.Refusals.ReplyFits.{size_of_lem}
use Rattle.protocol.proofs.Promises.Refusals.StaysLegal.{Legal, good, good_rested}

-- a packet as it was read
pub record Read : Type 0 where
  pub address : List ℕ
  pub identifier : ℕ
  pub content : List ℕ
  pub right : Bool

abbrev pub read_at : List ℕ → ℕ → ℕ → Read
read_at s p n = record { address = address_at s p; identifier = identifier_at s p; content = content_at s p n; right = right_at s p n }

-- what is found in a run, and then the rest of the run
unfoldable pub read_by : (List ℕ → List Read) → List ℕ → Found → List Read
read_by rest s (Noise n) = []
read_by rest s (Unfinished p) = []
read_by rest s (Unfit p) = []
read_by rest s (Whole p n) = read_at s p n ∷ rest (drop (end_at p n) s)

-- the packets that stand in a run one behind the other, k at most
unfoldable pub read_all : ℕ → List ℕ → List Read
read_all zero s = []
read_all (suc k) s = read_by (read_all k) s (find_of s)

-- the parts of s, n bytes each, from the reader of the address a: the last with identifier 8, the others 2, every sum right
unfoldable pub parts : List ℕ → ℕ → ℕ → List ℕ → List Read
parts a zero n s = []
parts a (suc k) n s = record { address = a; identifier = cond (eqb k 0) 8 2; content = take n s; right = true } ∷ parts a k n (drop n s)

pub parts_split : (a : List ℕ) (k n : ℕ) (s : List ℕ) → map (λ (x : Read). x.content) (parts a k n s) ≡ split k n s
unfolding parts split
parts_split a zero n s = refl
parts_split a (suc k) n s = ap (λ (t : List (List ℕ)). take n s ∷ t) (parts_split a k n (drop n s))

-- ---- the data packets read back

module _ (a : List ℕ) (h : length a ≡ four_bytes) (n : ℕ) (carries : T (accepts data_packet (n + 2))) (ends : T (accepts last_packet (n + 2))) where
  either : (k : ℕ) → T (accepts (cond (eqb k 0) last_packet data_packet) (n + 2))
  either zero = ends
  either (suc k) = rw (eqb-suc-zero k) carries

  read_one : (i : ℕ) (c t : List ℕ) → T (accepts i (length_of c)) → (k : ℕ)
      → read_all (suc k) (packet a i c ++ t) ≡ record { address = a; identifier = i; content = c; right = true } ∷ read_all k t
  unfolding read_all read_by
  read_one i c t ok k =
      let b : ReadsAs (packet a i c ++ t) a i c = reads_back a i c t h ok in
      let rest : drop (end_at 0 (length_of c)) (packet a i c ++ t) ≡ t = drop_at (packet a i c) t (end_at 0 (length_of c)) (length_packet a i c h ∙ omega arith) in
      ap (read_by (read_all k) (packet a i c ++ t)) b.found
      ∙ ap₂ (λ (x : Read) (y : List ℕ). x ∷ read_all k y) (λ j. record { address = b.address j; identifier = b.identifier j; content = b.content j; right = b.right j }) rest

  packets_read : (k : ℕ) (s : List ℕ) → length s ≡ k * n → read_all k (joined (packets a k n s)) ≡ parts a k n s
  unfolding packets joined parts read_all
  packets_read zero s e = refl
  packets_read (suc k) s e =
      let one : length (take n s) ≡ n = length-take-le n s (omega (arith, suc-mul k n)) in
      let i : ℕ = cond (eqb k 0) last_packet data_packet in
      read_one i (take n s) (joined (packets a k n (drop n s))) (rw one (either k)) k
      ∙ ap (λ (t : List Read). record { address = a; identifier = i; content = take n s; right = true } ∷ t)
      (packets_read k (drop n s) (length-drop n s ∙ omega (arith, suc-mul k n)))

-- ---- UpChar

-- the reply is 00h and the data packets of the template b in the size in force; they read back as its parts, which joined are b; and nothing changes
pub record Uploads (r : Reader) (b s : List ℕ) (lent : Lent) (e : Ended) : Type 0 where
  pub told : Replies (acknowledge r.plain.address 0x00 [] ++ data_packets r.plain.address (size_of r.plain.size) b) s lent e
  pub back :
      read_all (512 / size_of r.plain.size) (data_packets r.plain.address (size_of r.plain.size) b)
      ≡ parts r.plain.address (512 / size_of r.plain.size) (size_of r.plain.size) b
  pub whole : joined (map (λ (x : Read). x.content) (read_all (512 / size_of r.plain.size) (data_packets r.plain.address (size_of r.plain.size) b))) ≡ b
  pub after : e.after ≡ r

module _ (σ : Shape) (ok : σ.most ≤ 8 * σ.indexed) where
  pub upload : (r : Reader) → Legal σ ok r → locked r.plain ≡ false → (b : ℕ) → Numbered b → (s : List ℕ) (lent : Lent) → T (fit_lent (capacity r.guarded) lent)
      → hear r.plain.address s ≡ order (command (barred (up_char b))) → (buffer b (rested r).guarded).filled ≡ true
      → Uploads (rested r) (buffer b (rested r).guarded).bytes s lent (call_of σ r s lent)
  unfolding carry_as rule apply data_packets
  upload r l u b i s lent v h m =
      let t : Reader = rested r in
      let k : Good σ ok t = good_rested σ ok r (good σ ok r l) in
      let a : List ℕ = t.plain.address in
      let n : ℕ = size_of t.plain.size in
      let z : Size n = size_of_lem σ ok t k in
      let c : Buffer = buffer_of (second b) t.guarded in
      let sent : List ℕ = data_packets a n c.bytes in
      let long : length c.bytes ≡ 512 / n * n = buffer_long (second b) t.guarded k.buffers ∙ sym z.whole ∙ ap (λ (q : ℕ). q * n) (sym z.count) in
      let back : read_all (512 / n) sent ≡ parts a (512 / n) n c.bytes = packets_read a k.typed.address n z.carries z.ends (512 / n) c.bytes long in
      let same : c ≡ buffer b t.guarded = buffer_is b i t.guarded in
      let f : T c.filled = rw (same, m) tt in
      let g =
      answered σ r s lent l.legal v (carry_as t (rule lent.chip t (up_char b)) zero)
      (obeys lent.chip r s u (up_char b) h (and_i (is_buffer b) (c.filled && true) ((numbered b).1 i) (and_i c.filled true f tt)))
      in
      subst (λ (x : Buffer). Uploads t x.bytes s lent (call_of σ r s lent)) same
      record {
        told = subst (λ (x : List ℕ). Replies x s lent (call_of σ r s lent)) (follow_append (acknowledge a 0x00 []) sent) g.told;
        back = back;
        whole =
            ap (λ (x : List Read). joined (map (λ (y : Read). y.content) x)) back ∙ ap joined (parts_split a (512 / n) n c.bytes)
            ∙ split_joined (512 / n) n c.bytes long;
        after = g.after;
      }
