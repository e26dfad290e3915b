-- What is written into the reply room: an acknowledge, data packets of one size, and the two behind one another.
use mathlib.Core.Path.{◌≡◌, refl, sym, ap, ◌∙◌}
use mathlib.Core.Bool.{true, cond}
use mathlib.Core.List.{List, ◌∷◌, ◌++◌}
use Prim.Native.Nat.{ℕ, zero, suc, ◌+◌, ◌-◌, ◌*◌, ◌/◌, ◌≤◌, ◌<◌}
use native.Mathlib.Nat.{suc-mul}
use native.Mathlib.Numerals.{add-one}
use native.Mathlib.Omega.{arith}
use lib.Dec.{eqb}
use lib.ListN.{length, take, drop, length-append, length-take, length-drop}
use lib.Seq.{take-append_seam, drop-append_seam}
use borrow.Author.Tests.{ne_eqb}
use borrow.Rule.Slice.PartMut.{put_mid}
use Rattle.protocol.specs.Reader.{size_of}
use Rattle.protocol.specs.Numbers.{page_bytes, highest_size, frame_bytes, acknowledge_packet, data_packet, last_packet}
use Rattle.protocol.specs.Bytes.{lay, follow, joined}
use Rattle.protocol.specs.Packet.{length_of, packet, is_identifier, limit, accepts}
use Rattle.protocol.specs.Data.{acknowledge, packets, data_packets}
use Rattle.protocol.proofs.Laws.Logic.{eqb_same, T→true}
use Rattle.protocol.proofs.Laws.Lists.{follow_append, length_lay, lay_lay, lay_whole, lay_nothing}
use Rattle.protocol.proofs.Laws.Finder.{length_packet, accepts_of}
use Rattle.rules.specs.Settings.{SizeOf}
use Rattle.rules.proofs.Sizes.{size_legal}
use Rattle.protocol.proofs.Laws.Sizes.{Size, sizes, length_packets, length_data}
use Rattle.library.proofs.Parts.{part_laid}
use Rattle.reader.specs.Answers.{listed_bytes, upload_bytes}

-- ---- a packet that the builder accepts

-- an acknowledge: a code, and listed bytes behind it
pub acknowledge_accepted : (c : List ℕ) → 1 ≤ length c → length c ≤ 1 + listed_bytes → accepts acknowledge_packet (length_of c) ≡ true
unfolding is_identifier limit
acknowledge_accepted c l h = T→true (accepts acknowledge_packet (length_of c)) (accepts_of acknowledge_packet (length_of c) tt (omega arith) (omega arith))

-- a data packet of a size
module _ {code z : ℕ} (e : SizeOf code z) (h : code ≤ highest_size) (c : List ℕ) (l : length c ≡ z) where
  pub data_accepted : (i : ℕ) → i ≡ data_packet → accepts i (length_of c) ≡ true
  data_accepted i f = rw (f, l, size_legal code z e h) (T→true _ ((sizes code h).carries))

  pub last_accepted : (i : ℕ) → i ≡ last_packet → accepts i (length_of c) ≡ true
  last_accepted i f = rw (f, l, size_legal code z e h) (T→true _ ((sizes code h).ends))

-- ---- an acknowledge

-- its content: the code and the bytes, at the front of a longer room
pub content_front : (n k q : ℕ) (b x p : List ℕ) → length b ≡ n → x ≡ b → q ≡ k → take (n + 1) (q ∷ (x ++ p)) ≡ k ∷ b
content_front n k q b x p h e f = rw (e, f, add-one, ← h) (ap (λ (y : List ℕ). k ∷ y) (take-append_seam b p))

pub acknowledge_long : (a : List ℕ) (k : ℕ) (b : List ℕ) → length a ≡ 4 → length (acknowledge a k b) ≡ length (k ∷ b) + frame_bytes
unfolding acknowledge
acknowledge_long a k b h = length_packet a acknowledge_packet (k ∷ b) h

-- ---- data packets

-- the sizes, in the code's numbers
pub record CodeSize (z : ℕ) : Type 0 where
  pub some : 1 ≤ z
  pub all : page_bytes / z * z ≡ page_bytes
  pub room : page_bytes / z * (z + frame_bytes) ≤ upload_bytes

pub code_size : {code z : ℕ} → SizeOf code z → code ≤ highest_size → CodeSize z
code_size {code} {z} e h =
    let y : Size (size_of code) = sizes code h in
    rw (size_legal code z e h) record {
      some = y.some;
      all = ap (λ (k : ℕ). k * size_of code) y.count ∙ y.whole;
      room = rw y.count (omega (arith, y.room));
    }

-- all of them fit the room
pub data_in : (src : List ℕ) {size : ℕ} (at n : ℕ) → CodeSize size → length src ≡ page_bytes → at + upload_bytes ≤ n → at + length src / size * (size + frame_bytes) ≤ n
data_in src at n z h f = rw h (omega (arith, z.room))

pub data_long : (a src : List ℕ) {size : ℕ} → CodeSize size → length src ≡ page_bytes → length a ≡ 4
    → length src / size * (size + frame_bytes) ≡ length (data_packets a size src)
unfolding data_packets
data_long a src {size} z h f = rw h (sym (length_packets a (page_bytes / size) size src f (h ∙ sym z.all)))

-- how far the loop over data packets has come: of the bytes `rest`, `left` packets are still to be laid, from `to` on
pub record Sending (a src : List ℕ) (size at end : ℕ) (out₀ out rest : List ℕ) (to : ℕ) : Type 0 where
  pub sized : CodeSize size
  pub fits : end ≤ length out₀
  pub left : ℕ
  pub long : length rest ≡ left * size
  pub same : length out ≡ length out₀
  pub room : to + left * (size + frame_bytes) ≡ end
  pub laid : lay to (joined (packets a left size rest)) out ≡ lay at (data_packets a size src) out₀

-- before the first
pub sending : (a src : List ℕ) {size : ℕ} (at : ℕ) (out rest : List ℕ) → CodeSize size → length src ≡ page_bytes → at + upload_bytes ≤ length out → rest ≡ src
    → Sending a src size at (at + length src / size * (size + frame_bytes)) out out rest at
unfolding data_packets
sending a src {size} at out rest z h f e =
    rw e record { sized = z; fits = data_in src at _ z h f; left = length src / size; long = rw (h, z.all) refl; same = refl; room = refl; laid = rw h refl }

-- the identifier of a packet, by the place behind it: the last ends at the end
module _ (n end i : ℕ) where
  pub is_last : n ≡ end → i ≡ last_packet → i ≡ cond (eqb n end) last_packet data_packet
  is_last e f = rw (e, eqb_same end) f

  pub is_not_last : (n ≡ end → ⊥) → i ≡ data_packet → i ≡ cond (eqb n end) last_packet data_packet
  is_not_last e f = rw (ne_eqb n end e) f

-- k more follow
last_by : (k m n end : ℕ) → 1 ≤ m → n + k * m ≡ end → eqb n end ≡ eqb k 0
last_by zero m n end h e = let f : n ≡ end = omega arith in rw f (eqb_same end)
last_by (suc k) m n end h e = ne_eqb n end (λ f. omega (arith, suc-mul k m)) ∙ sym (ne_eqb (suc k) 0 (λ f. omega arith))

module _ {a src : List ℕ} {size at end : ℕ} {out₀ out rest : List ℕ} {to : ℕ} (s : Sending a src size at end out₀ out rest to) where
  -- behind the last
  pub sent : length rest < size → out ≡ lay at (data_packets a size src) out₀
  unfolding packets joined
  sent h = sym (lay_nothing to out) ∙ rw (none s.left s.long) at s.laid
    where
      none : (k : ℕ) → length rest ≡ k * size → k ≡ 0
      none zero e = refl
      none (suc k) e = absurd (omega (arith, suc-mul k size))

  -- there is one more, x, and these follow it
  module _ (x more : List ℕ) (e : rest ≡ x ++ more) (l : length x ≡ size) where
    one : s.left ≡ suc (s.left - 1)
    one = go s.left s.long
      where
        go : (k : ℕ) → length rest ≡ k * size → k ≡ suc (k - 1)
        go zero f = absurd (omega (arith, s.sized.some, ap length e, length-append x more))
        go (suc k) f = omega arith

    behind : to + (size + frame_bytes) + (s.left - 1) * (size + frame_bytes) ≡ end
    behind = let f = rw one at s.room in omega (arith, suc-mul (s.left - 1) (size + frame_bytes))

    pub next_in : to + (size + frame_bytes) ≤ length out
    next_in = omega (arith, s.same, s.fits, behind)

    -- it is laid
    pub again : (i : ℕ) (ys : List ℕ) → i ≡ cond (eqb (to + (size + frame_bytes)) end) last_packet data_packet → length a ≡ 4
        → ys ≡ lay 0 (packet a i x) (take (to + (size + frame_bytes) - to) (drop to out))
        → Sending a src size at end out₀ (put_mid to (to + (size + frame_bytes) - to) out ys) more (to + (size + frame_bytes))
    unfolding packets joined
    again i ys b four f =
        let k : ℕ = s.left - 1 in
        let n : ℕ = to + (size + frame_bytes) in
        let p : length (packet a i x) ≡ size + frame_bytes = length_packet a i x four ∙ omega (arith, l) in
        let r : length (take (n - to) (drop to out)) ≡ size + frame_bytes = simp (length-take, length-drop) (omega (arith, next_in)) in
        let y : ys ≡ packet a i x = f ∙ lay_whole (packet a i x) _ (omega arith) in
        let put : put_mid to (n - to) out ys ≡ lay to (packet a i x) out = rw y (part_laid to n out (packet a i x) (omega arith) (omega arith)) in
        let long : length more ≡ k * size = let g = rw one at s.long in omega (arith, suc-mul k size, ap length e, length-append x more) in
        let rest_long = length_packets a k size more four long in
        let front : take size rest ≡ x = rw (e, ← l) (take-append_seam x more) in
        let back : drop size rest ≡ more = rw (e, ← l) (drop-append_seam x more) in
        let g = rw (one, front, back, ← last_by k (size + frame_bytes) n end (omega arith) behind, ← b) at s.laid in
        record {
          sized = s.sized;
          fits = s.fits;
          left = k;
          long = long;
          same = ap length put ∙ length_lay to (packet a i x) out (omega (arith, next_in)) ∙ s.same;
          room = behind;
          laid = rw put (lay_lay to n (packet a i x) (joined (packets a k size more)) out (omega arith) (omega (arith, behind, s.same, s.fits)) ∙ g);
        }

-- ---- an acknowledge, and data packets behind it

module _ (a p : List ℕ) (n : ℕ) (e : n ≡ length a) where
  pub both_long : (r : ℕ) → r ≡ n + length p → r ≡ length (follow a p)
  both_long r k = k ∙ omega (arith, ap length (follow_append a p), length-append a p)

  pub both_laid : (y y1 y2 : List ℕ) → n + length p ≤ length y → y1 ≡ lay 0 a y → y2 ≡ lay n p y1 → y2 ≡ lay 0 (follow a p) y
  both_laid y y1 y2 h f g = rw (follow_append a p) (g ∙ ap (lay n p) f ∙ lay_lay 0 n a p y (omega arith) h)

pub sent_length : (a : List ℕ) (code : ℕ) (s : List ℕ) → length a ≡ 4 → code ≤ highest_size → length s ≡ page_bytes → length (data_packets a (size_of code) s) ≤ upload_bytes
sent_length a code s h l m = omega (arith, length_data a (size_of code) s (sizes code l) h m)
