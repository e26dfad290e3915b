-- A packet laid piece by piece: head, content, sum; and the builder's outcome.
use Rattle.std.proofs.Common.{◌≡◌, ℕ, ◌+◌, ◌/◌, ◌%◌, ◌≤◌, List, [], ◌∷◌, ◌++◌, length, get_or, drop, refl, ap, ◌∙◌, append_assoc, arith, length-append, w16, Result, Ok, Err}
use borrow.Rule.Slice.PartMut.{put_mid}
use Rattle.std.specs.Int.{to_be_bytes}
use Rattle.std.specs.Result.{result_unwrap_or}
use lib.Seq.{drop-drop}
use native.Mathlib.Nat.{add-mod-mod}
use Rattle.protocol.specs.declared.refusals.Refusal.{Refusal}
use Rattle.protocol.specs.Numbers.{first_mark, second_mark, head_bytes, frame_bytes, four_bytes}
use Rattle.protocol.specs.Bytes.{two, total, lay}
use Rattle.protocol.specs.Packet.{length_of, sum_of, packet}
use Rattle.protocol.specs.Records.{built_of}
use Rattle.protocol.proofs.Laws.Lists.{by_four, lay_lay}
use Rattle.wire.specs.Laying.{head_of}

-- a part that was copied into, k bytes from the place i on, is a list laid over the whole
pub put_mid-lay : (i k : ℕ) (d x s : List ℕ) → x ≡ s → k ≡ length s → put_mid i k d x ≡ lay i s d
unfolding lay
put_mid-lay i k d x s e h = rw (e, h, drop-drop)

-- the bytes of the number that is cut to 16 bits
pub word_two : (n : ℕ) → to_be_bytes w16 (n % 65536) ≡ two n
unfolding two
word_two n =
    let high : n % 65536 / 256 % 256 ≡ n / 256 % 256 = omega arith in
    let low : n % 65536 % 256 ≡ n % 256 = omega arith in
    rw (high, low)

-- the content's sum may be taken modulo 65536 first
pub packet_sum : (i : ℕ) (c : List ℕ) (t q : ℕ) → t ≡ total c % 65536 → q ≡ (total (i ∷ two (length_of c)) + t) % 65536 → q ≡ sum_of i c
unfolding sum_of total
packet_sum i c t q e f = f ∙ rw (e, add-mod-mod)

-- the head as the code lists it
pub head_list : (a w : List ℕ) (i n : ℕ) → length a ≡ four_bytes → w ≡ two n
    → first_mark ∷ second_mark ∷ get_or a 0 0 ∷ get_or a 1 0 ∷ get_or a 2 0 ∷ get_or a 3 0 ∷ i ∷ get_or w 0 0 ∷ get_or w 1 0 ∷ [] ≡ head_of a i n
unfolding head_of two
head_list a w i n h e =
    rw e
    (by_four a h
    (λ (x : List ℕ). first_mark ∷ second_mark ∷ get_or x 0 0 ∷ get_or x 1 0 ∷ get_or x 2 0 ∷ get_or x 3 0 ∷ i ∷ n / 256 % 256 ∷ n % 256 ∷ [] ≡ head_of x i n) (λ w x y z. refl))

length_head : (a : List ℕ) (i n : ℕ) → length a ≡ four_bytes → length (head_of a i n) ≡ head_bytes
unfolding head_of two
length_head a i n e = simp length-append (omega arith)

packet_laid : (a : List ℕ) (i : ℕ) (c d : List ℕ) → length a ≡ four_bytes → length c + frame_bytes ≤ length d
    → lay (head_bytes + length c) (two (sum_of i c)) (lay head_bytes c (lay 0 (head_of a i (length_of c)) d)) ≡ lay 0 (packet a i c) d
unfolding head_of packet two
packet_laid a i c d e h =
    let head : List ℕ = head_of a i (length_of c) in
    let sum : List ℕ = two (sum_of i c) in
    let long : length head ≡ head_bytes = length_head a i (length_of c) e in
    let both : length (head ++ c) ≡ head_bytes + length c = length-append head c ∙ omega arith in
    ap (lay (head_bytes + length c) sum) (lay_lay 0 head_bytes head c d (omega arith) (omega arith))
    ∙ lay_lay 0 (head_bytes + length c) (head ++ c) sum d (omega arith) (omega arith)
    ∙ ap (λ (x : List ℕ). lay 0 x d) (append_assoc head c sum ∙ simp append_assoc)

front_laid : (d s x : List ℕ) → x ≡ s → length s ≡ head_bytes → x ++ drop head_bytes d ≡ lay 0 s d
unfolding lay
front_laid d s x e h = rw (e, h)

-- the three pieces one behind the other: x is the head as it was copied, y the room with the content, and z is the sum as it was copied
pub pieces : (a : List ℕ) (i : ℕ) (c d x y z : List ℕ) (m t q : ℕ) → length a ≡ four_bytes → length c + frame_bytes ≤ length d
    → x ≡ head_of a i (length_of c) → t ≡ total c % 65536 → y ≡ lay head_bytes c (x ++ drop head_bytes d) → q ≡ (total (i ∷ two (length_of c)) + t) % 65536
    → z ≡ to_be_bytes w16 q → m ≡ 2
    → put_mid (head_bytes + length c) m y z ≡ lay 0 (packet a i c) d
unfolding two
pieces a i c d x y z m t q e h f u g v s l =
    let first : x ++ drop head_bytes d ≡ lay 0 (head_of a i (length_of c)) d = front_laid d (head_of a i (length_of c)) x f (length_head a i (length_of c) e) in
    let sum : q ≡ sum_of i c = packet_sum i c t q u v in
    let small : q % 65536 ≡ q = rw v (omega arith) in
    put_mid-lay (head_bytes + length c) m y z (two q) (s ∙ rw small at (word_two q)) l
    ∙ ap (lay (head_bytes + length c) (two q)) (g ∙ ap (lay head_bytes c) first)
    ∙ rw sum (packet_laid a i c d e h)

-- ---- what is left of the builder's outcome where 0 stands for a refusal

pub length_kept : (r : Result ℕ Refusal) → result_unwrap_or r 0 ≡ (built_of r).length
length_kept (Ok n) = refl
length_kept (Err e) = refl
