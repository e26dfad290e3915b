-- What the words of packets mean: document 01's "Finding a packet" and the last lines of "Commands", in its own numbers and request [3]'s.
use mathlib.Core.Bool.{Bool, true, false, ◌||◌}
use mathlib.Core.Path.{◌≡◌, refl, ap}
use mathlib.Core.Logic.{◌⊎◌, inl, inr, ◌↔◌}
use mathlib.Core.List.{List, [], ◌∷◌, ◌++◌, foldr}
use Prim.Native.Nat.{ℕ, ◌+◌, ◌-◌, ◌*◌, ◌/◌, ◌%◌, ◌≤◌}
use native.Mathlib.Omega.{arith}
use lib.Dec.{T, eqb, not_T}
use borrow.Author.Tests.{eqb-true}
use lib.ListN.{length, get_or, take, drop}
use Rattle.protocol.specs.Numbers.{longest}
use Rattle.protocol.specs.Bytes.{two, word_at, total}
use Rattle.protocol.specs.Packet.{length_of, sum_of, packet, is_identifier, limit, accepts, address_at, identifier_at, length_at, content_at, end_at}
use Rattle.protocol.specs.Data.{acknowledge}
use Rattle.protocol.proofs.Laws.Logic.{T→false, and_l}
use Rattle.protocol.proofs.Laws.Lists.{total_added}
use Rattle.protocol.proofs.Laws.Finder.{accepts_least, accepts_limit, accepts_most, accepts_of}

-- identifier 1, 2, 7 or 8
abbrev pub Identifier : ℕ → Type 0
Identifier i = (i ≡ 1) ⊎ (i ≡ 2) ⊎ (i ≡ 7) ⊎ (i ≡ 8)

pub identifier_means : (i : ℕ) → T (is_identifier i) ↔ Identifier i
unfolding is_identifier
identifier_means i = (to (eqb i 1) (eqb i 2) (eqb i 7) (eqb i 8) refl refl refl refl, from)
  where
    to : (a b c d : Bool) → eqb i 1 ≡ a → eqb i 2 ≡ b → eqb i 7 ≡ c → eqb i 8 ≡ d → T (a || b || c || d) → Identifier i
    to true b c d w x y z t = inl (eqb-true i 1 w)
    to false true c d w x y z t = inr (inl (eqb-true i 2 x))
    to false false true d w x y z t = inr (inr (inl (eqb-true i 7 y)))
    to false false false true w x y z t = inr (inr (inr (eqb-true i 8 z)))
    to false false false false w x y z t = absurd t

    from : Identifier i → T (is_identifier i)
    from (inl e) = rw e tt
    from (inr (inl e)) = rw e tt
    from (inr (inr (inl e))) = rw e tt
    from (inr (inr (inr e))) = rw e tt

-- identifiers 2 and 8; identifiers 1 and 7
abbrev pub Data : ℕ → Type 0
Data i = (i ≡ 2) ⊎ (i ≡ 8)

abbrev pub Other : ℕ → Type 0
Other i = (i ≡ 1) ⊎ (i ≡ 7)

-- an identifier and a length field that a packet can have: request [3]'s "length 3 to 258 for identifiers 2 and 8; 1 and 7 keep 256"
pub record Accepted (i n : ℕ) : Type 0 where
  pub identifier : Identifier i
  pub least : 3 ≤ n
  pub most : n ≤ 258
  pub kept : Other i → n ≤ 256

pub accepts_means : (i n : ℕ) → T (accepts i n) ↔ Accepted i n
unfolding accepts limit longest
accepts_means i n = (to, λ a. accepts_of i n ((identifier_means i).1 a.identifier) a.least (below a a.identifier))
  where
    keeps : n ≤ limit i → Other i → n ≤ 256
    keeps h (inl e) = rw e at h
    keeps h (inr e) = rw e at h

    to : T (accepts i n) → Accepted i n
    to t = record { identifier = (identifier_means i).0 (search (and_l)); least = accepts_least i n t; most = accepts_most i n t; kept = keeps (accepts_limit i n t) }

    below : Accepted i n → Identifier i → n ≤ limit i
    below a (inl e) = rw e (a.kept (inl e))
    below a (inr (inl e)) = rw e a.most
    below a (inr (inr (inl e))) = rw e (a.kept (inr e))
    below a (inr (inr (inr e))) = rw e a.most

pub data_accepted : (i n : ℕ) → Data i → 3 ≤ n → n ≤ 258 → Accepted i n
data_accepted i n d l m = record { identifier = kind d; least = l; most = m; kept = never d }
  where
    kind : Data i → Identifier i
    kind (inl e) = inr (inl e)
    kind (inr e) = inr (inr (inr e))

    never : Data i → Other i → n ≤ 256
    never (inl e) (inl f) = omega arith
    never (inl e) (inr f) = omega arith
    never (inr e) (inl f) = omega arith
    never (inr e) (inr f) = omega arith

pub refuses_other : (i n : ℕ) → (Accepted i n → ⊥) → accepts i n ≡ false
refuses_other i n k = T→false (accepts i n) (not_T (accepts i n) (λ t. k ((accepts_means i n).0 t)))

-- the parts of a packet that starts at p in the run s, n its length field; and the place behind it
pub record Parts (s : List ℕ) (p n : ℕ) : Type 0 where
  pub address_at_lem : address_at s p ≡ take 4 (drop (p + 2) s)
  pub identifier_at_lem : identifier_at s p ≡ get_or s (p + 6) 0
  pub length_at_lem : length_at s p ≡ get_or s (p + 7) 0 * 256 + get_or s (p + 8) 0
  pub content_at_lem : content_at s p n ≡ take (n - 2) (drop (p + 9) s)
  pub end_at_lem : end_at p n ≡ p + 9 + n

pub parts : (s : List ℕ) (p n : ℕ) → Parts s p n
unfolding word_at
parts s p n =
    let e : p + 7 + 1 ≡ p + 8 = omega arith in
    record { address_at_lem = refl; identifier_at_lem = refl; length_at_lem = rw e refl; content_at_lem = refl; end_at_lem = refl }

-- length counts content and sum
pub length_is : (content : List ℕ) → length_of content ≡ length content + 2
length_is content = refl

-- EF 01, address, identifier, length, content, sum. The sum is identifier, both length bytes and every content byte added, modulo 65536
module _ (a b c d i : ℕ) (content : List ℕ) where
  abbrev n : ℕ
  n = length content + 2

  abbrev sum : ℕ
  sum = (i + n / 256 + n % 256 + foldr ◌+◌ 0 content) % 65536

  summed : length content ≤ 256 → sum_of i content ≡ sum
  unfolding sum_of two total
  summed h = let e : n / 256 % 256 ≡ n / 256 = omega arith in rw (e, total_added content) (ap (λ (m : ℕ). m % 65536) (omega arith))

  pub packet_is : length content ≤ 256
      → packet (a ∷ b ∷ c ∷ d ∷ []) i content ≡ 0xef ∷ 0x01 ∷ a ∷ b ∷ c ∷ d ∷ i ∷ n / 256 ∷ n % 256 ∷ (content ++ (sum / 256 ∷ sum % 256 ∷ []))
  unfolding packet two
  packet_is h =
      let e : n / 256 % 256 ≡ n / 256 = omega arith in
      let g : sum / 256 % 256 ≡ sum / 256 = omega arith in
      rw (e, summed h, g) refl

-- each acknowledge has identifier 7, the code, then the listed bytes
pub acknowledge_is : (a : List ℕ) (code : ℕ) (bytes : List ℕ) → acknowledge a code bytes ≡ packet a 7 (code ∷ bytes)
unfolding acknowledge
acknowledge_is a code bytes = refl
