-- Request [4]: "Take the set bits of each index byte with the processor's own ones count, not bit by bit. Same number, same promise." And document 01's
-- Forms: "The valid count adds count-of-ones over index bytes, proved equal to counting set pages." `ones` is the language's own count of a number's ones,
-- and no definition of ours. The promises over the count stand as they did: `tells_number`, `valid_count`, `count_told` and `count_service_lem`.
use mathlib.Core.Bool.{false}
use mathlib.Core.Path.{◌≡◌, sym, ap, ap₂, ◌∙◌, subst}
use mathlib.Core.List.{List, foldr}
use Prim.Native.Nat.{ℕ, ◌+◌, ◌*◌, ◌/◌, ◌%◌, ◌^◌, ◌≤◌, ◌<◌}
use native.Mathlib.Omega.{arith}
use lib.Dec.{T, eqb}
use lib.Count.{ones}
use lib.ListN.{length, get_or}
use Rattle.protocol.specs.Bytes.{Bytes}
use Rattle.protocol.specs.Tests.{count_below}
use Rattle.protocol.specs.Index.{bit, stored, set_bits}
use Rattle.protocol.specs.Reader.{Reader, capacity, locked}
use Rattle.protocol.specs.Commands.{templete_num, barred, command}
use Rattle.protocol.specs.Data.{acknowledge}
use Rattle.protocol.specs.Step.{order, hear, rested}
use Rattle.protocol.specs.Call.{core, Shape, Lent, fit_lent, call_of}
use Rattle.protocol.specs.Services.{count_service}
use Rattle.protocol.proofs.Laws.Count.{below_capacity, ones_set, eight, set_ones}
use Rattle.protocol.proofs.Laws.Legal.{Good, good_of}
use Rattle.protocol.proofs.Laws.Answers.{spared}
use Rattle.protocol.proofs.Promises.Words.Told.{Gives, word}
use Rattle.protocol.proofs.Promises.Refusals.StaysLegal.{Legal}
use Rattle.protocol.proofs.Promises.Commands.Settings.{tells_number}

-- the ones of a byte: its bits of weight 1, 2, 4, ... 128
pub byte_ones : (b : ℕ) → b < 256 → ones b ≡ b % 2 + b / 2 % 2 + b / 4 % 2 + b / 8 % 2 + b / 16 % 2 + b / 32 % 2 + b / 64 % 2 + b / 128 % 2
byte_ones b h = ones_set 8 b h ∙ eight b

-- those of all index bytes, added
abbrev pub ones_of : List ℕ → ℕ
ones_of x = foldr (λ b n. ones b + n) 0 x

-- the pages below c that are stored: page p's bit is that of weight 2^(p mod 8) in byte p / 8
abbrev pub pages_set : List ℕ → ℕ → ℕ
pages_set x c = count_below (λ p. eqb (get_or x (p / 8) 0 / 2 ^ (p % 8) % 2) 1) c

-- the ones are as many as the pages that the index has bits for and that are stored
pub ones_added : (x : List ℕ) → Bytes x → ones_of x ≡ pages_set x (8 * length x)
unfolding set_bits stored bit
ones_added x h = sym (set_ones x h)

module _ (σ : Shape) (ok : σ.most ≤ 8 * σ.indexed) (r : Reader) (f : Legal σ ok r) where
  -- those of a legal reader are as many as its stored pages below C
  pub ones_pages : ones_of r.guarded.index ≡ pages_set r.guarded.index (length r.guarded.templates / 512)
  unfolding stored bit capacity
  ones_pages =
      let k : Good σ ok r = good_of σ ok r f.typed f.legal in
      sym (set_ones r.guarded.index f.typed.index) ∙ below_capacity r.guarded.index (capacity r.guarded) (omega (arith, ok, k.shelf.high, k.shelf.wide)) k.clear

  -- TempleteNum tells that number
  pub ones_told : (s : List ℕ) (lent : Lent) → T (fit_lent (capacity r.guarded) lent) → locked r.plain ≡ false → hear r.plain.address s ≡ order (command (barred templete_num))
      → Gives (acknowledge r.plain.address 0x00 (word (ones_of r.guarded.index))) (rested r) s lent (call_of σ r s lent)
  ones_told s lent u l h =
      let same = ap₂ (λ (a : List ℕ) (n : ℕ). acknowledge a 0x00 (word n)) (spared r).address (ap set_bits (spared r).index ∙ set_ones r.guarded.index f.typed.index) in
      subst (λ (x : List ℕ). Gives x (rested r) s lent (call_of σ r s lent)) same (tells_number σ r s lent f.legal u l h)

-- and the service for C gives it for 128 bytes
pub ones_served : (x : List ℕ) → length x ≡ 128 → Bytes x → count_service x ≡ ones_of x
unfolding count_service core
ones_served x e h = rw e (set_ones x h)
