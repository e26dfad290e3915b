use Rattle.std.proofs.Common.{◌≡◌, ℕ, ◌+◌, ◌-◌, ◌/◌, ◌%◌, ◌^◌, ◌<◌, ◌≤◌, eqb, List, length, get_or, drop, take, ap, ◌∙◌, add-zero, arith, length-take, length-drop, w8, Fits}
use Rattle.std.proofs.lemmas.List.Edits.{get_or-between}
use lib.Bits.{bit_or}
use Rattle.protocol.specs.Bytes.{byte_at}
use Rattle.protocol.specs.Index.{clear_from}
use Rattle.library.proofs.Bits.{clear_to, clear_first, clear_next, clear_past}
use Rattle.library.proofs.index.is_clear_from.Goals as goal

module _ (x : List ℕ) (c : ℕ) (h : (i : ℕ) → Fits w8 (get_or x i 0)) where
  -- the bytes behind page c's
  abbrev rest : List ℕ
  rest = take (length x - (c / 8 + 1)) (drop (c / 8 + 1) x)

  first : eqb (byte_at x (c / 8) / 2 ^ (c % 8)) 0 ≡ clear_to x c (c / 8 + 1 + 0)
  first = rw add-zero (clear_first x c h)

  module _ (i f : ℕ) (e : eqb f 0 ≡ clear_to x c (c / 8 + 1 + i)) where
    next : i < length rest → eqb (bit_or f (byte_at rest i)) 0 ≡ clear_to x c (c / 8 + 1 + (i + 1))
    next l =
        let b : byte_at rest i ≡ byte_at x (c / 8 + 1 + i) = get_or-between x (c / 8 + 1) (length x) i 0 (omega (arith, length-take {A = ℕ}, length-drop {A = ℕ})) in
        let a : c / 8 + 1 + (i + 1) ≡ c / 8 + 1 + i + 1 = omega arith in
        rw (a, b) (clear_next x c (c / 8 + 1 + i) f h (omega arith) e)

    done : c / 8 < length x → i ≤ length rest → length rest ≤ i → eqb f 0 ≡ clear_from x c
    unfolding clear_from
    done k l m = let n : c / 8 + 1 + i ≡ length x = omega (arith, length-take {A = ℕ}, length-drop {A = ℕ}) in e ∙ ap (clear_to x c) n

pub loop-byte-init : goal.loop-byte-init
loop-byte-init c = search (first, c.type_inv.index)

pub loop-byte-preserved : goal.loop-byte-preserved
loop-byte-preserved c = search (next, c.type_inv.index)

pub returns-then-index-at : goal.returns-then-index-at
returns-then-index-at c = search clear_past

pub returns : goal.returns
returns c = search (done, c.type_inv.index)
