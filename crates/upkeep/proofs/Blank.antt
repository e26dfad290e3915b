-- A page whose bytes are all zero, and such a page zeroed.
use mathlib.Core.Path.{◌≡◌, sym, ap, ◌∙◌}
use mathlib.Core.Bool.{Bool, false}
use mathlib.Core.List.{List, ◌++◌}
use Prim.Native.Nat.{ℕ, ◌+◌, ◌-◌, ◌*◌, ◌/◌, ◌<◌}
use native.Mathlib.Omega.{arith}
use lib.ListN.{length, take, drop, get_or, length-replicate, take-append-drop}
use lib.Seq.{drop-drop, get_or-take, get_or-drop}
use Rattle.protocol.specs.Bytes.{part, zeros, same, lay}
use Rattle.protocol.proofs.Laws.Lists.{same_no}
use Rattle.offline.specs.Salvage.{is_blank}

module _ (t : List ℕ) (p : ℕ) (l : p < length t / 512) where
  pub first_not_zero : (get_or t (512 * p) 0 ≡ 0 → ⊥) → false ≡ is_blank t p
  first_not_zero n =
      sym (same_no (part (512 * p) 512 t) (zeros 512)
      (λ e.
      let at : 512 * p + 0 ≡ 512 * p = omega arith in
      n (ap (λ (i : ℕ). get_or t i 0) (sym at) ∙ sym (get_or-take 512 (drop (512 * p) t) 0 0 (omega arith) ∙ get_or-drop (512 * p) t 0 0) ∙ ap (λ (s : List ℕ). get_or s 0 0) e)))

  pub all_blank : (r : Bool) → r ≡ same (take (512 * p + 512 - 512 * p) (drop (512 * p) t)) (zeros 512) → r ≡ is_blank t p
  all_blank r e =
      let n : 512 * p + 512 - 512 * p ≡ 512 = omega arith in
      e ∙ ap (λ (k : ℕ). same (take k (drop (512 * p) t)) (zeros 512)) n

-- zeros laid over zeros
pub lay_own : (i n : ℕ) (d : List ℕ) → part i n d ≡ zeros n → lay i (zeros n) d ≡ d
unfolding lay
lay_own i n d e =
    ap (λ (k : ℕ). take i d ++ (zeros n ++ drop (i + k) d)) (length-replicate n 0)
    ∙ ap (λ (z : List ℕ). take i d ++ (z ++ drop (i + n) d)) (sym e)
    ∙ ap (λ (z : List ℕ). take i d ++ (part i n d ++ z)) (sym (drop-drop n i d))
    ∙ ap (λ (z : List ℕ). take i d ++ z) (take-append-drop n (drop i d))
    ∙ take-append-drop i d
