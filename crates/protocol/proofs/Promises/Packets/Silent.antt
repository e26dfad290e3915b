-- Step 5: "Address not ours: silent, nothing changes. Identifier 7: the same." Step 4 has the bytes used, p + 9 + length.
use mathlib.Core.Bool.{Bool, true, false, cond}
use mathlib.Core.Path.{◌≡◌, refl}
use mathlib.Core.Logic.{◌≢◌}
use mathlib.Core.List.{List, []}
use Prim.Native.Nat.{ℕ}
use lib.Dec.{T}
use Rattle.protocol.specs.declared.Found.TheVariants.{Whole}
use Rattle.protocol.specs.Bytes.{same}
use Rattle.protocol.specs.Packet.{address_at, identifier_at}
use Rattle.protocol.specs.Finder.{find_of}
use Rattle.protocol.specs.Reader.{Reader, capacity}
use Rattle.protocol.specs.Step.{Heard, nothing, hear_as, hear_at, hear, silence, answer}
use Rattle.protocol.specs.Call.{Shape, Lent, fit_lent, legal, call_of}
use Rattle.protocol.proofs.Laws.Lists.{same_no}
use Rattle.protocol.proofs.Promises.Words.Told.{Gives, answered}

either : (b : Bool) → cond {A = Heard} b nothing nothing ≡ nothing
either true = refl
either false = refl

module _ (σ : Shape) (r : Reader) (s : List ℕ) (lent : Lent) (f : T (legal σ r)) (u : T (fit_lent (capacity r.guarded) lent)) (p n : ℕ) (w : find_of s ≡ Whole p n) where
  -- silent, nothing changes
  abbrev pub Silence : Type 0
  Silence = Gives [] r s lent (call_of σ r s lent)

  unheard : hear r.plain.address s ≡ nothing → Silence
  unfolding answer silence
  unheard h = answered σ r s lent f u (silence r) (rw h refl)

  pub others_silent : address_at s p ≢ r.plain.address → Silence
  unfolding hear hear_at
  others_silent d = unheard (rw (w, same_no (address_at s p) r.plain.address d) refl)

  pub acknowledges_silent : identifier_at s p ≡ 7 → Silence
  unfolding hear hear_at hear_as
  acknowledges_silent e = unheard (rw (w, e) (either (same (address_at s p) r.plain.address)))
