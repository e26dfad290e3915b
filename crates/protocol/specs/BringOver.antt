-- Bringing over an index that was stored before request [6]: "A stored 32-byte index is brought over by adding 96 zero bytes; the bits keep their places."
use Rattle.std.specs.Prelude.{List, [], ◌∷◌, ◌++◌, ℕ, zero, suc, eqb, length}
use Rattle.protocol.specs.Numbers.{index_bytes, old_index_bytes, added_bytes, bad_length}
use Rattle.protocol.specs.Bytes.{zeros}
use Rattle.protocol.specs.Tests.{verdict}

unfoldable pub brought_over : List ℕ → List ℕ
brought_over old = old ++ zeros added_bytes

-- what a caller gets back: the refusal or 0, and the index lent for it
pub record Brought : Type 0 where
  pub refusal : ℕ
  pub index : List ℕ

-- 1: a lent length
unfoldable pub bring_refusal : List ℕ → List ℕ → ℕ
bring_refusal old index = verdict ((eqb (length old) old_index_bytes, bad_length) ∷ (eqb (length index) index_bytes, bad_length) ∷ [])

unfoldable pub bring_as : List ℕ → List ℕ → ℕ → Brought
bring_as old index zero = record { refusal = 0; index = brought_over old }
bring_as old index (suc k) = record { refusal = suc k; index = index }

-- the old index, and the lent one that it goes to
unfoldable pub bring_over : List ℕ → List ℕ → Brought
bring_over old index = bring_as old index (bring_refusal old index)
