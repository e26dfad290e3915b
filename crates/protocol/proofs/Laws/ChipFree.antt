-- Scores and thresholds matter to a Search alone: two that are the same if a Search is heard give the same answer.
use mathlib.Core.Path.{◌≡◌, refl, ap}
use mathlib.Core.List.{List}
use Prim.Native.Nat.{ℕ}
use Rattle.protocol.specs.Reader.{Reader}
use Rattle.protocol.specs.Search.{Chip}
use Rattle.protocol.specs.Commands.{free, barred, Barred, search_for, store, load_char, up_char, down_char, delet_char, empty, set_sys_para, set_password, set_address, write_notepad, read_notepad, templete_num, read_index_table, damaged, unknown, misfit, command}
use Rattle.protocol.specs.Table.{rule}
use Rattle.protocol.specs.Step.{Heard, nothing, order, piece, hear, IsSearch, a_search, obey, heed, rested, answer, step_of}

module _ (χ ψ : Chip) (r : Reader) where
  row_chip_free : (c : Barred) → (IsSearch (order (command (barred c))) → χ ≡ ψ) → rule χ (rested r) c ≡ rule ψ (rested r) c
  unfolding rule
  row_chip_free (search_for b p n) d = ap (λ (κ : Chip). rule κ (rested r) (search_for b p n)) (d (a_search b p n))
  row_chip_free (store b p) d = refl
  row_chip_free (load_char b p) d = refl
  row_chip_free (up_char b) d = refl
  row_chip_free (down_char b) d = refl
  row_chip_free (delet_char p n) d = refl
  row_chip_free empty d = refl
  row_chip_free (set_sys_para k v) d = refl
  row_chip_free (set_password w) d = refl
  row_chip_free (set_address a) d = refl
  row_chip_free (write_notepad p b) d = refl
  row_chip_free (read_notepad p) d = refl
  row_chip_free templete_num d = refl
  row_chip_free (read_index_table p) d = refl

  pub chip_free : (h : Heard) → (IsSearch h → χ ≡ ψ) → answer χ r h ≡ answer ψ r h
  unfolding answer heed obey
  chip_free nothing d = refl
  chip_free (order damaged) d = refl
  chip_free (order unknown) d = refl
  chip_free (order misfit) d = refl
  chip_free (order (command (free c))) d = refl
  chip_free (order (command (barred c))) d = rw (row_chip_free c d) refl
  chip_free (piece last right content) d = refl

  pub step_chip_free : (s : List ℕ) → (IsSearch (hear r.plain.address s) → χ ≡ ψ) → step_of χ r s ≡ step_of ψ r s
  unfolding step_of
  step_chip_free s d = rw (chip_free (hear r.plain.address s) d) refl
