-- A command does what its code's row says: a free one by its free row, any other by its own, since the lock lets it pass.
use mathlib.Core.Path.{◌≡◌}
use mathlib.Core.Bool.{true, false, ◌||◌, not}
use mathlib.Core.List.{List}
use Prim.Native.Nat.{ℕ}
use Rattle.protocol.specs.declared.command_codes.CommandCode.{CommandCode}
use Rattle.protocol.specs.Codes.{command_number}
use Rattle.protocol.specs.Reader.{locked}
use Rattle.protocol.specs.Commands.{Free, Barred, free, barred, commands, row_of}
use Rattle.protocol.specs.Step.{Said, obey}
use Rattle.protocol.proofs.Laws.Logic.{not_true}
use Rattle.rules.specs.Commands.{read_of, is_free}
use Rattle.reader.specs.Memory.{reader_in, chip_at, obeyed, freed}
use Rattle.reader.specs.declared.memory.Sound.{Sound}

module _ (s : Sound) (x : List ℕ) (c : CommandCode) (j : ℕ) (e : command_number c ≡ j) where
  pub free_row : (said : Said) (f : Free) → said ≡ freed s f → read_of (row_of commands j) x ≡ free f → said ≡ obey (chip_at s.chip) (reader_in s) (read_of (row_of commands (command_number c)) x)
  unfolding obey
  free_row said f h q = rw (e, q) h

  pub barred_row : (said : Said) (k : Barred) → said ≡ obeyed s k → (is_free (command_number c) || not (locked (reader_in s).plain)) ≡ true → is_free j ≡ false → read_of (row_of commands j) x ≡ barred k
      → said ≡ obey (chip_at s.chip) (reader_in s) (read_of (row_of commands (command_number c)) x)
  unfolding obey
  barred_row said k h o f q = let l : not (locked (reader_in s).plain) ≡ true = rw (e, f) at o in rw (e, q, not_true (locked (reader_in s).plain) l) h
