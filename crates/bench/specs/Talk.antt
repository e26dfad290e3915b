-- What the program takes of its input, and writes: "packets come in by standard input, replies go out by standard output".
use Rattle.std.specs.Prelude.{List, ℕ, Option}
use Rattle.std.specs.Io.KnownBytes.{Appends, Consumes}
use Rattle.dialogues.specs.Bench.{started}
use Rattle.bench.specs.Offer.{replies}

-- where the bytes of input and output are known: i before and j after it, and o and p
pub record Talked (i j o p : Option (List ℕ)) : Type 0 where
  pub taken : List ℕ
  pub consumed : Consumes i j taken
  pub written : Appends o p (replies started taken)
