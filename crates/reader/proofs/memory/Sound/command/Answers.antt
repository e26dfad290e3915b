-- What the gate stops is answered by its code alone; what it lets pass, by the row.
use mathlib.Core.Path.{◌≡◌, sym, ◌∙◌}
use mathlib.Core.Bool.{Bool}
use mathlib.Core.List.{List}
use Prim.Native.Nat.{ℕ}
use Rattle.protocol.specs.declared.codes.Code.{Code}
use Rattle.protocol.specs.Bytes.{byte_at}
use Rattle.protocol.specs.Codes.{code_number}
use Rattle.protocol.specs.Packet.{length_of}
use Rattle.protocol.specs.Reader.{Plain, Reader}
use Rattle.protocol.specs.Search.{Chip}
use Rattle.protocol.specs.Commands.{commands, row_of, order_of}
use Rattle.protocol.specs.Step.{Said, says, obey, heed}
use Rattle.rules.specs.Commands.{read_of, Admitted, gate_of}
use Rattle.rules.proofs.Gates.{gate_stops, gate_goes, gate_passes}
use Rattle.reader.specs.Memory.{reader_in, chip_at, said_of}
use Rattle.reader.specs.declared.memory.Sound.{Sound}
use Rattle.reader.specs.declared.answers.Answer.TheVariants.{Alone}
use Rattle.reader.proofs.Rows.{is_err}
use Rattle.reader.proofs.memory.Sound.command.Goals as goal

stops : (s : Sound) (x : List ℕ) (right : Bool) (e : Code) → code_number e ≡ gate_of right (byte_at x 0) (length_of x) (reader_in s).plain → (gate_of right (byte_at x 0) (length_of x) (reader_in s).plain ≡ 0 → ⊥)
    → said_of (Alone e) s ≡ heed (chip_at s.chip) (reader_in s) (order_of right x)
unfolding says
stops s x right e g z = rw g (sym (gate_stops (chip_at s.chip) (reader_in s) x right z))

-- what a passed gate says
passed : (right : Bool) (j k n : ℕ) (p : Plain) → j ≡ k → gate_of right k n p ≡ 0 → Admitted j n p
passed right j k n p e z = rw e (gate_passes right k n p z).admits

goes : (χ : Chip) (r : Reader) (x : List ℕ) (right : Bool) (j : ℕ) (said : Said) → said ≡ obey χ r (read_of (row_of commands j) x) → j ≡ byte_at x 0
    → gate_of right (byte_at x 0) (length_of x) r.plain ≡ 0 → said ≡ heed χ r (order_of right x)
goes χ r x right j said f e z =
    let p = gate_passes right (byte_at x 0) (length_of x) r.plain z in
    (rw e at f) ∙ sym (gate_goes χ r x right p.sum p.admits.long)

pub returns-in_err-command-clause-heeded : goal.returns-in_err-command-clause-heeded
returns-in_err-command-clause-heeded c =
    let f = c.in_err-command.ensures in
    rw (is_err c.from_residual.result c.in_err-command.field-0.0 c.from_residual.ensures.1) (stops c.args.self.now c.args.content.now c.args.right c.in_err-command.field-0.0 f.0 f.1)

pub obey-requires : goal.obey-requires
obey-requires c = let f = c.in_ok-command.ensures in passed c.args.right _ _ _ _ f.0 f.1

pub returns-clause-heeded : goal.returns-clause-heeded
returns-clause-heeded c =
    let s = c.args.self.now in
    let f = c.in_ok-command.ensures in
    goes (chip_at s.chip) (reader_in s) c.args.content.now c.args.right _ _ c.obey.ensures.obeyed f.0 f.1
