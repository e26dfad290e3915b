-- A number that is no parameter is 1Ah, a value out of its range 1Bh; otherwise the one parameter is set, and legal settings stay so.
use mathlib.Core.Path.{◌≡◌, refl, sym}
use mathlib.Core.Bool.{true}
use mathlib.Core.List.{List}
use Prim.Native.Nat.{ℕ}
use borrow.Author.Tests.{leb-true}
use Rattle.protocol.specs.declared.Settings.{Settings}
use Rattle.protocol.specs.declared.codes.Code.TheVariants.{BadParameter, BadValue}
use Rattle.protocol.specs.Numbers.{highest_size}
use Rattle.protocol.specs.Tests.{verdict}
use Rattle.protocol.specs.Reader.{reader, with_tuning}
use Rattle.protocol.specs.Table.{apply, rule, in_range, with_parameter}
use Rattle.protocol.specs.Records.{plain_of, reader_of}
use Rattle.rules.specs.Settings.{Legal}
use Rattle.reader.specs.declared.parameters.Parameter.{Parameter}
use Rattle.reader.specs.declared.parameters.Parameter.TheVariants.{Baud, Level, Size}
use Rattle.reader.specs.Parameters.{parameter_number, tuned}
use Rattle.reader.proofs.Rows.{is_err, refused, did_parts}
use Rattle.reader.proofs.Settled.{tuned_legal}
use Rattle.reader.proofs.memory.Sound.set_sys_para.Goals as goal

legal : (p : Parameter) (v : ℕ) (s q : Settings) → Legal s → true ≡ in_range (parameter_number p) v → q ≡ tuned p v s → Legal q
unfolding in_range highest_size
legal Baud v s q l h e = tuned_legal s q l v s.level s.size e l.size
legal Level v s q l h e = tuned_legal s q l s.baud v s.size e l.size
legal Size v s q l h e = tuned_legal s q l s.baud s.level v e (leb-true v 3 (sym h))

reader_tuned : (p : Parameter) (v : ℕ) (s : Settings) (t i m b c : List ℕ)
    → reader_of (tuned p v s) t i m b c ≡ reader (with_parameter (parameter_number p) v (plain_of s)) (reader_of s t i m b c).guarded
unfolding with_parameter with_tuning
reader_tuned Baud v s t i m b c = refl
reader_tuned Level v s t i m b c = refl
reader_tuned Size v s t i m b c = refl

pub returns-in_err-parameter-clause-obeyed : goal.returns-in_err-parameter-clause-obeyed
unfolding rule verdict
returns-in_err-parameter-clause-obeyed c =
    let f = c.in_err-parameter.ensures in
    rw (is_err c.from_residual.result c.in_err-parameter.field-0.0 c.from_residual.ensures.1, f.0)
    (refused c.args.self.now BadParameter _ _ refl (rw (f.1) refl))

pub returns-then-not-admits-clause-obeyed : goal.returns-then-not-admits-clause-obeyed
unfolding rule verdict
returns-then-not-admits-clause-obeyed c =
    let f = c.in_ok-parameter.ensures in
    let h = c.if-not-admits.ensures in
    refused c.args.self.now BadValue _ _ refl (rw (f.1, f.0, ← h) refl)

pub invariant_of-self : goal.invariant_of-self
invariant_of-self c = let h = c.if-not-admits.ensures in search legal

pub returns-clause-obeyed : goal.returns-clause-obeyed
unfolding rule verdict apply
returns-clause-obeyed c =
    let f = c.in_ok-parameter.ensures in
    let s = c.args.self.now in
    let e = reader_tuned c.in_ok-parameter.parameter c.args.value s.settings.now s.templates.now s.index.now s.notepad.now s.buffer1.now s.buffer2.now in
    did_parts s _ s.templates.now s.index.now s.notepad.now s.buffer1.now s.buffer2.now _ _ (rw (f.1, f.0, ← c.if-not-admits.ensures) refl)
    (rw (f.0, c.set-self.ensures) e)
