-- The verified mark says whether the four bytes are the password; legal settings stay so.
use mathlib.Core.Path.{◌≡◌, refl, sym, ◌∙◌}
use mathlib.Core.Bool.{true, false}
use Rattle.protocol.specs.Records.{fit_mark}
use Rattle.protocol.specs.Reader.{with_mark}
use Rattle.protocol.specs.Table.{free_rule, public_of}
use Rattle.protocol.specs.Step.{carry_free}
use Rattle.protocol.proofs.Laws.Marks.{fit_mark_lem}
use Rattle.rules.proofs.Marks.{beside_marked}
use Rattle.reader.proofs.Settled.{marked_legal, truth_fit}
use Rattle.reader.proofs.memory.Sound.verify_password.Goals as goal

pub invariant_of-self : goal.invariant_of-self
invariant_of-self c =
    let f : fit_mark c.from.result ≡ true = rw c.from.ensures (truth_fit c.is_same-right.result) in
    search marked_legal

pub returns-then-right-clause-freed : goal.returns-then-right-clause-freed
unfolding carry_free free_rule public_of with_mark
returns-then-right-clause-freed c =
    let s = c.args.self.now in
    rw (c.marked-self.ensures, c.from.ensures, c.if-right.true, beside_marked s.settings.now s.legal 1 (fit_mark_lem true), sym c.is_same-right.ensures ∙ c.if-right.true) refl

pub returns-else-right-clause-freed : goal.returns-else-right-clause-freed
unfolding carry_free free_rule public_of with_mark
returns-else-right-clause-freed c =
    let s = c.args.self.now in
    rw (c.marked-self.ensures, c.from.ensures, c.if-right.false, beside_marked s.settings.now s.legal 0 (fit_mark_lem false), sym c.is_same-right.ensures ∙ c.if-right.false) refl
