-- Sum, code, length, lock: the first that fails gives the code.
use mathlib.Core.Path.{◌≡◌, refl, sym, ◌∙◌}
use mathlib.Core.Bool.{Bool, true, false}
use Prim.Native.Nat.{ℕ}
use native.Mathlib.Omega.{arith}
use borrow.Author.Tests.{eq-eqb, ne_eqb}
use Rattle.std.specs.Prelude.{Ok, Err}
use Rattle.protocol.specs.declared.codes.Code.{Code}
use Rattle.protocol.specs.declared.codes.Code.TheVariants.{BadPacket, UnknownCommand, PasswordFirst}
use Rattle.protocol.specs.declared.command_codes.CommandCode.{CommandCode}
use Rattle.protocol.specs.Codes.{code_number, command_number}
use Rattle.protocol.specs.Reader.{Plain, locked}
use Rattle.protocol.specs.Commands.{none, commands, row_of}
use Rattle.rules.specs.Commands.{len_of, is_free, gate_of, Gated}
use Rattle.rules.proofs.Gates.{sized}
use Rattle.rules.proofs.commands.gate.Goals as goal

-- each return as a law: the tests that led there
module _ (right : Bool) (k n : ℕ) (p : Plain) where
  stops : (e : Code) → (code_number e ≡ 0 → ⊥) → gate_of right k n p ≡ code_number e → Gated right k n p (Err e)
  stops e z f = (sym f, λ o. z (sym f ∙ o))

  bad_sum : right ≡ false → Gated right k n p (Err BadPacket)
  unfolding gate_of
  bad_sum f = stops BadPacket (λ z. omega arith) (rw f refl)

  module _ (f : right ≡ true) where
    unknown : row_of commands k ≡ none → Gated right k n p (Err UnknownCommand)
    unfolding gate_of len_of
    unknown w = stops UnknownCommand (λ z. omega arith) (rw (f, w) refl)

    module _ (c : CommandCode) (m : ℕ) (e : (command_number c ≡ k) × (m ≡ len_of (row_of commands k))) where
      bad_length_lem : (m ≡ n → ⊥) → Gated right k n p (Err BadPacket)
      unfolding gate_of
      bad_length_lem l = stops BadPacket (λ z. omega arith) (rw (f, sized c k e.0, ← e.1, ne_eqb _ _ l) refl)

      module _ (l : m ≡ n) where
        goes_free : is_free k ≡ true → Gated right k n p (Ok c)
        unfolding gate_of
        goes_free u = (e.0, rw (f, sized c k e.0, ← e.1, eq-eqb _ _ l, u) refl)

        module _ (u : is_free k ≡ false) where
          stays : locked p ≡ true → Gated right k n p (Err PasswordFirst)
          unfolding gate_of
          stays w = stops PasswordFirst (λ z. omega arith) (rw (f, sized c k e.0, ← e.1, eq-eqb _ _ l, u, w) refl)

          goes : locked p ≡ false → Gated right k n p (Ok c)
          unfolding gate_of
          goes w = (e.0, rw (f, sized c k e.0, ← e.1, eq-eqb _ _ l, u, w) refl)

pub returns-then-not-right : goal.returns-then-not-right
returns-then-not-right c = search bad_sum

pub returns-in_default : goal.returns-in_default
returns-in_default c = search (unknown, c.in_default.ensures)

pub returns-then-need-n : goal.returns-then-need-n
returns-then-need-n c = let a = c.args in bad_length_lem a.right a.code a.n _ c.if-not-right.false c.in-Some.command c.in-Some.need c.in-Some.ensures c.if-need-n.true

pub returns-then-is_free : goal.returns-then-is_free
returns-then-is_free c = let a = c.args in goes_free a.right a.code a.n _ c.if-not-right.false c.in-Some.command c.in-Some.need c.in-Some.ensures c.if-need-n.false (sym c.if-is_free.ensures)

pub returns-then-is_locked : goal.returns-then-is_locked
returns-then-is_locked c = let a = c.args in stays a.right a.code a.n _ c.if-not-right.false c.in-Some.command c.in-Some.need c.in-Some.ensures c.if-need-n.false (sym c.if-is_free.ensures) (sym c.if-is_locked.ensures)

pub returns : goal.returns
returns c = let a = c.args in goes a.right a.code a.n _ c.if-not-right.false c.in-Some.command c.in-Some.need c.in-Some.ensures c.if-need-n.false (sym c.if-is_free.ensures) (sym c.if-is_locked.ensures)
