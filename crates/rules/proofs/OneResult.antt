-- The contracts of `gate` and `required` admit one result.
use mathlib.Core.Path.{◌≡◌, sym, ap, ◌∙◌, refl}
use mathlib.Core.Logic.{◌≢◌}
use mathlib.Core.Bool.{Bool, true≢false}
use Prim.Native.Nat.{ℕ}
use lib.Dec.{eqb}
use Rattle.std.specs.Prelude.{Option, None, Some, Result, Ok, Err}
use Rattle.protocol.specs.declared.codes.Code.{Code}
use Rattle.protocol.specs.declared.command_codes.CommandCode.{CommandCode}
use Rattle.protocol.specs.Codes.{command_number}
use Rattle.protocol.specs.Reader.{Plain}
use Rattle.protocol.specs.Commands.{commands, none, row_of}
use Rattle.protocol.proofs.Promises.Words.Variants.{one_command, one_code}
use Rattle.rules.specs.Commands.{len_of, Fixes, Gated}
use Rattle.rules.proofs.Gates.{sized}

-- the gate gives one command, or one code
pub one_gated : (right : Bool) (k n : ℕ) (p : Plain) (x y : Result CommandCode Code) → Gated right k n p x → Gated right k n p y → x ≡ y
one_gated right k n p (Ok c) (Ok d) a b = ap Ok (one_command c d (a.0 ∙ sym b.0))
one_gated right k n p (Ok c) (Err e) a b = absurd (b.1 a.1)
one_gated right k n p (Err e) (Ok d) a b = absurd (a.1 b.1)
one_gated right k n p (Err e) (Err f) a b = ap Err (one_code e f (a.0 ∙ sym b.0))

-- a code fixes one command with one length, or none
has_row : (c : CommandCode) (k : ℕ) → command_number c ≡ k → row_of commands k ≢ none
unfolding len_of
has_row c k e n = true≢false (sym (ap (λ w. eqb (len_of w) 0) n) ∙ sized c k e)

pub one_fixed : (k : ℕ) (x y : Option (CommandCode × ℕ)) → Fixes k x → Fixes k y → x ≡ y
one_fixed k (Some f) (Some g) a b = λ j. Some (one_command f.0 g.0 (a.0 ∙ sym b.0) j, (a.1 ∙ sym b.1) j)
one_fixed k (Some f) None a b = absurd (has_row f.0 k a.0 b)
one_fixed k None (Some g) a b = absurd (has_row g.0 k b.0 a)
one_fixed k None None a b = refl
