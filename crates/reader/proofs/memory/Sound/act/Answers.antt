-- Steps 5 to 7: identifier 1 ends an open transfer and commands, 7 says nothing, and 2 and 8 bring data.
use mathlib.Core.Path.{◌≡◌, ap, ap₂, ◌∙◌}
use mathlib.Core.Bool.{Bool}
use mathlib.Core.List.{List}
use Prim.Native.Nat.{ℕ}
use lib.Dec.{eqb}
use borrow.Author.Tests.{eq-eqb, ne_eqb}
use Rattle.protocol.specs.Numbers.{command_packet, acknowledge_packet, last_packet}
use Rattle.protocol.specs.Reader.{Reader}
use Rattle.protocol.specs.Search.{Chip}
use Rattle.protocol.specs.Commands.{order_of}
use Rattle.protocol.specs.Step.{Said, silence, heed, take_in, rested, hear_as, answer}
use Rattle.reader.specs.Memory.{reader_in, chip_at}
use Rattle.reader.proofs.memory.Sound.act.Goals as goal

-- each return as a law: what was said, and the identifier that led there
module _ (χ : Chip) (r : Reader) (k : ℕ) (right : Bool) (x : List ℕ) where
  commands : (said : Said) (ψ : Chip) (q : Reader) → k ≡ command_packet → said ≡ heed ψ q (order_of right x) → ψ ≡ χ → q ≡ rested r → said ≡ answer χ r (hear_as k right x)
  unfolding answer hear_as
  commands said ψ q e f h g = rw (eq-eqb k command_packet e) (f ∙ ap₂ (λ (ψ : Chip) (q : Reader). heed ψ q (order_of right x)) h g)

  module _ (n : k ≡ command_packet → ⊥) where
    says_nothing : k ≡ acknowledge_packet → silence r ≡ answer χ r (hear_as k right x)
    unfolding answer hear_as
    says_nothing e = rw (ne_eqb k command_packet n, eq-eqb k acknowledge_packet e)

    brings : (said : Said) → (k ≡ acknowledge_packet → ⊥) → said ≡ take_in r (eqb k last_packet) right x r.plain.transfer → said ≡ answer χ r (hear_as k right x)
    unfolding answer hear_as
    brings said w f = rw (ne_eqb k command_packet n, ne_eqb k acknowledge_packet w) f

pub returns-in-Ok-clause-acted : goal.returns-in-Ok-clause-acted
returns-in-Ok-clause-acted c =
    let s = c.args.self.now in
    let q = c.end_transfer.new.self in
    commands (chip_at s.chip) (reader_in s) c.args.identifier c.args.right c.args.content.now _ (chip_at q.chip) (reader_in q) c.if-identifier.true c.in-Ok.ensures.heeded (ap chip_at c.end_transfer.ensures.kept.chip) c.end_transfer.ensures.rested

pub returns-in-Err-clause-acted : goal.returns-in-Err-clause-acted
returns-in-Err-clause-acted c =
    let s = c.args.self.now in
    let q = c.end_transfer.new.self in
    commands (chip_at s.chip) (reader_in s) c.args.identifier c.args.right c.args.content.now _ (chip_at q.chip) (reader_in q) c.if-identifier.true c.in-Err.ensures.heeded (ap chip_at c.end_transfer.ensures.kept.chip) c.end_transfer.ensures.rested

pub returns-then-identifier-2-clause-acted : goal.returns-then-identifier-2-clause-acted
unfolding silence
returns-then-identifier-2-clause-acted c =
    let s = c.args.self.now in
    says_nothing (chip_at s.chip) (reader_in s) c.args.identifier c.args.right c.args.content.now c.if-identifier.false c.if-identifier-2.true

pub returns-clause-acted : goal.returns-clause-acted
returns-clause-acted c =
    let s = c.args.self.now in
    brings (chip_at s.chip) (reader_in s) c.args.identifier c.args.right c.args.content.now c.if-identifier.false _ c.if-identifier-2.false c.take_part.ensures.taken
