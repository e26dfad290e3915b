-- A packet with another's address is used up in silence; ours is acted on, and what is said goes into the reply room.
use mathlib.Core.Path.{◌≡◌, sym, ap, ◌∙◌}
use mathlib.Core.Bool.{Bool, true, false}
use mathlib.Core.List.{List}
use Prim.Native.Nat.{ℕ, ◌+◌, ◌-◌}
use lib.ListN.{length, take, drop}
use Rattle.protocol.specs.declared.Found.TheVariants.{Whole}
use Rattle.protocol.specs.Numbers.{head_bytes}
use Rattle.protocol.specs.Bytes.{same, lay}
use Rattle.protocol.specs.Packet.{address_at, identifier_at, right_at}
use Rattle.protocol.specs.Reader.{Reader}
use Rattle.protocol.specs.Search.{Chip}
use Rattle.protocol.specs.Step.{hear_as, hear_at, answer, Said}
use Rattle.protocol.specs.Call.{carried}
use Rattle.reader.specs.Memory.{reader_in, chip_at, said_of}
use Rattle.reader.specs.Calls.{carried_of}
use Rattle.reader.proofs.Calls.{hear_ours, hear_other, carried_silence}
use Rattle.reader.proofs.memory.Sound.hear_packet.Goals as goal

-- each return as a law: what was heard, and the test that led there
module _ (χ : Chip) (r : Reader) (x y : List ℕ) (at len : ℕ) where
  other : same (address_at x at) r.plain.address ≡ false
      → record { told = record { refusal = 0; used = at + head_bytes + len; length = 0; room = y }; after = r } ≡ carried_of (at + head_bytes + len) (answer χ r (hear_at r.plain.address x (Whole at len))) y
  other n = rw (hear_other r.plain.address x at len n) (sym (carried_silence χ (at + head_bytes + len) r y))

  answered : (a : Said) (n : ℕ) (y' : List ℕ) (right : Bool) → n ≡ length a.reply → y' ≡ lay 0 a.reply y → same (address_at x at) r.plain.address ≡ true → right ≡ right_at x at len
      → a ≡ answer χ r (hear_as (identifier_at x at) right (take (at + head_bytes + (len - 2) - (at + head_bytes)) (drop (at + head_bytes) x)))
      → record { told = record { refusal = 0; used = at + head_bytes + len; length = n; room = y' }; after = a.after } ≡ carried_of (at + head_bytes + len) (answer χ r (hear_at r.plain.address x (Whole at len))) y
  unfolding carried
  answered a n y' right w l o k f =
      rw (w, l) (ap (λ (z : Said). carried_of (at + head_bytes + len) z y) (f ∙ ap (answer χ r) (hear_ours r.plain.address x at len right o k)))

pub returns-then-not-is_ours-clause-heard : goal.returns-then-not-is_ours-clause-heard
returns-then-not-is_ours-clause-heard c =
    let s = c.args.self.now in
    other (chip_at s.chip) (reader_in s) c.args.run.now c.args.reply.now c.args.at c.args.len (sym c.if-not-is_ours.ensures)

pub returns-clause-heard : goal.returns-clause-heard
returns-clause-heard c =
    let s = c.args.self.now in
    let z = c.act-answer.new.self in
    let k = c.act-answer.ensures in
    let w = c.speak.ensures in
    answered (chip_at s.chip) (reader_in s) c.args.run.now c.args.reply.now c.args.at c.args.len (said_of c.act-answer.result z) _ _ _ w.length w.written (sym c.if-not-is_ours.ensures) c.is_right-right.ensures k.acted
