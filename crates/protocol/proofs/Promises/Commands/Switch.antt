-- Document 01: "Line switch: verified mark and filled marks cleared, transfer closed, both buffers zeroed." Request [7]: it makes both origins none. Request [8]: it clears
-- status bit 1.
-- Whatever the settings were.
use mathlib.Core.Bool.{true, false}
use mathlib.Core.Path.{◌≡◌, refl}
use mathlib.Core.List.{[]}
use lib.Dec.{T}
use lib.ListN.{length, replicate}
use Rattle.protocol.specs.Tests.{verdict}
use Rattle.protocol.specs.Reader.{closed, no_origin, Reader, keyed, locked, emptied, with_mark, with_transfer}
use Rattle.protocol.specs.Step.{wiped, switched}
use Rattle.protocol.specs.Call.{fit_buffers, Ended, switch_refusal, switch_as, switch_of}
use Rattle.protocol.proofs.Laws.Logic.{and_i}

pub record Wiped (r : Reader) (e : Ended) : Type 0 where
  pub told : e.told ≡ record { refusal = 0; used = 0; length = 0; room = [] }
  pub verified : e.after.plain.verified ≡ false
  pub transfer : e.after.plain.transfer ≡ closed
  pub filled1 : e.after.guarded.buffer1.filled ≡ false
  pub filled2 : e.after.guarded.buffer2.filled ≡ false
  pub origin1 : e.after.guarded.buffer1.origin ≡ no_origin
  pub origin2 : e.after.guarded.buffer2.origin ≡ no_origin
  pub buffer1 : e.after.guarded.buffer1.bytes ≡ replicate 512 0
  pub buffer2 : e.after.guarded.buffer2.bytes ≡ replicate 512 0
  pub found : e.after.guarded.found ≡ false
  -- the rest stays
  pub templates : e.after.guarded.templates ≡ r.guarded.templates
  pub index : e.after.guarded.index ≡ r.guarded.index
  pub notepad : e.after.guarded.notepad ≡ r.guarded.notepad
  pub password : e.after.plain.password ≡ r.plain.password
  pub address : e.after.plain.address ≡ r.plain.address
  pub level : e.after.plain.level ≡ r.plain.level
  pub size : e.after.plain.size ≡ r.plain.size
  pub baud : e.after.plain.baud ≡ r.plain.baud
  pub sensor : e.after.plain.sensor ≡ r.plain.sensor
  -- so a reader with a password is locked
  pub locks : T (keyed r.plain) → T (locked e.after.plain)

pub switch_wipes : (r : Reader) → length r.guarded.buffer1.bytes ≡ 512 → length r.guarded.buffer2.bytes ≡ 512 → Wiped r (switch_of r)
unfolding fit_buffers switch_of switch_as switch_refusal verdict switched wiped emptied with_mark with_transfer locked keyed
switch_wipes r b c =
    rw (b, c)
    record {
      told = refl;
      verified = refl;
      transfer = refl;
      filled1 = refl;
      filled2 = refl;
      origin1 = refl;
      origin2 = refl;
      buffer1 = refl;
      buffer2 = refl;
      found = refl;
      templates = refl;
      index = refl;
      notepad = refl;
      password = refl;
      address = refl;
      level = refl;
      size = refl;
      baud = refl;
      sensor = refl;
      locks = λ k. and_i (keyed r.plain) true k tt;
    }
