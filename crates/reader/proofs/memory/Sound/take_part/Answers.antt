-- With no transfer a data packet says nothing; in one, a packet that fits goes in, and one that does not ends it with 0Eh.
use mathlib.Core.Path.{◌≡◌, refl, sym, ap, ◌∙◌}
use mathlib.Core.Bool.{Bool}
use mathlib.Core.List.{List}
use Prim.Native.Nat.{ℕ}
use lib.Dec.{eqb}
use lib.ListN.{length}
use Rattle.protocol.specs.declared.Settings.{Settings}
use Rattle.protocol.specs.Numbers.{transfer_failed}
use Rattle.protocol.specs.Reader.{Reader}
use Rattle.protocol.specs.Step.{says, silence, fits, take_in}
use Rattle.protocol.specs.Records.{plain_of}
use Rattle.rules.specs.Settings.{Legal}
use Rattle.rules.specs.Transfer.{does_fit}
use Rattle.rules.proofs.Sizes.{fits_legal}
use Rattle.reader.specs.Memory.{reader_in}
use Rattle.reader.proofs.Transfers.{none_open, open_into, take_open, take_failed, part_facts}
use Rattle.reader.proofs.memory.Sound.take_part.Goals as goal

fits_is : (s : Settings) (l : Legal s) (last right : Bool) (x : List ℕ) (f : Bool) → f ≡ does_fit s right last (length x) → fits (plain_of s) s.got last right x ≡ f
fits_is s l last right x f e = sym (fits_legal s last right (length x) x f e l.size refl)

pub returns-in_default-clause-taken : goal.returns-in_default-clause-taken
unfolding silence take_in
returns-in_default-clause-taken c =
    let x = c.args.self.now in
    sym (ap (take_in (reader_in x) c.args.last c.args.right c.args.content.now) (none_open x.settings.now x.legal c.in_default.ensures.1))

pub returns-then-not-does_fit-clause-taken : goal.returns-then-not-does_fit-clause-taken
unfolding says
returns-then-not-does_fit-clause-taken c =
    let x = c.args.self.now in
    let s = x.settings.now in
    ap (λ (r : Reader). says r transfer_failed) c.end_transfer.ensures.rested
    ∙ sym (take_failed (reader_in x) c.args.last c.args.right c.args.content.now (eqb s.transfer 2) s.got (open_into s x.legal c.in-Ok.ensures.1) (fits_is s x.legal c.args.last c.args.right c.args.content.now _ c.if-not-does_fit.ensures))

pub place-requires : goal.place-requires
place-requires c =
    let s = c.args.self.now.settings.now in
    let f = part_facts (plain_of s) s.got c.args.last c.args.right c.args.content.now (fits_is s c.args.self.now.legal c.args.last c.args.right c.args.content.now _ c.if-not-does_fit.ensures) in
    record { opened = c.in-Ok.ensures.0; room = f.1; long = f.0 }

pub returns-clause-taken : goal.returns-clause-taken
returns-clause-taken c =
    let x = c.args.self.now in
    let s = x.settings.now in
    let p = rw (← c.in-Ok.ensures.0) at c.place.ensures.placed in
    p ∙ sym (take_open (reader_in x) c.args.last c.args.right c.args.content.now (eqb s.transfer 2) s.got (open_into s x.legal c.in-Ok.ensures.1) (fits_is s x.legal c.args.last c.args.right c.args.content.now _ c.if-not-does_fit.ensures))
