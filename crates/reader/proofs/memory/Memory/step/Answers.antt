-- The refusals stand in document 01's order; what passes them is a legal reader, which hears a whole packet or uses up bytes in silence.
use mathlib.Core.Path.{◌≡◌, refl, sym, ◌∙◌}
use mathlib.Core.Bool.{Bool, true, false, ◌&&◌}
use mathlib.Core.List.{List}
use Prim.Native.Nat.{ℕ, ◌+◌, ◌/◌, ◌%◌, ◌<◌, ◌≤◌}
use lib.ListN.{length}
use borrow.Author.Rules.{rules}
use Rattle.protocol.specs.declared.Found.{Found}
use Rattle.protocol.specs.declared.Found.TheVariants.{Whole}
use Rattle.protocol.specs.Numbers.{page_bytes, reply_room, head_bytes}
use Rattle.protocol.specs.Finder.{find_of, used_of}
use Rattle.protocol.specs.Reader as readers
use Rattle.protocol.specs.Step.{hear_at, answer, step_of}
use Rattle.protocol.specs.Call.{shaped, fit_lengths, fit_chip, sound, refused, Ended, carried, call_of}
use Rattle.rules.specs.Settings.{sound_of}
use Rattle.rules.proofs.Transfers.{sound_legal}
use Rattle.reader.specs.declared.memory.Chip.{Chip}
use Rattle.protocol.specs.declared.Lengths.{Lengths}
use Rattle.protocol.specs.declared.Settings.{Settings}
use Rattle.protocol.specs.Records.{ended_of, called_at, answered_of}
use Rattle.std.specs.Prelude.{Ok}
use Rattle.reader.specs.declared.memory.Memory.{Memory}
use Rattle.reader.specs.declared.memory.Sound.{Sound}
use Rattle.reader.specs.Memory.{reader_at, reader_in, chip_at}
use Rattle.reader.specs.Calls.{memory_fits, lent_at, heard_at, carried_of}
use Rattle.reader.proofs.Calls.{unheard, step_silent, step_whole, whole_lies, lengths_are, few_pages, all_scored, whole_pages, index_long, first_long, second_long, legal_passed, call_bad_length, call_bad_room, call_bad_setting, call_goes}
use Rattle.reader.proofs.memory.Memory.step.Goals as goal

-- what lies behind the references that a heard packet leaves
left_as : (n : Lengths) (s : Settings) (t i m b d : List ℕ) (q : Sound) (y : List ℕ) → s ≡ q.settings.now → t ≡ q.templates.now → i ≡ q.index.now → m ≡ q.notepad.now
    → b ≡ q.buffer1.now → d ≡ q.buffer2.now → ended_of (called_at s (answered_of (Ok n))) t i m b d y ≡ heard_at n (reader_in q) y
left_as n s t i m b d q y e f g h k l = rw (e, f, g, h, k, l) refl

-- each return as a law: the tests that led there
module _ (v : ℕ) (s : Settings) (m : Memory) (c : Chip) (x y : List ℕ) where
  abbrev r : readers.Reader
  r = reader_at s m

  are : (z : Bool) → memory_fits v m c ≡ z → (fit_lengths (shaped v) r.guarded && fit_chip (readers.capacity r.guarded) (chip_at c)) ≡ z
  are z e = lengths_are v r.guarded (chip_at c) ∙ e

  bad_length_lem : memory_fits v m c ≡ false → refused 1 r y ≡ call_of (shaped v) r x (lent_at c y)
  bad_length_lem f = call_bad_length v r (chip_at c) x y (are false f)

  module _ (f : memory_fits v m c ≡ true) where
    bad_room : length y < reply_room → refused 2 r y ≡ call_of (shaped v) r x (lent_at c y)
    bad_room k = call_bad_room v r (chip_at c) x y (are true f) k

    module _ (n : reply_room ≤ length y) where
      abbrev is_sound : Bool
      is_sound = sound_of (length m.templates.now / page_bytes) m.index.now s

      legal_is : is_sound ≡ sound r
      legal_is = sym (sound_legal s m.templates.now m.index.now m.notepad.now m.buffer1.now m.buffer2.now)

      bad_setting_lem : is_sound ≡ false → refused 3 r y ≡ call_of (shaped v) r x (lent_at c y)
      bad_setting_lem g = call_bad_setting v r (chip_at c) x y (are true f) n (sym legal_is ∙ g)

      module _ (g : is_sound ≡ true) (o : Found) (w : o ≡ find_of x) where
        goes : carried (step_of (chip_at c) r x) y ≡ call_of (shaped v) r x (lent_at c y)
        goes = call_goes v r (chip_at c) x y (are true f) n (sym legal_is ∙ g)

        silent : (u : ℕ) → u ≡ used_of o % 18446744073709551616 → ((at len : ℕ) → o ≡ Whole at len → ⊥) → length x < 18446744073709551616
            → record { told = record { refusal = 0; used = u; length = 0; room = y }; after = r } ≡ call_of (shaped v) r x (lent_at c y)
        silent u e q z = rw e (step_silent (chip_at c) r x y o w z (unheard s.address x o q) ∙ goes)

        heard : (e : Ended) (at len : ℕ) → o ≡ Whole at len → e ≡ carried_of (at + head_bytes + len) (answer (chip_at c) r (hear_at s.address x (Whole at len))) y
            → e ≡ call_of (shaped v) r x (lent_at c y)
        heard e at len q k = k ∙ step_whole (chip_at c) r x y at len (sym w ∙ q) ∙ goes

pub returns-then-not-has_fit_lengths : goal.returns-then-not-has_fit_lengths
unfolding refused
returns-then-not-has_fit_lengths c =
    let a = c.args in
    bad_length_lem a.noted a.settings a.self a.chip a.run.now a.reply.now (sym c.if-not-has_fit_lengths.ensures)

pub returns-then-reply-lt-REPLY_ROOM : goal.returns-then-reply-lt-REPLY_ROOM
unfolding refused
returns-then-reply-lt-REPLY_ROOM c =
    let a = c.args in
    bad_room a.noted a.settings a.self a.chip a.run.now a.reply.now (sym c.if-not-has_fit_lengths.ensures) c.if-reply-lt-REPLY_ROOM.true

pub is_sound-requires : goal.is_sound-requires
is_sound-requires c = few_pages _ _ _ _ _ _ _ _ (sym c.if-not-has_fit_lengths.ensures)

pub returns-then-not-is_sound : goal.returns-then-not-is_sound
unfolding refused
returns-then-not-is_sound c =
    let a = c.args in
    bad_setting_lem a.noted a.settings a.self a.chip a.run.now a.reply.now (sym c.if-not-has_fit_lengths.ensures) c.if-reply-lt-REPLY_ROOM.false (sym c.if-not-is_sound.ensures)

pub returns-in_default : goal.returns-in_default
returns-in_default c =
    let a = c.args in
    let z : length a.run.now < 18446744073709551616 = search rules in
    silent a.noted a.settings a.self a.chip a.run.now a.reply.now (sym c.if-not-has_fit_lengths.ensures) c.if-reply-lt-REPLY_ROOM.false (sym c.if-not-is_sound.ensures) _ c.find-found.ensures _ c.used_of-used.ensures c.in_default.not-Whole z

pub invariant_of-sound : goal.invariant_of-sound
invariant_of-sound c =
    let f = sym c.if-not-has_fit_lengths.ensures in
    let g = sym c.if-not-is_sound.ensures in
    search (whole_pages, few_pages, index_long, first_long, second_long, all_scored, legal_passed)

pub hear_packet-lengths-requires-clause-whole : goal.hear_packet-lengths-requires-clause-whole
hear_packet-lengths-requires-clause-whole c = whole_lies _ _ _ (sym c.find-found.ensures ∙ c.in-Whole.is)

pub returns : goal.returns
returns c =
    let a = c.args in
    let k = c.hear_packet-lengths.ensures.kept in
    left_as c.hear_packet-lengths.result _ _ _ _ _ _ c.hear_packet-lengths.new.self c.hear_packet-lengths.new.reply (search rules) (search rules) (search rules) (search rules) (search rules) (search rules)
    ∙ heard a.noted a.settings a.self a.chip a.run.now a.reply.now (sym c.if-not-has_fit_lengths.ensures) c.if-reply-lt-REPLY_ROOM.false (sym c.if-not-is_sound.ensures) _ c.find-found.ensures _ _ _ c.in-Whole.is c.hear_packet-lengths.ensures.heard
