-- A buffer of another length is refused with nothing changed; otherwise both are zeroed, the marks cleared, the origins none and the transfer closed.
use mathlib.Core.Path.{◌≡◌}
use mathlib.Core.List.{List}
use Prim.Native.Nat.{ℕ}
use lib.ListN.{length}
use borrow.Author.Rules.{rules}
use borrow.Author.Tests.{eq-eqb, ne_eqb}
use Rattle.protocol.specs.declared.Settings.{Settings}
use Rattle.protocol.specs.Numbers.{page_bytes, bad_length}
use Rattle.protocol.specs.Bytes.{zeros}
use Rattle.protocol.specs.Tests.{verdict}
use Rattle.protocol.specs.Reader as reader
use Rattle.protocol.specs.Table.{is_buffer}
use Rattle.protocol.specs.Step as step
use Rattle.protocol.specs.Call.{switch_of, switch_as, switch_refusal, refused, fit_buffers}
use Rattle.protocol.specs.Records.{fit_mark, fit_marks, transfer_of, origin_of, reader_of, switched_of, switched_at}
use Rattle.rules.specs.Settings.{with_switch}
use Rattle.reader.proofs.call.line_switch.Goals as goal

-- each return as a law: what was returned, and the lengths that led there
module _ (s : Settings) (t i n b d : List ℕ) where
  first : (length b ≡ page_bytes → ⊥) → switched_of (switched_at s bad_length) t i n b d ≡ switch_of (reader_of s t i n b d)
  unfolding switch_of switch_as switch_refusal verdict fit_buffers refused
  first f = rw (ne_eqb (length b) page_bytes f)

  module _ (f : length b ≡ page_bytes) where
    second : (length d ≡ page_bytes → ⊥) → switched_of (switched_at s bad_length) t i n b d ≡ switch_of (reader_of s t i n b d)
    unfolding switch_of switch_as switch_refusal verdict fit_buffers refused
    second g = rw (eq-eqb (length b) page_bytes f, ne_eqb (length d) page_bytes g)

    wipes : (g : length d ≡ page_bytes) (u v : List ℕ) → u ≡ zeros (length b) → v ≡ zeros (length d) → (x : Settings) → x ≡ with_switch s
        → switched_of (switched_at x 0) t i n u v ≡ switch_of (reader_of s t i n b d)
    unfolding switch_of switch_as switch_refusal verdict fit_buffers step.switched step.wiped reader.emptied reader.with_mark reader.with_transfer fit_mark fit_marks is_buffer transfer_of origin_of
    wipes g u v a c x h = rw (h, a, c, f, g)

pub returns-then-buffer1-ne-PAGE : goal.returns-then-buffer1-ne-PAGE
returns-then-buffer1-ne-PAGE c = λ t i n. search first

pub returns-then-buffer2-ne-PAGE : goal.returns-then-buffer2-ne-PAGE
returns-then-buffer2-ne-PAGE c = λ t i n. search second

pub returns : goal.returns
returns c =
    let x = c.args in
    let a : c.fill.new.self ≡ zeros (length x.buffer1.now) = search rules in
    let d : c.fill-2.new.self ≡ zeros (length x.buffer2.now) = search rules in
    let h = c.switched.ensures in
    λ t i n. wipes x.settings t i n x.buffer1.now x.buffer2.now c.if-buffer1-ne-PAGE.false c.if-buffer2-ne-PAGE.false _ _ a d _ h
