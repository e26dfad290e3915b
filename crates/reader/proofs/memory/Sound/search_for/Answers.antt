-- Each test that fails stops with its code, in the row's order; otherwise the best page answers, and status bit 1 says whether there is one.
use mathlib.Core.Path.{◌≡◌, refl, ap, ◌∙◌}
use mathlib.Core.Bool.{true, false}
use mathlib.Core.List.{List}
use Prim.Native.Nat.{ℕ}
use mir.Val.{bool_byte}
use borrow.Author.Tests.{lt-ltb, le-ltb}
use Rattle.std.proofs.Common.{Option, Some, None}
use Rattle.std.specs.Option.{is_some}
use Rattle.protocol.specs.declared.Match as code
use Rattle.protocol.specs.declared.Settings.{Settings}
use Rattle.protocol.specs.declared.codes.Code.TheVariants.{BadPage, NothingThere}
use Rattle.protocol.specs.Tests.{Test, verdict}
use Rattle.protocol.specs.Bytes.{follow}
use Rattle.protocol.specs.Reader.{Reader, capacity, buffer_of, with_found}
use Rattle.protocol.specs.Search.{match_of, match_code, match_bytes}
use Rattle.protocol.specs.Search as searches
use Rattle.protocol.specs.Data.{acknowledge}
use Rattle.protocol.specs.Table.{finds, remember, apply, rule}
use Rattle.protocol.specs.Step.{carry, carry_as}
use Rattle.protocol.specs.Records.{fit_mark, reader_of}
use Rattle.protocol.proofs.Laws.Marks.{fit_mark_lem}
use Rattle.rules.specs.Settings.{Legal}
use Rattle.rules.specs.Settings as records
use Rattle.rules.proofs.Marks.{beside_found}
use Rattle.reader.specs.declared.answers.Answer.{Answer}
use Rattle.reader.specs.declared.answers.Answer.TheVariants.{Silence, Alone, Count, Match, Parameters, Page, Upload}
use Rattle.reader.specs.declared.memory.Sound.{Sound}
use Rattle.reader.specs.Memory.{reader_in}
use Rattle.reader.specs.Answers.{spoken_of}
use Rattle.reader.specs.Search.{AnswersMatch}
use Rattle.reader.proofs.Laws.{chosen_filled}
use Rattle.reader.proofs.Rows.{refused, nameless}
use Rattle.reader.proofs.Settled.{found_legal, truth_fit}
use Rattle.reader.proofs.memory.Sound.search_for.Goals as goal

-- a row whose tests pass, that finds something or nothing
module _ (x : Sound) (q : Settings) (t i m b c : List ℕ) (ts : List Test) (n : searches.Match) (v : verdict ts ≡ 0) (e : reader_of q t i m b c ≡ apply (remember n.found) (reader_in x)) where
  found : (a : Answer) → AnswersMatch a n → record { reply = spoken_of a q b c; after = reader_of q t i m b c } ≡ carry (reader_in x) (finds ts n)
  unfolding carry carry_as follow
  found (Match k w) f = rw (v, f.0, f.1) (ap (λ (r : Reader). record { reply = acknowledge r.plain.address (match_code n) (match_bytes n); after = r }) e)
  found Silence f = absurd f
  found (Alone k) f = absurd f
  found (Count w) f = absurd f
  found (Parameters w) f = absurd f
  found (Page w) f = absurd f
  found (Upload k) f = absurd f

-- status bit 1 says whether a page is found
remembered : (o : Option code.Match) (v : ℕ) (s q : Settings) (t i m b c : List ℕ) → q ≡ records.with_found v s → v ≡ bool_byte (is_some o) → Legal s
    → reader_of q t i m b c ≡ apply (remember (match_of o).found) (reader_of s t i m b c)
unfolding apply with_found
remembered (Some x) v s q t i m b c e f l = rw (e, f, beside_found s l 1 (fit_mark_lem true)) refl
remembered None v s q t i m b c e f l = rw (e, f, beside_found s l 0 (fit_mark_lem false)) refl

pub returns-in_err-buffer-clause-obeyed : goal.returns-in_err-buffer-clause-obeyed
unfolding rule
returns-in_err-buffer-clause-obeyed c =
    nameless c.args.self.now c.args.number c.from_residual.result c.in_err-buffer.field-0.0 _ _ c.from_residual.ensures.1 c.in_err-buffer.ensures refl

pub returns-then-self-from-clause-obeyed : goal.returns-then-self-from-clause-obeyed
unfolding rule verdict capacity
returns-then-self-from-clause-obeyed c =
    let s = c.args.self.now in
    let h = rw (c.from.ensures, s.scored) at c.if-self-from.true in
    refused s BadPage _ _ refl (rw (c.in_ok-buffer.ensures.1, le-ltb _ _ h) refl)

pub returns-then-not-is_filled-clause-obeyed : goal.returns-then-not-is_filled-clause-obeyed
unfolding rule verdict capacity buffer_of
returns-then-not-is_filled-clause-obeyed c =
    let s = c.args.self.now in
    let h = rw (c.from.ensures, s.scored) at c.if-self-from.false in
    refused s NothingThere _ _ refl
    (rw (c.in_ok-buffer.ensures.1, lt-ltb _ _ h, chosen_filled, c.in_ok-buffer.ensures.0, ← c.if-not-is_filled.ensures) refl)

pub invariant_of-self : goal.invariant_of-self
invariant_of-self c =
    let f : fit_mark c.from-2.result ≡ true = rw c.from-2.ensures (truth_fit c.is_some.result) in
    search found_legal

pub returns-clause-obeyed : goal.returns-clause-obeyed
unfolding rule verdict capacity buffer_of
returns-clause-obeyed c =
    let s = c.args.self.now in
    let h = rw (c.from.ensures, s.scored) at c.if-self-from.false in
    let a = rw (c.find-found.ensures) at c.answer_of.ensures in
    let f = c.from-2.ensures ∙ ap bool_byte c.is_some.ensures in
    let e = remembered c.find-found.result _ s.settings.now _ s.templates.now s.index.now s.notepad.now s.buffer1.now s.buffer2.now c.remembered-self.ensures f s.legal in
    found s _ s.templates.now s.index.now s.notepad.now s.buffer1.now s.buffer2.now _ _
    (rw (c.in_ok-buffer.ensures.1, lt-ltb _ _ h, chosen_filled, c.in_ok-buffer.ensures.0, ← c.if-not-is_filled.ensures) refl) (rw (c.find-found.ensures) at e) c.answer_of.result a
