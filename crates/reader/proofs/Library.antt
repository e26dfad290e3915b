-- The library's pages in the reader: a buffer stored on a page.
use mathlib.Core.Path.{◌≡◌, ap, ◌∙◌}
use mathlib.Core.Bool.{true, cond}
use mathlib.Core.List.{List}
use Prim.Native.Nat.{ℕ, ◌*◌, ◌<◌}
use lib.Dec.{eqb}
use Rattle.protocol.specs.declared.Settings.{Settings}
use Rattle.protocol.specs.Numbers.{page_bytes, no_page}
use Rattle.protocol.specs.Bytes.{lay}
use Rattle.protocol.specs.Index.{set_bit}
use Rattle.protocol.specs.Reader.{Guarded, buffer_of, stored_on, with_library, reader}
use Rattle.protocol.specs.Table.{fill_page, apply}
use Rattle.protocol.specs.Records.{is_set, plain_of, reader_of}
use Rattle.protocol.proofs.Laws.Marks.{fit_mark_lem}
use Rattle.rules.specs.Settings.{Legal}
use Rattle.reader.specs.Buffers.{chosen_of, with_held}
use Rattle.reader.proofs.Laws.{page_origin, chosen_filled, chosen_bytes}
use Rattle.reader.proofs.ByNumber.{beside_held, held}

-- the page has the buffer's bytes and its bit, the buffer has its mark and the page as its origin
pub stored_reader : (n p : ℕ) (s q : Settings) (t i m b c u j : List ℕ) → q ≡ with_held n 1 p s → Legal s → p < no_page → cond (eqb n 2) (is_set s.filled2) (is_set s.filled1) ≡ true
    → u ≡ lay (page_bytes * p) (chosen_of n b c) t → j ≡ set_bit i p → reader_of q u j m b c ≡ apply (fill_page (eqb n 2) p) (reader_of s t i m b c)
unfolding apply with_library stored_on buffer_of
stored_reader n p s q t i m b c u j e l h f x y =
    let w = rw (page_origin p h) at (held n 1 p s (lay (page_bytes * p) (chosen_of n b c) t) (set_bit i p) m b c) in
    let mark : (buffer_of (eqb n 2) (reader_of s t i m b c).guarded).filled ≡ true = chosen_filled (eqb n 2) _ _ ∙ f in
    rw (e, beside_held n 1 p s l (fit_mark_lem true), x, y, chosen_bytes, mark) (ap (λ (z : Guarded). reader (plain_of s) z) w)
