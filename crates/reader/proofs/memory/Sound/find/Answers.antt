-- The best of the library's pages is what Search finds.
use mathlib.Core.Path.{◌≡◌, refl}
use mathlib.Core.Bool.{true}
use mathlib.Core.List.{List}
use Prim.Native.Nat.{ℕ, ◌*◌, ◌/◌, ◌≤◌}
use native.Mathlib.Omega.{arith}
use lib.Dec.{leb}
use lib.ListN.{length}
use borrow.Author.Tests.{le-leb}
use Rattle.protocol.specs.declared.Settings.{Settings}
use Rattle.protocol.specs.Numbers.{page_bytes, most_pages, index_bytes}
use Rattle.protocol.specs.Reader.{capacity}
use Rattle.protocol.specs.Search.{Match, threshold_of, search_of}
use Rattle.protocol.specs.Records.{reader_of, chip_of}
use Rattle.library.specs.Search.{best_in}
use Rattle.reader.proofs.memory.Sound.find.Goals as goal

best_is : (s : Settings) (t i m b d c h : List ℕ) (p k z : ℕ) (x : Match) → x ≡ best_in i c z p k → z ≡ threshold_of h s.level
    → length i ≡ index_bytes → length c ≡ length t / page_bytes → length t / page_bytes ≤ most_pages → x ≡ search_of (chip_of c h) s.level (reader_of s t i m b d).guarded p k
unfolding best_in search_of capacity
best_is s t i m b d c h p k z x e f j l few =
    let one : leb (length c) most_pages ≡ true = le-leb (length c) most_pages (omega arith) in
    let two : leb (length c) (8 * length i) ≡ true = le-leb (length c) (8 * length i) (omega arith) in
    rw (e, f, one, two, l) refl

pub returns : goal.returns
returns c =
    let s = c.args.self.now in
    best_is s.settings.now s.templates.now s.index.now s.notepad.now s.buffer1.now s.buffer2.now s.chip.scores.now s.chip.thresholds.now c.args.start c.args.count _ _
    c.best.ensures c.threshold_of-threshold.ensures s.indexed s.scored s.few
