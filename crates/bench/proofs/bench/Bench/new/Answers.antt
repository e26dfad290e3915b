-- Fresh settings and an empty receiver, over zeroed memory, are the line that the program starts with.
use Rattle.std.proofs.Common.{rules, ◌≡◌, refl, List, [], ℕ}
use Rattle.protocol.specs.declared.Settings.{Settings}
use Rattle.protocol.specs.declared.Receiver.{Receiver}
use Rattle.protocol.specs.Reader.{emptied, zeroed}
use Rattle.protocol.specs.Receiver.{holding, line}
use Rattle.protocol.specs.Records.{origin_of, reader_of, fresh_of}
use Rattle.dialogues.specs.Bench.{started}
use Rattle.bench.specs.Start.{Zeroed}
use Rattle.bench.proofs.bench.Bench.new.Goals as goal

starts : (s : Settings) (h : Receiver) (t i n b d : List ℕ) → Zeroed t i n b d → ((t i n b d : List ℕ) → reader_of s t i n b d ≡ fresh_of t i n b d) → h ≡ holding []
    → line (reader_of s t i n b d) h ≡ started
unfolding started zeroed emptied origin_of
starts s h t i n b d z f e = rw (f t i n b d, e, z.pages, z.bits, z.notes, z.one, z.two) refl

pub returns-clause-started : goal.returns-clause-started
returns-clause-started c =
    starts _ _ _ _ _ _ _ (search rules) c.fresh.ensures c.empty.ensures
