-- From what work between two calls returns, and the lent memory, table and report after it, to the outcomes of the definitions.
use Rattle.std.specs.Prelude.{List, ℕ}
use Rattle.protocol.specs.declared.Settings.{Settings}
use Rattle.protocol.specs.Records.{reader_of}
use Rattle.offline.specs.CloseGaps.{Closed}
use Rattle.offline.specs.Salvage.{Salvaged}
use Rattle.offline.specs.Compare.{Compared}

-- what closing the gaps leaves: the settings, and the refusal or 0
pub record Moved : Type 0 where
  pub settings : Settings
  pub refusal : ℕ

-- the templates, the index, the table; and notepad and buffers, of which none is lent
abbrev pub closed_of : Moved → List ℕ → List ℕ → List ℕ → List ℕ → List ℕ → List ℕ → Closed
closed_of m t i table n b d = record { refusal = m.refusal; table = table; after = reader_of m.settings t i n b d }

-- settings that lie where they were lent, and the refusal that was returned beside them
abbrev pub moved_at : Settings → ℕ → Moved
moved_at s refusal = record { settings = s; refusal = refusal }

-- of salvage: the refusal, the templates, the index, the report
abbrev pub salvaged_of : ℕ → List ℕ → List ℕ → List ℕ → Salvaged
salvaged_of refusal t i report = record { refusal = refusal; templates = t; index = i; report = report }

-- of a comparison: the refusal, the report
abbrev pub compared_of : ℕ → List ℕ → Compared
compared_of refusal report = record { refusal = refusal; report = report }
