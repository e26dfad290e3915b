-- What a call's functions need and return.
use Rattle.std.specs.Prelude.{Bool, ◌&&◌, List, ℕ, ◌+◌, ◌/◌, ◌≤◌, length, Result}
use Rattle.std.specs.Borrow.{MutBor}
use Rattle.protocol.specs.declared.Settings.{Settings}
use Rattle.protocol.specs.declared.Lengths.{Lengths}
use Rattle.protocol.specs.declared.refusals.Refusal.{Refusal}
use Rattle.protocol.specs.Numbers.{page_bytes, head_bytes, shortest}
use Rattle.protocol.specs.Reader as readers
use Rattle.protocol.specs.Step.{Said}
use Rattle.protocol.specs.Call.{shaped, library_fits, buffers_fit, chip_fits, Lent, Ended, carried}
use Rattle.protocol.specs.Records.{ended_of, called_at, answered_of}
use Rattle.reader.specs.declared.memory.Chip.{Chip}
use Rattle.reader.specs.declared.memory.Memory.{Memory}
use Rattle.reader.specs.Memory.{chip_at}

-- a whole packet at p, with length field n, lies within its run
pub record Lies (s : List ℕ) (p n : ℕ) : Type 0 where
  pub inside : p + head_bytes + n ≤ length s
  pub low : shortest ≤ n
  pub high : n ≤ 65535

-- the lent lengths (refusal 1), with the notepad's as it must be first: templates, index, notepad, both buffers, scores and thresholds
unfoldable pub lengths_fit : ℕ → ℕ → ℕ → ℕ → ℕ → ℕ → ℕ → ℕ → Bool
lengths_fit noted t i n b c scores thresholds = (library_fits (shaped noted) (t / page_bytes) t i n && buffers_fit b c) && chip_fits (t / page_bytes) scores thresholds

-- those of a memory and its chip
abbrev pub memory_fits : ℕ → Memory → Chip → Bool
memory_fits noted r x =
    lengths_fit noted (length r.templates.now) (length r.index.now) (length r.notepad.now) (length r.buffer1.now) (length r.buffer2.now) (length x.scores.now) (length x.thresholds.now)

-- an answer carried into the reply room, with the bytes used
abbrev pub carried_of : ℕ → Said → List ℕ → Ended
carried_of used a room = carried record { used = used; reply = a.reply; after = a.after } room

-- what is lent anew at a call
abbrev pub lent_at : Chip → List ℕ → Lent
lent_at x room = record { chip = chip_at x; room = room }

-- what a call left behind the memory's references
abbrev pub Left : Type 0
Left = MutBor (List ℕ) × (MutBor (List ℕ) × (MutBor (List ℕ) × (MutBor (List ℕ) × (MutBor (List ℕ) × Unit {0}))))

-- the settings after a call and its outcome, the memory, and the reply room
abbrev pub ended_at : Settings → Result Lengths Refusal → Left → List ℕ → Ended
ended_at s o x room = ended_of (called_at s (answered_of o)) x.0.now x.1.0.now x.1.1.0.now x.1.1.1.0.now x.1.1.1.1.0.now room

-- a packet that was heard: the bytes used and the reply's length, and the reader and the reply room after it
abbrev pub heard_at : Lengths → readers.Reader → List ℕ → Ended
heard_at n r room = record { told = record { refusal = 0; used = n.used; length = n.reply; room = room }; after = r }
