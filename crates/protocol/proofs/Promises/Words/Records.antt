-- How the code's records and the lent memory are read: which field and which list is which part of the reader, of what a call, a line switch,
-- a receiver, the builder and bringing over tell, and of what they leave.
use mathlib.Core.Path.{◌≡◌, refl}
use mathlib.Core.List.{List, []}
use Prim.Native.Nat.{ℕ}
use lib.Dec.{eqb}
use Rattle.protocol.specs.declared.Settings.{Settings}
use Rattle.protocol.specs.declared.Answered.{Answered}
use Rattle.protocol.specs.declared.Line.{Line}
use Rattle.protocol.specs.declared.Taken.{Taken}
use Rattle.protocol.specs.Records.{Called, Switched, Received, Emptied, marks_of, transfer_of, origin_of, reader_of, line_of, lent_of, ended_of, switched_of, received_of, emptied_of, called_at, switched_at, received_at, emptied_at, Built, made_of, brought_of}

-- settings; templates, index, notepad, buffers 1 and 2. A mark is set where its byte is 1. `transfer_of` and `origin_of` are in Words
pub reader_is : (s : Settings) (t i n b d : List ℕ) → reader_of s t i n b d
    ≡ record {
      plain =
          record {
            password = s.password;
            address = s.address;
            level = s.level;
            size = s.size;
            baud = s.baud;
            sensor = s.sensor;
            verified = eqb s.verified 1;
            transfer = transfer_of (marks_of s) s.transfer s.got;
          };
      guarded = record { templates = t; index = i; notepad = n; buffer1 = record { bytes = b; filled = eqb s.filled1 1; origin = origin_of s.origin1 }; buffer2 = record { bytes = d; filled = eqb s.filled2 1; origin = origin_of s.origin2 }; found = eqb s.found 1 };
    }
reader_is s t i n b d = refl

-- a line: its settings, and its receiver as it lies
pub line_is : (x : Line) (t i n b d : List ℕ) → line_of x t i n b d ≡ record { reader = reader_of x.settings t i n b d; receiver = x.receiver }
line_is x t i n b d = refl

-- a call: what it returned, and the lent memory and the reply room after it
pub call_is : (c : Called) (t i n b d room : List ℕ) → ended_of c t i n b d room
    ≡ record { told = record { refusal = c.refusal; used = c.used; length = c.length; room = room }; after = reader_of c.settings t i n b d }
call_is c t i n b d room = refl

-- a line switch: no bytes used, no reply, no reply room
pub switch_is : (c : Switched) (t i n b d : List ℕ) → switched_of c t i n b d
    ≡ record { told = record { refusal = c.refusal; used = 0; length = 0; room = [] }; after = reader_of c.settings t i n b d }
switch_is c t i n b d = refl

-- a receiver's call: the bytes taken of the piece are told as used
pub receive_is : (c : Received) (t i n b d room : List ℕ) → received_of c t i n b d room
    ≡ record {
      told = record { refusal = c.refusal; used = c.taken; length = c.length; room = room };
      after = record { reader = reader_of c.line.settings t i n b d; receiver = c.line.receiver };
    }
receive_is c t i n b d room = refl

-- a receiver's line switch
pub emptied_is : (c : Emptied) (t i n b d : List ℕ) → emptied_of c t i n b d
    ≡ record { told = record { refusal = c.refusal; used = 0; length = 0; room = [] }; after = record { reader = reader_of c.line.settings t i n b d; receiver = c.line.receiver } }
emptied_is c t i n b d = refl

-- records that lie where they were lent, by the names of include/bystrodol.h: what a struct bystrodol_answer says, and a struct bystrodol_received
pub answer_is : (s : Settings) (a : Answered) → called_at s a ≡ record { settings = s; refusal = a.refusal; used = a.used; length = a.length }
answer_is s a = refl

pub switch_answer_is : (s : Settings) (refusal : ℕ) → switched_at s refusal ≡ record { settings = s; refusal = refusal }
switch_answer_is s refusal = refl

pub received_is : (x : Line) (a : Taken) → received_at x a ≡ record { line = x; refusal = a.refusal; taken = a.taken; length = a.length }
received_is x a = refl

pub empty_answer_is : (x : Line) (refusal : ℕ) → emptied_at x refusal ≡ record { line = x; refusal = refusal }
empty_answer_is x refusal = refl

-- what is lent anew: scores, thresholds, reply room
pub lent_is : (scores thresholds room : List ℕ) → lent_of scores thresholds room ≡ record { chip = record { scores = scores; thresholds = thresholds }; room = room }
lent_is scores thresholds room = refl

-- the builder
pub build_is : (m : Built) (room : List ℕ) → made_of m room ≡ record { refusal = m.refusal; length = m.length; room = room }
build_is m room = refl

-- bringing over: the refusal, and the index that was lent for it
pub brought_is : (refusal : ℕ) (index : List ℕ) → brought_of refusal index ≡ record { refusal = refusal; index = index }
brought_is refusal index = refl
