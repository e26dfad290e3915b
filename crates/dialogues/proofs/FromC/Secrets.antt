-- Demand 3 at the doors for C: over the bytes that lie in a caller's settings and memory, what it hands in, and what it gets back.
use mathlib.Core.Bool.{true, false, cond}
use mathlib.Core.Path.{◌≡◌, refl, sym, ap, ◌∙◌, subst}
use mathlib.Core.Logic.{◌⊎◌, inl, inr, ◌≢◌}
use mathlib.Core.List.{List, [], ◌∷◌, ◌++◌}
use Prim.Native.Nat.{ℕ, ◌-◌, ◌/◌, ◌≤◌}
use native.Mathlib.Omega.{arith}
use lib.Dec.{T, eqb}
use lib.ListN.{length, take, replicate}
use borrow.Author.Tests.{lt-ltb}
use Rattle.protocol.specs.declared.Settings.{Settings}
use Rattle.protocol.specs.declared.Receiver.{Receiver}
use Rattle.protocol.specs.Numbers.{holds, longest}
use Rattle.protocol.specs.Bytes.{lay}
use Rattle.protocol.specs.Reader.{closed, Plain, Guarded, Reader, capacity, keyed, emptied, settings}
use Rattle.protocol.specs.Data.{acknowledge}
use Rattle.protocol.specs.Step.{wiped}
use Rattle.protocol.specs.Call.{core, Lent, Told, Ended, reply_of, call_of}
use Rattle.protocol.specs.Dialogue.{Event, received, switch, on, Dialogue, over, first, dialogue, kept, Paired}
use Rattle.protocol.specs.Receiver.{bytes_in, line, Handed, fitting, run_of, receive_of}
use Rattle.dialogues.specs.Caller.{on_line, Talk, ends_at, begins, talk}
use Rattle.protocol.specs.Records.{fit_mark, origin_of, is_set, mark_of, marks_of, transfer_of, plain_of}
use Rattle.dialogues.specs.Doors.{Memory, Vault, LineVault, reader_at, reader_in, line_in, Entry, last_of, events_of, told_of, Until, Steps, Receives}
use Rattle.protocol.proofs.Laws.Marks.{mark_is, same_beside}
use Rattle.dialogues.proofs.Laws.Entries.{paired_long, Tale, whole, goes_whole, goes_through}
use Rattle.protocol.proofs.Promises.Words.Words as words
use Rattle.protocol.proofs.Promises.Refusals.Marks.{FitRecord}
use Rattle.protocol.proofs.Promises.Words.OneResult.{same_origin, transfer_same}
use Rattle.protocol.proofs.Promises.Commands.Parameters.{AsksParameters}
use Rattle.protocol.proofs.Promises.Secrets.Lock.{mark, ButStatus, Bars, Alike, FirstHalf, marked_legal, first_half, Blind, second_half}
use Rattle.dialogues.proofs.Secrets.ReceiverLock.{ReceiverHalf, receiver_first_half, SameHeld, ReceiverBlind, receiver_second_half}
use Rattle.dialogues.proofs.FromC.Lines.{LegalLine, line_fit, line_vault_legal}
use Rattle.dialogues.proofs.FromC.Steps.{same_vault, LegalVault, vault_fit, vault_legal}

-- ---- "its copy with only the verified mark changed"

-- these settings with this verified mark
abbrev pub with_verified : ℕ → Settings → Settings
with_verified k s =
    record {
      password = s.password;
      address = s.address;
      level = s.level;
      size = s.size;
      baud = s.baud;
      transfer = s.transfer;
      sensor = s.sensor;
      got = s.got;
      verified = k;
      filled1 = s.filled1;
      filled2 = s.filled2;
      found = s.found;
      origin1 = s.origin1;
      origin2 = s.origin2;
    }

-- the transfer is the same beside other marks of 0 and 1
same_record : (s z : Settings) → FitRecord s → words.Marked (marks_of z) → transfer_of (marks_of z) s.transfer s.got ≡ transfer_of (marks_of s) s.transfer s.got
same_record s z h k =
    same_beside (marks_of s) (((words.kept).marks_mean (marks_of s)).1 h.marks) (marks_of z) (((words.kept).marks_mean (marks_of z)).1 k) s.transfer s.got h.which h.none

pub remarked : (s : Settings) (m : Memory) → FitRecord s → (k : ℕ) → k ≤ 1 → reader_at (with_verified k s) m ≡ mark (eqb k 1) (reader_at s m)
remarked s m h k l =
    rw (same_record s (with_verified k s) h record { verified = l; filled1 = h.marks.filled1; filled2 = h.marks.filled2; found = h.marks.found }) refl

-- ---- the first half

-- the call answered 21h at the front of the reply room; settings and memory are as they were
pub record BarsFromC (s : Settings) (lent : Lent) (m : Memory) (t : Told) (s' : Settings) (m' : Memory) : Type 0 where
  pub reply : take t.length t.room ≡ acknowledge s.address 0x21 []
  pub room : t.room ≡ lay 0 (acknowledge s.address 0x21 []) lent.room
  pub settings : s' ≡ s
  pub memory : m' ≡ m

-- both calls got back the same, but for status bits 1 and 2 and the check sum where the run asks for ReadSysPara; and end alike but for the mark
pub record SameButMark (a run : List ℕ) (t u : Told) (s z : Settings) (m n : Memory) : Type 0 where
  pub told : (t ≡ u) ⊎ (AsksParameters a run × ButStatus t u)
  pub settings : (k : ℕ) → with_verified k s ≡ with_verified k z
  pub memory : m ≡ n

-- of the settings s and the memory m: the locked one's call told t and left s₁ and m₁, its verified copy's told u and left s₂ and m₂
pub record HalfFromC (s : Settings) (m : Memory) (run : List ℕ) (lent : Lent) (t : Told) (s₁ : Settings) (m₁ : Memory) (u : Told) (s₂ : Settings) (m₂ : Memory) : Type 0 where
  pub refusal : t.refusal ≡ u.refusal
  pub used : t.used ≡ u.used
  pub answers : BarsFromC s lent m t s₁ m₁ ⊎ SameButMark s.address run t u s₁ s₂ m₁ m₂

half_bytes : (s : Settings) (m : Memory) (run : List ℕ) (lent : Lent) (t : Told) (s₁ : Settings) (m₁ : Memory) (u : Told) (s₂ : Settings) (m₂ : Memory) → FitRecord s₁ → FitRecord s₂
    → FirstHalf (reader_at s m) run lent record { told = t; after = reader_at s₁ m₁ } record { told = u; after = reader_at s₂ m₂ } → HalfFromC s m run lent t s₁ m₁ u s₂ m₂
unfolding reply_of
half_bytes s m run lent t s₁ m₁ u s₂ m₂ h k f = record { refusal = f.refusal; used = f.used; answers = go f.answers }
  where
    go : Bars (reader_at s m) lent record { told = t; after = reader_at s₁ m₁ } ⊎ Alike s.address run record { told = t; after = reader_at s₁ m₁ } record { told = u; after = reader_at s₂ m₂ }
        → BarsFromC s lent m t s₁ m₁ ⊎ SameButMark s.address run t u s₁ s₂ m₁ m₂
    go (inl b) = let o = same_vault s₁ s m₁ m b.after in inl record { reply = b.reply; room = b.room; settings = o.0; memory = o.1 }
    go (inr a) =
        let o = same_vault (with_verified 0 s₁) (with_verified 0 s₂) m₁ m₂ (remarked s₁ m₁ h 0 (omega arith) ∙ a.after false ∙ sym (remarked s₂ m₂ k 0 (omega arith))) in
        inr record { told = a.told; settings = λ k. ap (with_verified k) o.0; memory = o.1 }

module _ (s : Settings) (m : Memory) where
  -- the vault, and its copy with only the verified mark changed
  abbrev pub vault : ℕ → Vault
  vault k = record { settings = with_verified k s; memory = m }

  module _ (l : LegalVault (vault 0)) (key : s.password ≢ 0 ∷ 0 ∷ 0 ∷ 0 ∷ []) (none : s.transfer ≡ 0) where
    at : Reader
    at = reader_in (vault 0)

    keys : T (keyed at.plain)
    unfolding at
    keys = ((words.kept).keyed_means at.plain).1 key

    fit : FitRecord (with_verified 0 s)
    fit = vault_fit (vault 0) l

    still : at.plain.transfer ≡ closed
    unfolding at
    still = rw (none, fit.none none) ((words.kept).transfer_none (marks_of (with_verified 0 s)) fit.marks)

    copy : reader_in (vault 1) ≡ mark true at
    unfolding at
    copy = remarked (with_verified 0 s) m fit 1 (omega arith)

    copy_legal : LegalVault (vault 1)
    unfolding at
    copy_legal =
        record {
          typed = record { password = l.typed.password; address = l.typed.address; index = l.typed.index };
          legal = rw copy (marked_legal at keys still core true l.legal);
        }

    -- "On any received run, the locked one answers 21h and changes nothing, or both answer the same bytes and end alike but for that mark."
    pub vault_first_half : (run : List ℕ) (lent : Lent) (t u : Told) (w z : Vault) → Steps (vault 0) (record { event = received run lent; told = t; after = w } ∷ [])
        → Steps (vault 1) (record { event = received run lent; told = u; after = z } ∷ [])
        → HalfFromC (with_verified 0 s) m run lent t w.settings w.memory u z.settings z.memory
    unfolding at on
    vault_first_half run lent t u w z p q =
        let o = vault_fit w (vault_legal (vault 0) (record { event = received run lent; told = t; after = w } ∷ []) p l) in
        let k = vault_fit z (vault_legal (vault 1) (record { event = received run lent; told = u; after = z } ∷ []) q copy_legal) in
        half_bytes (with_verified 0 s) m run lent t w.settings w.memory u z.settings z.memory o k
        (subst (λ (e : Ended). FirstHalf at run lent e record { told = u; after = reader_in z }) (sym p.0)
        (subst (λ (e : Ended). FirstHalf at run lent (call_of core at run lent) e) (sym (q.0 ∙ ap (λ (r : Reader). call_of core r run lent) copy)) (first_half at keys still core l.legal run lent)))

    -- the same with a receiver, on what is held then, `run`; and the two hold the same bytes after it
    pub line_vault_first_half : (h : Receiver) → h.count ≤ 267 → (piece : List ℕ) (lent : Lent) (t u : Told) (w z : LineVault)
        → Receives record { line = record { settings = with_verified 0 s; receiver = h }; memory = m } (record { event = received piece lent; told = t; after = w } ∷ [])
        → Receives record { line = record { settings = with_verified 1 s; receiver = h }; memory = m } (record { event = received piece lent; told = u; after = z } ∷ [])
        → (let run = take h.count h.held ++ take (267 - h.count) piece in
        HalfFromC (with_verified 0 s) m run lent t w.line.settings w.memory u z.line.settings z.memory × (w.line.receiver ≡ z.line.receiver))
    unfolding at on_line run_of bytes_in fitting holds longest
    line_vault_first_half h few piece lent t u w z p q =
        let o = line_fit w (line_vault_legal _ (record { event = received piece lent; told = t; after = w } ∷ []) p record { reader = l; few = few }) in
        let k = line_fit z (line_vault_legal _ (record { event = received piece lent; told = u; after = z } ∷ []) q record { reader = copy_legal; few = few }) in
        let run : List ℕ = run_of h piece in
        let half : ReceiverHalf at run lent record { told = t; after = line_in w } record { told = u; after = line_in z } =
        subst (λ (e : Handed). ReceiverHalf at run lent e record { told = u; after = line_in z }) (sym p.0)
        (subst (λ (e : Handed). ReceiverHalf at run lent (receive_of core (line at h) piece lent) e) (sym (q.0 ∙ ap (λ (r : Reader). receive_of core (line r h) piece lent) copy))
        (receiver_first_half core at keys still l.legal h piece lent))
        in
        (half_bytes (with_verified 0 s) m run lent t w.line.settings w.memory u z.line.settings z.memory o k half.half, half.receiver)

-- ---- the second half

-- equal settings but for the filled marks, the origins and the found mark
pub record SameOpen (s z : Settings) : Type 0 where
  pub password : s.password ≡ z.password
  pub address : s.address ≡ z.address
  pub level : s.level ≡ z.level
  pub size : s.size ≡ z.size
  pub baud : s.baud ≡ z.baud
  pub transfer : s.transfer ≡ z.transfer
  pub sensor : s.sensor ≡ z.sensor
  pub got : s.got ≡ z.got
  pub verified : s.verified ≡ z.verified

pub open_plain : (s z : Settings) → FitRecord s → FitRecord z → SameOpen s z → plain_of s ≡ plain_of z
open_plain s z h k o =
    rw (← same_record s z h k.marks)
    (λ j.
    settings (o.password j) (o.address j) (o.level j) (o.size j) (o.baud j) (o.sensor j) (is_set (o.verified j)) (transfer_of (marks_of z) (o.transfer j) (o.got j)))

pub mark_bytes : (a b : ℕ) → a ≤ 1 → b ≤ 1 → is_set a ≡ is_set b → a ≡ b
unfolding fit_mark
mark_bytes a b l m e = sym (mark_is a (lt-ltb a 2 (omega arith))) ∙ ap mark_of e ∙ mark_is b (lt-ltb b 2 (omega arith))

pub plain_open : (s z : Settings) → FitRecord s → FitRecord z → plain_of s ≡ plain_of z → SameOpen s z
plain_open s z h k e =
    let t = transfer_same (marks_of s) (marks_of z) s.transfer s.got z.transfer z.got (ap (λ (p : Plain). p.transfer) e) in
    record {
      password = ap (λ (p : Plain). p.password) e;
      address = ap (λ (p : Plain). p.address) e;
      level = ap (λ (p : Plain). p.level) e;
      size = ap (λ (p : Plain). p.size) e;
      baud = ap (λ (p : Plain). p.baud) e;
      transfer = t.0;
      sensor = ap (λ (p : Plain). p.sensor) e;
      got = t.1;
      verified = mark_bytes s.verified z.verified h.marks.verified k.marks.verified (ap (λ (p : Plain). p.verified) e);
    }

-- a line switch is among the events
abbrev pub HasSwitch : List Event → Type 0
HasSwitch [] = ⊥
HasSwitch (received run lent ∷ es) = HasSwitch es
HasSwitch (switch ∷ es) = Unit {0}

-- "these contents stay as they were, save that a line switch wipes the two buffers and clears their filled marks", makes their origins none and clears the found mark
pub record Stay (es : List Event) (s : Settings) (m : Memory) (s' : Settings) (m' : Memory) : Type 0 where
  pub templates : m'.templates ≡ m.templates
  pub index : m'.index ≡ m.index
  pub notepad : m'.notepad ≡ m.notepad
  pub buffers : (HasSwitch es → ⊥) → (m'.buffer1 ≡ m.buffer1) × (m'.buffer2 ≡ m.buffer2)
  pub marks : (HasSwitch es → ⊥) → (s'.filled1 ≡ s.filled1) × ((s'.filled2 ≡ s.filled2) × (s'.found ≡ s.found))
  pub origins : (HasSwitch es → ⊥) → (s'.origin1 ≡ s.origin1) × (s'.origin2 ≡ s.origin2)
  pub wiped_buffers : HasSwitch es → (m'.buffer1 ≡ replicate 512 0) × (m'.buffer2 ≡ replicate 512 0)
  pub wiped_marks : HasSwitch es → (s'.filled1 ≡ 0) × ((s'.filled2 ≡ 0) × (s'.found ≡ 0))
  pub wiped_origins : HasSwitch es → (s'.origin1 ≡ 65535) × (s'.origin2 ≡ 65535)

kept_wiped : (es : List Event) (g : Guarded) → kept (wiped g) es ≡ wiped g
unfolding kept wiped
kept_wiped [] g = refl
kept_wiped (received run lent ∷ es) g = kept_wiped es g
kept_wiped (switch ∷ es) g = kept_wiped es g

kept_still : (es : List Event) (g : Guarded) → (HasSwitch es → ⊥) → kept g es ≡ g
unfolding kept
kept_still [] g n = refl
kept_still (received run lent ∷ es) g n = kept_still es g n
kept_still (switch ∷ es) g n = absurd (n tt)

kept_switched : (es : List Event) (g : Guarded) → HasSwitch es → kept g es ≡ wiped g
unfolding kept
kept_switched [] g y = absurd y
kept_switched (received run lent ∷ es) g y = kept_switched es g y
kept_switched (switch ∷ es) g y = kept_wiped es g

kept_library : (es : List Event) (g : Guarded) → ((kept g es).templates ≡ g.templates) × (((kept g es).index ≡ g.index) × ((kept g es).notepad ≡ g.notepad))
unfolding kept wiped
kept_library [] g = (refl, (refl, refl))
kept_library (received run lent ∷ es) g = kept_library es g
kept_library (switch ∷ es) g = kept_library es (wiped g)

stay_bytes : (es : List Event) (s : Settings) (m : Memory) (s' : Settings) (m' : Memory) → FitRecord s → FitRecord s' → (reader_at s' m').guarded ≡ kept (reader_at s m).guarded es → Stay es s m s' m'
unfolding wiped emptied origin_of
stay_bytes es s m s' m' h k e =
    let o = kept_library es (reader_at s m).guarded in
    record {
      templates = ap (λ (g : Guarded). g.templates) e ∙ o.0;
      index = ap (λ (g : Guarded). g.index) e ∙ o.1.0;
      notepad = ap (λ (g : Guarded). g.notepad) e ∙ o.1.1;
      buffers = λ n. (let f = e ∙ kept_still es (reader_at s m).guarded n in (ap (λ (g : Guarded). g.buffer1.bytes) f, ap (λ (g : Guarded). g.buffer2.bytes) f));
      marks =
          λ n. (let f = e ∙ kept_still es (reader_at s m).guarded n in
          (mark_bytes _ _ k.marks.filled1 h.marks.filled1 (ap (λ (g : Guarded). g.buffer1.filled) f), (mark_bytes _ _ k.marks.filled2 h.marks.filled2 (ap (λ (g : Guarded). g.buffer2.filled) f), mark_bytes _ _ k.marks.found h.marks.found (ap (λ (g : Guarded). g.found) f))));
      origins =
          λ n. (let f = e ∙ kept_still es (reader_at s m).guarded n in
          (same_origin s'.origin1 s.origin1 (ap (λ (g : Guarded). g.buffer1.origin) f), same_origin s'.origin2 s.origin2 (ap (λ (g : Guarded). g.buffer2.origin) f)));
      wiped_buffers = λ y. (let f = e ∙ kept_switched es (reader_at s m).guarded y in (ap (λ (g : Guarded). g.buffer1.bytes) f, ap (λ (g : Guarded). g.buffer2.bytes) f));
      wiped_marks =
          λ y. (let f = e ∙ kept_switched es (reader_at s m).guarded y in
          (mark_bytes _ 0 k.marks.filled1 (omega arith) (ap (λ (g : Guarded). g.buffer1.filled) f), (mark_bytes _ 0 k.marks.filled2 (omega arith) (ap (λ (g : Guarded). g.buffer2.filled) f), mark_bytes _ 0 k.marks.found (omega arith) (ap (λ (g : Guarded). g.found) f))));
      wiped_origins =
          λ y. (let f = e ∙ kept_switched es (reader_at s m).guarded y in
          (same_origin s'.origin1 65535 (ap (λ (g : Guarded). g.buffer1.origin) f), same_origin s'.origin2 65535 (ap (λ (g : Guarded). g.buffer2.origin) f)));
    }

-- what lies with two callers after their last calls, and how much of it stayed
pub record AlikeFromC (es fs : List Event) (s : Settings) (m : Memory) (z : Settings) (n : Memory) (s' : Settings) (m' : Memory) (z' : Settings) (n' : Memory) : Type 0 where
  pub settings : SameOpen s' z'
  pub kept_one : Stay es s m s' m'
  pub kept_other : Stay fs z n z' n'

alike_bytes : (es fs : List Event) (s : Settings) (m : Memory) (z : Settings) (n : Memory) (s' : Settings) (m' : Memory) (z' : Settings) (n' : Memory) → FitRecord s → FitRecord z → FitRecord s' → FitRecord z'
    → plain_of s' ≡ plain_of z' → (reader_at s' m').guarded ≡ kept (reader_at s m).guarded es → (reader_at z' n').guarded ≡ kept (reader_at z n).guarded fs → AlikeFromC es fs s m z n s' m' z' n'
alike_bytes es fs s m z n s' m' z' n' h k h' k' e f g =
    record { settings = plain_open s' z' h' k' e; kept_one = stay_bytes es s m s' m' h h' f; kept_other = stay_bytes fs z n z' n' k k' g }

-- ---- a caller's calls up to and including the first accepted password are a dialogue, and a talk

verified_in : Vault → ℕ
verified_in v = v.settings.verified

steps_tale : Tale (λ (v : Vault) (es : List Event). dialogue core (reader_in v) es) (λ (v : Vault). over (reader_in v)) first (λ (d : Dialogue). length d.events) verified_in Steps
unfolding dialogue over first verified_in
steps_tale =
    record {
      ends_long = λ v. refl;
      more_long = λ e t d. refl;
      none = λ v. refl;
      rest = λ v x xs q. q.1;
      begun = λ v x xs q. ap (λ (o : Ended). first x.event o.told (cond o.after.plain.verified (over o.after) (dialogue core o.after (events_of xs)))) (sym q.0);
    }

steps_are : (xs : List (Entry Vault)) (v : Vault)
    → whole (λ (v : Vault) (es : List Event). dialogue core (reader_in v) es) (λ (v : Vault). over (reader_in v)) first (λ (d : Dialogue). length d.events) verified_in Steps v xs
    ≡ record { events = events_of xs; told = told_of xs; last = reader_in (last_of v xs) }
unfolding whole over first
steps_are [] v = refl
steps_are (x ∷ xs) v = ap (first x.event x.told) (steps_are xs x.after)

verified_on : LineVault → ℕ
verified_on v = v.line.settings.verified

receives_tale : Tale (λ (v : LineVault) (es : List Event). talk core (line_in v) es) (λ (v : LineVault). ends_at (line_in v)) begins (λ (d : Talk). length d.events) verified_on Receives
unfolding talk ends_at begins verified_on
receives_tale =
    record {
      ends_long = λ v. refl;
      more_long = λ e t d. refl;
      none = λ v. refl;
      rest = λ v x xs q. q.1;
      begun = λ v x xs q. ap (λ (o : Handed). begins x.event o.told (cond o.after.reader.plain.verified (ends_at o.after) (talk core o.after (events_of xs)))) (sym q.0);
    }

receives_are : (xs : List (Entry LineVault)) (v : LineVault)
    → whole (λ (v : LineVault) (es : List Event). talk core (line_in v) es) (λ (v : LineVault). ends_at (line_in v)) begins (λ (d : Talk). length d.events) verified_on Receives v xs
    ≡ record { events = events_of xs; told = told_of xs; last = line_in (last_of v xs) }
unfolding whole ends_at begins
receives_are [] v = refl
receives_are (x ∷ xs) v = ap (begins x.event x.told) (receives_are xs x.after)

-- what two callers got back at each call, and what lies with them after the last
pub record BlindFromC (v w : Vault) (xs ys : List (Entry Vault)) : Type 0 where
  pub told : told_of xs ≡ told_of ys
  pub after : AlikeFromC (events_of xs) (events_of ys) v.settings v.memory w.settings w.memory (last_of v xs).settings (last_of v xs).memory (last_of w ys).settings (last_of w ys).memory

-- "two legal locked readers of equal capacity and, but for the filled marks, equal settings .. answer any sequence of runs alike, line switches among them, up to
-- and including the first accepted password"
pub vault_second_half : (v w : Vault) → LegalVault v → LegalVault w → v.settings.password ≢ 0 ∷ 0 ∷ 0 ∷ 0 ∷ [] → v.settings.verified ≡ 0 → SameOpen v.settings w.settings
    → length v.memory.templates ≡ length w.memory.templates → (xs ys : List (Entry Vault)) → Steps v xs → Steps w ys → Until (λ (u : Vault). u.settings.verified) xs
    → Paired (length v.memory.templates / 512) (events_of xs) (events_of ys) → BlindFromC v w xs ys
unfolding capacity verified_in
vault_second_half v w l k key shut same pages xs ys p q u pair =
    let h = vault_fit v l in
    let n = vault_fit w k in
    let c : ℕ = length v.memory.templates / 512 in
    let d : Dialogue = dialogue core (reader_in v) (events_of xs) in
    let e : Dialogue = dialogue core (reader_in w) (events_of ys) in
    let b : Blind c (reader_in v).guarded (reader_in w).guarded d e =
    second_half core (reader_in v) (reader_in w) l.legal k.legal (((words.kept).locked_means (reader_in v).plain).1 (key, rw shut refl)) (open_plain v.settings w.settings h n same)
    (ap (λ (t : ℕ). t / 512) pages) (events_of xs) (events_of ys) pair
    in
    let long : length d.events ≡ length (events_of xs) = goes_through _ _ _ _ _ _ steps_tale xs v p u in
    let long' : length e.events ≡ length (events_of ys) = sym (paired_long c d.events e.events b.events) ∙ long ∙ paired_long c (events_of xs) (events_of ys) pair in
    let one : d ≡ record { events = events_of xs; told = told_of xs; last = reader_in (last_of v xs) } = goes_whole _ _ _ _ _ _ steps_tale xs v p long ∙ steps_are xs v in
    let other : e ≡ record { events = events_of ys; told = told_of ys; last = reader_in (last_of w ys) } = goes_whole _ _ _ _ _ _ steps_tale ys w q long' ∙ steps_are ys w in
    let f : Blind c (reader_in v).guarded (reader_in w).guarded record { events = events_of xs; told = told_of xs; last = reader_in (last_of v xs) } record { events = events_of ys; told = told_of ys; last = reader_in (last_of w ys) } =
    subst (λ (a : Dialogue × Dialogue). Blind c (reader_in v).guarded (reader_in w).guarded a.0 a.1) (λ j. (one j, other j)) b
    in
    record {
      told = f.told;
      after =
          alike_bytes (events_of xs) (events_of ys) v.settings v.memory w.settings w.memory (last_of v xs).settings (last_of v xs).memory (last_of w ys).settings (last_of w ys).memory h n
          (vault_fit (last_of v xs) (vault_legal v xs p l)) (vault_fit (last_of w ys) (vault_legal w ys q k)) f.settings f.kept_one f.kept_other;
    }

-- with a receiver: the two hold the same bytes, and hold the same after the last call
pub record LinesBlindFromC (v w : LineVault) (xs ys : List (Entry LineVault)) : Type 0 where
  pub told : told_of xs ≡ told_of ys
  pub held : SameHeld (last_of v xs).line.receiver (last_of w ys).line.receiver
  pub after : AlikeFromC (events_of xs) (events_of ys) v.line.settings v.memory w.line.settings w.memory (last_of v xs).line.settings (last_of v xs).memory (last_of w ys).line.settings (last_of w ys).memory

pub line_vault_second_half : (v w : LineVault) → LegalLine v → LegalLine w → v.line.settings.password ≢ 0 ∷ 0 ∷ 0 ∷ 0 ∷ [] → v.line.settings.verified ≡ 0
    → SameOpen v.line.settings w.line.settings → length v.memory.templates ≡ length w.memory.templates → SameHeld v.line.receiver w.line.receiver
    → (xs ys : List (Entry LineVault)) → Receives v xs → Receives w ys → Until (λ (u : LineVault). u.line.settings.verified) xs
    → Paired (length v.memory.templates / 512) (events_of xs) (events_of ys) → LinesBlindFromC v w xs ys
unfolding capacity verified_on
line_vault_second_half v w l k key shut same pages held xs ys p q u pair =
    let h = line_fit v l in
    let n = line_fit w k in
    let c : ℕ = length v.memory.templates / 512 in
    let r : Reader = (line_in v).reader in
    let t : Reader = (line_in w).reader in
    let d : Talk = talk core (line_in v) (events_of xs) in
    let e : Talk = talk core (line_in w) (events_of ys) in
    let b : ReceiverBlind c r.guarded t.guarded d e =
    receiver_second_half core r t v.line.receiver w.line.receiver l.reader.legal k.reader.legal (((words.kept).locked_means r.plain).1 (key, rw shut refl))
    (open_plain v.line.settings w.line.settings h n same) (ap (λ (j : ℕ). j / 512) pages) held (events_of xs) (events_of ys) pair
    in
    let long : length d.events ≡ length (events_of xs) = goes_through _ _ _ _ _ _ receives_tale xs v p u in
    let long' : length e.events ≡ length (events_of ys) = sym (paired_long c d.events e.events b.events) ∙ long ∙ paired_long c (events_of xs) (events_of ys) pair in
    let one = goes_whole _ _ _ _ _ _ receives_tale xs v p long ∙ receives_are xs v in
    let other = goes_whole _ _ _ _ _ _ receives_tale ys w q long' ∙ receives_are ys w in
    let f : ReceiverBlind c r.guarded t.guarded record { events = events_of xs; told = told_of xs; last = line_in (last_of v xs) } record { events = events_of ys; told = told_of ys; last = line_in (last_of w ys) } =
    subst (λ (a : Talk × Talk). ReceiverBlind c r.guarded t.guarded a.0 a.1) (λ j. (one j, other j)) b
    in
    record {
      told = f.told;
      held = f.held;
      after =
          alike_bytes (events_of xs) (events_of ys) v.line.settings v.memory w.line.settings w.memory (last_of v xs).line.settings (last_of v xs).memory (last_of w ys).line.settings (last_of w ys).memory h n
          (line_fit (last_of v xs) (line_vault_legal v xs p l)) (line_fit (last_of w ys) (line_vault_legal w ys q k)) f.settings f.kept_one f.kept_other;
    }
