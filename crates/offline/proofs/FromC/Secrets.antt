-- Demand 3's second half at the doors for C over turns: "two legal locked readers of equal capacity and, but for the filled marks, equal settings .. answer any sequence of
-- runs alike, line switches among them, up to and including the first accepted password", and work between them, each caller's own, whatever is lent for it.
use mathlib.Core.Bool.{Bool, true}
use mathlib.Core.Path.{◌≡◌, refl, sym, ap, ap₂, ◌∙◌, subst}
use mathlib.Core.Logic.{◌≢◌}
use mathlib.Core.List.{List, [], ◌∷◌}
use Prim.Native.Nat.{ℕ, ◌/◌, ◌≤◌}
use native.Mathlib.Omega.{arith}
use lib.Dec.{T}
use lib.ListN.{length}
use borrow.Author.Tests.{ne_eqb}
use Rattle.protocol.specs.declared.Settings.{Settings}
use Rattle.protocol.specs.declared.Receiver.{Receiver}
use Rattle.protocol.specs.Reader.{closed, Plain, Reader, locked}
use Rattle.protocol.specs.Records.{marks_of}
use Rattle.protocol.specs.Call.{core, Told, Ended}
use Rattle.protocol.specs.Dialogue.{Event, received, switch, on}
use Rattle.protocol.specs.Receiver.{Handed, run_of}
use Rattle.protocol.specs.Receiver as receivers
use Rattle.dialogues.specs.Caller.{on_line}
use Rattle.dialogues.specs.Doors.{Memory, Vault, LineVault, reader_at, reader_in, line_in, Entry, last_of, events_of, Steps, Until, Receives}
use Rattle.protocol.proofs.Promises.Words.Words as words
use Rattle.protocol.proofs.Promises.Refusals.LegalMeans.{core_holds}
use Rattle.protocol.proofs.Promises.Refusals.StaysLegal.{Legal}
use Rattle.protocol.proofs.Promises.Refusals.Marks.{FitRecord}
use Rattle.protocol.proofs.Promises.Secrets.Lock.{mark}
use Rattle.dialogues.proofs.FromC.Steps.{same_vault, LegalVault, vault_fit, vault_legal}
use Rattle.dialogues.proofs.FromC.Lines.{LegalLine, line_vault_legal}
use Rattle.dialogues.proofs.FromC.Secrets.{with_verified, remarked, SameOpen, open_plain, mark_bytes, plain_open, AlikeFromC, vault_second_half, line_vault_second_half}
use Rattle.dialogues.proofs.Lines.ReceiverCalls.{as_call, switch_reader}
use Rattle.dialogues.proofs.Secrets.ReceiverLock.{SameHeld}
use Rattle.offline.specs.CloseGaps.{Closed, close_of}
use Rattle.offline.specs.Salvage.{Salvaged}
use Rattle.offline.specs.Life.{Work, closing, salvaging, after_work, PairedDeeds}
use Rattle.offline.specs.Turns.{Worked, Turn, call_turn, work_turn, deeds_of, told_turns, Never, UntilTurn, WentBy, ByContract, Turns, LineTurns}
use Rattle.offline.proofs.Gaps.StaysLegal.{closed_legal}
use Rattle.offline.proofs.Life.Work.{work_legal, work_plain, work_length}
use Rattle.offline.proofs.Life.Secrets.{closed_copy, still_locked}
use Rattle.offline.proofs.FromC.Turns.{work_went}

fits : (s : Settings) (m : Memory) → Legal core core_holds (reader_at s m) → FitRecord s
fits s m l = vault_fit record { settings = s; memory = m } l

marked_copy : Bool → Closed → Closed
marked_copy b e = record { refusal = e.refusal; table = e.table; after = mark b e.after }

-- ---- the first half: a vault and "its copy with only the verified mark changed" are told the same by work, and are such ones after it

pub work_copies : (w : Work) (s : Settings) (m : Memory) → Legal core core_holds (reader_at (with_verified 0 s) m) → s.transfer ≡ 0 → (k k' : ℕ) (list list' : List ℕ) (z z' : Settings) (n n' : Memory)
    → WentBy (with_verified 0 s) m w k list z n → WentBy (with_verified 1 s) m w k' list' z' n'
    → ((k' ≡ k) × (list' ≡ list)) × ((z' ≡ with_verified 1 z) × (n' ≡ n))
unfolding marked_copy
work_copies (closing table) s m l none k k' list list' z z' n n' p q =
    let at : Reader = reader_at (with_verified 0 s) m in
    let fit : FitRecord (with_verified 0 s) = fits (with_verified 0 s) m l in
    let still : at.plain.transfer ≡ closed = rw (none, fit.none none) ((words.kept).transfer_none (marks_of (with_verified 0 s)) fit.marks) in
    let copy : close_of core (reader_at (with_verified 1 s) m) table ≡ marked_copy true (close_of core at table) =
    (λ j. close_of core (remarked (with_verified 0 s) m fit 1 (omega arith) j) table) ∙ closed_copy core at still true table
    in
    let both : record { refusal = k'; table = list'; after = reader_at z' n' } ≡ marked_copy true record { refusal = k; table = list; after = reader_at z n } = q ∙ copy ∙ sym (ap (marked_copy true) p) in
    let fit' : FitRecord z = fits z n (subst (λ (e : Closed). Legal core core_holds e.after) (sym p) (closed_legal core core_holds at table l)) in (
      (ap (λ (e : Closed). e.refusal) both, ap (λ (e : Closed). e.table) both),
      same_vault z' (with_verified 1 z) n' n (ap (λ (e : Closed). e.after) both ∙ sym (remarked z n fit' 1 (omega arith))),
    )
work_copies (salvaging report) s m l none k k' list list' z z' n n' (p, u) (q, v) =
    let both = q ∙ sym p in (
      (ap (λ (e : Salvaged). e.refusal) both, ap (λ (e : Salvaged). e.report) both),
      (
        v.settings ∙ ap (with_verified 1) (sym u.settings),
        λ j. record {
          templates = (both j).templates;
          index = (both j).index;
          notepad = (v.notepad ∙ sym u.notepad) j;
          buffer1 = (v.buffer1 ∙ sym u.buffer1) j;
          buffer2 = (v.buffer2 ∙ sym u.buffer2) j;
        },
      ),
    )

-- ---- the second half: what the two have in common, over settings and memory

-- legal, with a password that was not given, equal settings but for what is guarded, and as many pages
pub record Together (s : Settings) (m : Memory) (z : Settings) (n : Memory) : Type 0 where
  pub one : Legal core core_holds (reader_at s m)
  pub other : Legal core core_holds (reader_at z n)
  pub key : s.password ≢ 0 ∷ 0 ∷ 0 ∷ 0 ∷ []
  pub shut : s.verified ≡ 0
  pub same : SameOpen s z
  pub pages : length m.templates ≡ length n.templates

pub locks : (s : Settings) (m : Memory) → s.password ≢ 0 ∷ 0 ∷ 0 ∷ 0 ∷ [] → s.verified ≡ 0 → T (locked (reader_at s m).plain)
locks s m key shut = ((words.kept).locked_means (reader_at s m).plain).1 (key, rw shut refl)

-- where all that is not guarded is the same, so is the verified mark
shut_still : (s z : Settings) (m n : Memory) → FitRecord s → FitRecord z → (reader_at z n).plain ≡ (reader_at s m).plain → s.verified ≡ 0 → z.verified ≡ 0
shut_still s z m n h k e v = mark_bytes z.verified s.verified k.marks.verified h.marks.verified (ap (λ (p : Plain). p.verified) e) ∙ v

never_until : {S : Type 0} (marked : S → ℕ) (xs : List (Entry S)) → Never marked xs → Until marked xs
never_until marked [] n = tt
never_until marked (x ∷ []) n = tt
never_until marked (x ∷ y ∷ xs) (n, ns) = (n, never_until marked (y ∷ xs) ns)

-- what work at its door keeps
module _ {S : Type 0} (s : Settings) (m : Memory) (y : Worked S) (z : Settings) (n : Memory) (p : ByContract s m y z n) where
  went : reader_at z n ≡ after_work core (reader_at s m) y.work
  went = work_went y.work s m y.refusal y.written z n p

  legal_worked : Legal core core_holds (reader_at s m) → Legal core core_holds (reader_at z n)
  legal_worked l = subst (Legal core core_holds) (sym went) (work_legal core core_holds y.work (reader_at s m) l)

  plain_worked : (reader_at z n).plain ≡ (reader_at s m).plain
  plain_worked = ap (λ (r : Reader). r.plain) went ∙ work_plain core core_holds y.work (reader_at s m)

  long_worked : length n.templates ≡ length m.templates
  long_worked = ap (λ (r : Reader). length r.guarded.templates) went ∙ work_length core core_holds y.work (reader_at s m)

-- work on either leaves them so, refused or not
one_worked : {S : Type 0} (s s' : Settings) (m m' : Memory) (z : Settings) (n : Memory) (y : Worked S) → ByContract s m y s' m' → Together s m z n → Together s' m' z n
one_worked s s' m m' z n y p t =
    record {
      one = one;
      other = t.other;
      key = λ e. t.key (sym (ap (λ (x : Plain). x.password) plain) ∙ e);
      shut = shut_still s s' m m' (fits s m t.one) (fits s' m' one) plain t.shut;
      same = plain_open s' z (fits s' m' one) (fits z n t.other) (plain ∙ open_plain s z (fits s m t.one) (fits z n t.other) t.same);
      pages = long_worked s m y s' m' p ∙ t.pages;
    }
  where
    one : Legal core core_holds (reader_at s' m')
    one = legal_worked s m y s' m' p t.one

    plain : (reader_at s' m').plain ≡ (reader_at s m).plain
    plain = plain_worked s m y s' m' p

other_worked : {S : Type 0} (s : Settings) (m : Memory) (z z' : Settings) (n n' : Memory) (y : Worked S) → ByContract z n y z' n' → Together s m z n → Together s m z' n'
other_worked s m z z' n n' y p t =
    record {
      one = t.one;
      other = other;
      key = t.key;
      shut = t.shut;
      same = plain_open s z' (fits s m t.one) (fits z' n' other) (open_plain s z (fits s m t.one) (fits z n t.other) t.same ∙ sym plain);
      pages = t.pages ∙ sym (long_worked z n y z' n' p);
    }
  where
    other : Legal core core_holds (reader_at z' n')
    other = legal_worked z n y z' n' p t.other

    plain : (reader_at z' n').plain ≡ (reader_at z n).plain
    plain = plain_worked z n y z' n' p

-- work alone tells nothing
told_nothing : {S : Type 0} (c : ℕ) (us : List (Turn S)) → PairedDeeds c [] (deeds_of us) → [] ≡ told_turns us
told_nothing c [] p = refl
told_nothing c (call_turn xs ∷ us) p = absurd p
told_nothing c (work_turn y ∷ us) p = told_nothing c us p

-- calls that told the same leave them so, where the settings of the first stayed
together_called : (es fs : List Event) (s s' : Settings) (m m' : Memory) (z z' : Settings) (n n' : Memory) → AlikeFromC es fs s m z n s' m' z' n' → (reader_at s' m').plain ≡ (reader_at s m).plain
    → Legal core core_holds (reader_at s' m') → Legal core core_holds (reader_at z' n') → Together s m z n → Together s' m' z' n'
together_called es fs s s' m m' z z' n n' a plain one other t =
    record {
      one = one;
      other = other;
      key = λ e. t.key (sym (ap (λ (x : Plain). x.password) plain) ∙ e);
      shut = shut_still s s' m m' (fits s m t.one) (fits s' m' one) plain t.shut;
      same = a.settings;
      pages = ap length a.kept_one.templates ∙ t.pages ∙ sym (ap length a.kept_other.templates);
    }

-- ---- without a receiver

-- where no call accepts a password, the settings stay
never_plain : (xs : List (Entry Vault)) (v : Vault) → Steps v xs → LegalVault v → T (locked (reader_in v).plain) → Never (λ (u : Vault). u.settings.verified) xs
    → (reader_in (last_of v xs)).plain ≡ (reader_in v).plain
never_plain [] v q l k u = refl
never_plain (x ∷ xs) v (p, q) l k (n, u) =
    let still : (reader_in x.after).plain ≡ (reader_in v).plain =
    ap (λ (e : Ended). e.after.plain) p ∙ still_locked core core_holds (reader_in v) l.legal k x.event (sym (ap (λ (e : Ended). e.after.plain.verified) p) ∙ ne_eqb x.after.settings.verified 1 n)
    in
    never_plain xs x.after q (vault_legal v (x ∷ []) (p, tt) l) (subst (λ (e : Plain). T (locked e)) (sym still) k) u ∙ still

pub turns_answer_alike : (ts us : List (Turn Vault)) (v w : Vault) → Turns v ts → Turns w us → UntilTurn (λ (u : Vault). u.settings.verified) ts
    → PairedDeeds (length v.memory.templates / 512) (deeds_of ts) (deeds_of us) → Together v.settings v.memory w.settings w.memory → told_turns ts ≡ told_turns us
turns_answer_alike [] us v w p q u pair t = told_nothing (length v.memory.templates / 512) us pair
turns_answer_alike (work_turn x ∷ ts) us v w (a, p) q u pair t =
    let same : length x.after.memory.templates ≡ length v.memory.templates = long_worked v.settings v.memory x x.after.settings x.after.memory a in
    turns_answer_alike ts us x.after w p q u (subst (λ (k : ℕ). PairedDeeds (k / 512) (deeds_of ts) (deeds_of us)) (sym same) pair)
    (one_worked v.settings x.after.settings v.memory x.after.memory w.settings w.memory x a t)
turns_answer_alike (call_turn xs ∷ ts) [] v w p q u pair t = absurd pair
turns_answer_alike (call_turn xs ∷ ts) (work_turn y ∷ us) v w p (b, q) u pair t =
    turns_answer_alike (call_turn xs ∷ ts) us v y.after p q u pair (other_worked v.settings v.memory w.settings y.after.settings w.memory y.after.memory y b t)
turns_answer_alike (call_turn xs ∷ []) (call_turn ys ∷ us) v w (a, p) (b, q) u (pair, more) t =
    ap₂ (λ (z : List Told) (rest : List (List Told)). z ∷ rest)
    (vault_second_half v w t.one t.other t.key t.shut t.same t.pages xs ys a b u pair).told (told_nothing (length v.memory.templates / 512) us more)
turns_answer_alike (call_turn xs ∷ c ∷ ts) (call_turn ys ∷ us) v w (a, p) (b, q) (never, u) (pair, more) t =
    let blind = vault_second_half v w t.one t.other t.key t.shut t.same t.pages xs ys a b (never_until (λ (u : Vault). u.settings.verified) xs never) pair in
    let plain = never_plain xs v a t.one (locks v.settings v.memory t.key t.shut) never in
    ap₂ (λ (z : List Told) (rest : List (List Told)). z ∷ rest) blind.told
    (turns_answer_alike (c ∷ ts) us (last_of v xs) (last_of w ys) p q u
    (subst (λ (k : List ℕ). PairedDeeds (length k / 512) (deeds_of (c ∷ ts)) (deeds_of us)) (sym blind.after.kept_one.templates) more)
    (together_called (events_of xs) (events_of ys) v.settings (last_of v xs).settings v.memory (last_of v xs).memory w.settings (last_of w ys).settings w.memory (last_of w ys).memory blind.after plain
    (vault_legal v xs a t.one) (vault_legal w ys b t.other) t))

-- ---- with a receiver: the two hold the same bytes

-- an event's run, and what it leaves of the reader
run_event : Receiver → Event → Event
run_event h (received piece lent) = received (run_of h piece) lent
run_event h switch = switch

on_run : (x : receivers.Line) → x.receiver.count ≤ 267 → (e : Event) → (on_line core x e).after.reader ≡ (on core x.reader (run_event x.receiver e)).after
unfolding on_line on run_event
on_run x few (received piece lent) = (as_call core x few piece lent).reader
on_run x few switch = switch_reader x

line_never_plain : (xs : List (Entry LineVault)) (v : LineVault) → Receives v xs → LegalLine v → T (locked (line_in v).reader.plain) → Never (λ (u : LineVault). u.line.settings.verified) xs
    → (line_in (last_of v xs)).reader.plain ≡ (line_in v).reader.plain
line_never_plain [] v q l k u = refl
line_never_plain (x ∷ xs) v (p, q) l k (n, u) =
    let run : Event = run_event v.line.receiver x.event in
    let same : (line_in x.after).reader ≡ (on core (line_in v).reader run).after = ap (λ (o : Handed). o.after.reader) p ∙ on_run (line_in v) l.few x.event in
    let still : (line_in x.after).reader.plain ≡ (line_in v).reader.plain =
    ap (λ (r : Reader). r.plain) same
    ∙ still_locked core core_holds (line_in v).reader l.reader.legal k run (sym (ap (λ (r : Reader). r.plain.verified) same) ∙ ne_eqb x.after.line.settings.verified 1 n)
    in
    line_never_plain xs x.after q (line_vault_legal v (x ∷ []) (p, tt) l) (subst (λ (e : Plain). T (locked e)) (sym still) k) u ∙ still

pub line_turns_answer_alike : (ts us : List (Turn LineVault)) (v w : LineVault) → LineTurns v ts → LineTurns w us → UntilTurn (λ (u : LineVault). u.line.settings.verified) ts
    → PairedDeeds (length v.memory.templates / 512) (deeds_of ts) (deeds_of us) → Together v.line.settings v.memory w.line.settings w.memory
    → v.line.receiver.count ≤ 267 → w.line.receiver.count ≤ 267 → SameHeld v.line.receiver w.line.receiver → told_turns ts ≡ told_turns us
line_turns_answer_alike [] us v w p q u pair t f g h = told_nothing (length v.memory.templates / 512) us pair
line_turns_answer_alike (work_turn x ∷ ts) us v w ((a, c), p) q u pair t f g h =
    let same : length x.after.memory.templates ≡ length v.memory.templates = long_worked v.line.settings v.memory x x.after.line.settings x.after.memory a in
    line_turns_answer_alike ts us x.after w p q u (subst (λ (k : ℕ). PairedDeeds (k / 512) (deeds_of ts) (deeds_of us)) (sym same) pair)
    (one_worked v.line.settings x.after.line.settings v.memory x.after.memory w.line.settings w.memory x a t) (rw c f) g (rw c h)
line_turns_answer_alike (call_turn xs ∷ ts) [] v w p q u pair t f g h = absurd pair
line_turns_answer_alike (call_turn xs ∷ ts) (work_turn y ∷ us) v w p ((b, d), q) u pair t f g h =
    line_turns_answer_alike (call_turn xs ∷ ts) us v y.after p q u pair
    (other_worked v.line.settings v.memory w.line.settings y.after.line.settings w.memory y.after.memory y b t) f (rw d g) (rw d h)
line_turns_answer_alike (call_turn xs ∷ []) (call_turn ys ∷ us) v w (a, p) (b, q) u (pair, more) t f g h =
    ap₂ (λ (z : List Told) (rest : List (List Told)). z ∷ rest)
    (line_vault_second_half v w record { reader = t.one; few = f } record { reader = t.other; few = g } t.key t.shut t.same t.pages h xs ys a b u pair).told
    (told_nothing (length v.memory.templates / 512) us more)
line_turns_answer_alike (call_turn xs ∷ c ∷ ts) (call_turn ys ∷ us) v w (a, p) (b, q) (never, u) (pair, more) t f g h =
    let one : LegalLine v = record { reader = t.one; few = f } in
    let other : LegalLine w = record { reader = t.other; few = g } in
    let blind = line_vault_second_half v w one other t.key t.shut t.same t.pages h xs ys a b (never_until (λ (u : LineVault). u.line.settings.verified) xs never) pair in
    let plain = line_never_plain xs v a one (locks v.line.settings v.memory t.key t.shut) never in
    let one' = line_vault_legal v xs a one in
    let other' = line_vault_legal w ys b other in
    ap₂ (λ (z : List Told) (rest : List (List Told)). z ∷ rest) blind.told
    (line_turns_answer_alike (c ∷ ts) us (last_of v xs) (last_of w ys) p q u
    (subst (λ (k : List ℕ). PairedDeeds (length k / 512) (deeds_of (c ∷ ts)) (deeds_of us)) (sym blind.after.kept_one.templates) more)
    (together_called (events_of xs) (events_of ys) v.line.settings (last_of v xs).line.settings v.memory (last_of v xs).memory w.line.settings (last_of w ys).line.settings w.memory (last_of w ys).memory
    blind.after plain one'.reader other'.reader t)
    one'.few other'.few blind.held)
