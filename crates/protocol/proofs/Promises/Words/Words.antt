-- What the words of the other promises mean: each in the numbers of document 01 and of its change requests, in document 01's order.
use mathlib.Core.Bool.{Bool, true, false, ◌||◌, not}
use mathlib.Core.Path.{◌≡◌, refl, ap}
use mathlib.Core.Logic.{◌⊎◌, inl, inr, ◌≢◌, ◌↔◌}
use mathlib.Core.List.{List, [], ◌∷◌, ◌++◌, foldr}
use Prim.Native.Nat.{ℕ, suc, ◌+◌, ◌*◌, ◌/◌, ◌%◌, ◌^◌, ◌≤◌, ◌<◌}
use native.Mathlib.Omega.{arith}
use lib.Dec.{T, eqb, T_not, not_T}
use borrow.Author.Tests.{ltb-true, lt-ltb, eqb-true, eq-eqb, ne_eqb}
use lib.ListN.{length, get_or, take, replicate}
use Rattle.protocol.specs.Numbers.{page_bytes, least_pages, most_pages, index_bytes, index_page_bytes, old_index_bytes, added_bytes, notepad_bytes, note_bytes, reply_room, four_bytes, levels, bench_pages, lowest_level, highest_level, lowest_baud, highest_baud, highest_size, baud_parameter, level_parameter, size_parameter, verified_status, found_status, first_mark, second_mark, head_bytes, frame_bytes, command_packet, data_packet, acknowledge_packet, last_packet, shortest, longest, longest_other, holds, done, bad_packet, not_found, bad_page, nothing_there, nothing_to_send, transfer_failed, bad_range, wrong_password, unknown_command, bad_parameter, bad_value, bad_note_page, password_first, page_taken, bad_length, bad_room, bad_setting, bad_content, no_count, no_page}
use Rattle.protocol.specs.Bytes.{Bytes, two, four, same, lay, joined}
use Rattle.protocol.specs.Tests.{some, count_below, listed}
use Rattle.protocol.specs.Index.{bit, stored, set_bits}
use Rattle.protocol.specs.Reader.{Marks, closed, opened, unfit, Plain, no_origin, from_page, Buffer, Guarded, Reader, capacity, size_of, keyed, locked, buffer_of, emptied, loaded_from, stored_on, fresh, zeroed}
use Rattle.protocol.specs.Table.{is_buffer, second, status_of}
use Rattle.protocol.specs.Call.{Shape, core, shaped, Lent, Told, reply_of, call_of, switch_of}
use Rattle.protocol.specs.Dialogue.{Event, received, switch, on, finally, over, first, dialogue}
use Rattle.protocol.specs.Records.{fit_mark, fit_marks, transfer_of, origin_of, fresh_of}
use Rattle.protocol.proofs.Laws.Logic.{T→true, T→false, and_l, and_r, and_i}
use Rattle.protocol.proofs.Laws.Marks.{fit_marks_lem, fit_verified, fit_filled1, fit_filled2, fit_found, transfer_kinds, none_beside, into_beside}
use Rattle.protocol.proofs.Laws.Below.{some_at, some_none, length_listed, at_listed}
use Rattle.protocol.proofs.Laws.Lists.{same_refl, same_eq, length_lay, at_before, at_inside, at_behind}
use Rattle.protocol.proofs.Laws.Count.{set_weights}

-- ---- the numbers, by name

pub record Numbers : Type 0 where
  -- a page, C from 1 to 1000, the index and the part of it that ReadIndexTable gives, the notepad and its page, the reply room, an address; by request [8]
  -- the thresholds; and the bench program's pages
  pub memory :
      (page_bytes ∷ least_pages ∷ most_pages ∷ index_bytes ∷ index_page_bytes ∷ notepad_bytes ∷ note_bytes ∷ reply_room ∷ four_bytes ∷ levels ∷ bench_pages ∷ [])
      ≡ (512 ∷ 1 ∷ 1000 ∷ 128 ∷ 32 ∷ 512 ∷ 32 ∷ 700 ∷ 4 ∷ 5 ∷ 64 ∷ [])
  -- request [6]: an index stored before it, and the zero bytes that bring it over
  pub added : (old_index_bytes ∷ added_bytes ∷ []) ≡ (32 ∷ 96 ∷ [])
  -- level 1 to 5, baud factor 1 to 12, size code up to 3
  pub ranges : (lowest_level ∷ highest_level ∷ lowest_baud ∷ highest_baud ∷ highest_size ∷ []) ≡ (1 ∷ 5 ∷ 1 ∷ 12 ∷ 3 ∷ [])
  pub parameters : (baud_parameter ∷ level_parameter ∷ size_parameter ∷ verified_status ∷ found_status ∷ []) ≡ (4 ∷ 5 ∷ 6 ∷ 4 ∷ 2 ∷ [])
  pub refusals : (bad_length ∷ bad_room ∷ bad_setting ∷ bad_content ∷ no_count ∷ []) ≡ (1 ∷ 2 ∷ 3 ∷ 4 ∷ 0xffff ∷ [])
  -- request [7]: no origin, in a settings record
  pub originless : no_page ≡ 0xffff
  -- the length field's limits, 3, 258 for identifiers 2 and 8, 256 for 1 and 7; the last is what a receiver holds
  pub packets : (first_mark ∷ second_mark ∷ head_bytes ∷ frame_bytes ∷ shortest ∷ longest ∷ longest_other ∷ holds ∷ []) ≡ (0xef ∷ 0x01 ∷ 9 ∷ 11 ∷ 3 ∷ 258 ∷ 256 ∷ 267 ∷ [])
  pub identifiers : (command_packet ∷ data_packet ∷ acknowledge_packet ∷ last_packet ∷ []) ≡ (1 ∷ 2 ∷ 7 ∷ 8 ∷ [])
  pub codes :
      (done ∷ bad_packet ∷ not_found ∷ bad_page ∷ nothing_there ∷ nothing_to_send ∷ transfer_failed ∷ bad_range ∷ wrong_password ∷ unknown_command ∷ bad_parameter ∷ bad_value ∷ bad_note_page ∷ password_first ∷ page_taken ∷ [])
      ≡ (0x00 ∷ 0x01 ∷ 0x09 ∷ 0x0b ∷ 0x0c ∷ 0x0d ∷ 0x0e ∷ 0x10 ∷ 0x13 ∷ 0x19 ∷ 0x1a ∷ 0x1b ∷ 0x1c ∷ 0x21 ∷ 0x22 ∷ [])

pub numbers : Numbers
unfolding highest_size longest holds
numbers = record { memory = refl; added = refl; ranges = refl; parameters = refl; refusals = refl; originless = refl; packets = refl; identifiers = refl; codes = refl }

-- ---- lent memory

pub record Memory : Type 0 where
  -- C is read off the templates' length
  pub pages : (g : Guarded) → capacity g ≡ length g.templates / 512
  -- page p is the bit of weight 2^(p mod 8) in byte p / 8; 1 means stored
  pub bit_stored : (x : List ℕ) (p : ℕ) → (stored x p ≡ true) ↔ (get_or x (p / 8) 0 / 2 ^ (p % 8) % 2 ≡ 1)
  -- the number of set bits: those of weight 1, 2, 4, ... 128 in every byte
  pub bits_set : (x : List ℕ) → set_bits x ≡ foldr (λ b n. b % 2 + b / 2 % 2 + b / 4 % 2 + b / 8 % 2 + b / 16 % 2 + b / 32 % 2 + b / 64 % 2 + b / 128 % 2 + n) 0 x
  -- a buffer zeroed, its filled mark clear, its origin none; one filled from page p; and one stored on it
  pub emptied_is : emptied ≡ record { bytes = replicate 512 0; filled = false; origin = no_origin }
  pub loaded_is : (p : ℕ) (b : List ℕ) → loaded_from p b ≡ record { bytes = b; filled = true; origin = from_page p }
  pub stored_is : (p : ℕ) (b : Buffer) → stored_on p b ≡ record { bytes = b.bytes; filled = b.filled; origin = from_page p }
  -- C from 1 to 1000, index 128 bytes, notepad 512; and with a notepad of n bytes
  pub core_is : core ≡ record { least = 1; most = 1000; indexed = 128; noted = 512 }
  pub shaped_is : (n : ℕ) → shaped n ≡ record { least = 1; most = 1000; indexed = 128; noted = n }
  -- zeroed memory of c pages
  pub zeroed_is : (c i n : ℕ) → zeroed c i n
      ≡ record {
        templates = replicate (512 * c) 0;
        index = replicate i 0;
        notepad = replicate n 0;
        buffer1 = record { bytes = replicate 512 0; filled = false; origin = no_origin };
        buffer2 = record { bytes = replicate 512 0; filled = false; origin = no_origin };
        found = false;
      }

pub memory : Memory
unfolding capacity stored bit emptied loaded_from stored_on core zeroed
memory =
    record {
      pages = λ g. refl;
      bit_stored = λ x p. (eqb-true (get_or x (p / 8) 0 / 2 ^ (p % 8) % 2) 1, eq-eqb (get_or x (p / 8) 0 / 2 ^ (p % 8) % 2) 1);
      bits_set = set_weights;
      emptied_is = refl;
      loaded_is = λ p b. refl;
      stored_is = λ p b. refl;
      core_is = refl;
      shaped_is = λ n. refl;
      zeroed_is = λ c i n. refl;
    }

-- ---- settings

-- each mark is 0 or 1
pub record Marked (m : Marks) : Type 0 where
  pub verified : m.verified ≤ 1
  pub filled1 : m.filled1 ≤ 1
  pub filled2 : m.filled2 ≤ 1
  pub found : m.found ≤ 1

pub record Kept : Type 0 where
  -- fresh: password 0, address FFFFFFFFh, level 3, size code 2, baud factor 6, type 0, marks clear, no transfer; by request [7]
  -- no origins, and by request [8] status bit 1 clear
  pub fresh_is : (t i n b d : List ℕ) → fresh_of t i n b d
      ≡ record {
        plain =
            record {
              password = 0 ∷ 0 ∷ 0 ∷ 0 ∷ [];
              address = 0xff ∷ 0xff ∷ 0xff ∷ 0xff ∷ [];
              level = 3;
              size = 2;
              baud = 6;
              sensor = 0;
              verified = false;
              transfer = closed;
            };
        guarded = record { templates = t; index = i; notepad = n; buffer1 = record { bytes = b; filled = false; origin = no_origin }; buffer2 = record { bytes = d; filled = false; origin = no_origin }; found = false };
      }
  -- size codes 0, 1, 2, 3 mean 32, 64, 128, 256 data bytes
  pub sizes : (size_of 0 ∷ size_of 1 ∷ size_of 2 ∷ size_of 3 ∷ []) ≡ (32 ∷ 64 ∷ 128 ∷ 256 ∷ [])
  -- locked: password not zero and verified mark clear
  pub keyed_means : (p : Plain) → T (keyed p) ↔ (p.password ≢ 0 ∷ 0 ∷ 0 ∷ 0 ∷ [])
  pub locked_means : (p : Plain) → T (locked p) ↔ ((p.password ≢ 0 ∷ 0 ∷ 0 ∷ 0 ∷ []) × (p.verified ≡ false))
  -- the status word is 4 if the verified mark is set, otherwise 0; by request [8] and 2 more if status bit 1 is
  pub status_is : (status_of false false ∷ status_of false true ∷ status_of true false ∷ status_of true true ∷ []) ≡ (0 ∷ 2 ∷ 4 ∷ 6 ∷ [])
  -- buffer 1 or 2, by number
  pub buffer_means : (b : ℕ) → T (is_buffer b) ↔ ((b ≡ 1) ⊎ (b ≡ 2))
  pub buffer_one : (g : Guarded) → buffer_of (second 1) g ≡ g.buffer1
  pub buffer_two : (g : Guarded) → buffer_of (second 2) g ≡ g.buffer2
  -- a mark is 0 or 1
  pub marks_mean : (m : Marks) → (fit_marks m ≡ true) ↔ Marked m
  -- transfer: none, or buffer 1 or 2 with the bytes got so far; what names none of them, and any two numbers beside another mark, stay as they are
  pub transfer_none : (m : Marks) → Marked m → transfer_of m 0 0 ≡ closed
  pub transfer_one : (m : Marks) → Marked m → (k : ℕ) → transfer_of m 1 k ≡ opened (second 1) k
  pub transfer_two : (m : Marks) → Marked m → (k : ℕ) → transfer_of m 2 k ≡ opened (second 2) k
  pub transfer_unfit : (m : Marks) (b k : ℕ) → (b ≡ 0 → k ≢ 0) → b ≢ 1 → b ≢ 2 → transfer_of m b k ≡ unfit b k m
  pub transfer_unmarked : (m : Marks) → (Marked m → ⊥) → (b k : ℕ) → transfer_of m b k ≡ unfit b k m
  -- origin: none, which is FFFFh, or a page
  pub origin_none : origin_of 0xffff ≡ no_origin
  pub origin_page : (p : ℕ) → p ≢ 0xffff → origin_of p ≡ from_page p

keyed_iff : (p : Plain) → T (keyed p) ↔ (p.password ≢ 0 ∷ 0 ∷ 0 ∷ 0 ∷ [])
unfolding keyed four
keyed_iff p =
    (λ t e. T_not (same p.password (four 0)) t (rw (e, same_refl (four 0)) tt), λ d. not_T (same p.password (four 0)) (λ t. d (same_eq p.password (four 0) (T→true (same p.password (four 0)) t))))

locked_iff : (p : Plain) → T (locked p) ↔ ((p.password ≢ 0 ∷ 0 ∷ 0 ∷ 0 ∷ []) × (p.verified ≡ false))
unfolding locked
locked_iff p =
    (λ t. ((keyed_iff p).0 (search (and_l)), T→false p.verified (search (and_r))), λ h. and_i (keyed p) (not p.verified) ((keyed_iff p).1 h.0) (rw h.1 tt))

buffer_iff : (b : ℕ) → T (is_buffer b) ↔ ((b ≡ 1) ⊎ (b ≡ 2))
unfolding is_buffer
buffer_iff b = (to (eqb b 1) (eqb b 2) refl refl, from)
  where
    to : (x y : Bool) → eqb b 1 ≡ x → eqb b 2 ≡ y → T (x || y) → (b ≡ 1) ⊎ (b ≡ 2)
    to true y e f t = inl (eqb-true b 1 e)
    to false true e f t = inr (eqb-true b 2 f)
    to false false e f t = absurd t

    from : (b ≡ 1) ⊎ (b ≡ 2) → T (is_buffer b)
    from (inl e) = rw e tt
    from (inr e) = rw e tt

marks_iff : (m : Marks) → (fit_marks m ≡ true) ↔ Marked m
unfolding fit_mark
marks_iff m = (
  λ e. record { verified = to m.verified (fit_verified m e); filled1 = to m.filled1 (fit_filled1 m e); filled2 = to m.filled2 (fit_filled2 m e); found = to m.found (fit_found m e) },
  λ h. fit_marks_lem m.verified m.filled1 m.filled2 m.found (from m.verified h.verified) (from m.filled1 h.filled1) (from m.filled2 h.filled2) (from m.found h.found),
)
  where
    to : (k : ℕ) → fit_mark k ≡ true → k ≤ 1
    to k e = let l = ltb-true k 2 e in omega arith

    from : (k : ℕ) → k ≤ 1 → fit_mark k ≡ true
    from k l = lt-ltb k 2 (omega arith)

no_transfer : (m : Marks) (b k : ℕ) → (b ≡ 0 → k ≢ 0) → b ≢ 1 → b ≢ 2 → transfer_of m b k ≡ unfit b k m
no_transfer m b k h d e = transfer_kinds m b k (λ t. t ≡ unfit b k m) (λ f x y. absurd (h x y)) (λ f x. absurd (d x)) (λ f x. absurd (e x)) refl

unmarked : (m : Marks) → (Marked m → ⊥) → (b k : ℕ) → transfer_of m b k ≡ unfit b k m
unmarked m h b k = transfer_kinds m b k (λ t. t ≡ unfit b k m) (λ f x y. absurd (h ((marks_iff m).0 f))) (λ f x. absurd (h ((marks_iff m).0 f))) (λ f x. absurd (h ((marks_iff m).0 f))) refl

pub kept : Kept
unfolding fresh four size_of status_of buffer_of is_buffer origin_of
kept =
    record {
      fresh_is = λ t i n b d. refl;
      sizes = refl;
      keyed_means = keyed_iff;
      locked_means = locked_iff;
      status_is = refl;
      buffer_means = buffer_iff;
      buffer_one = λ g. refl;
      buffer_two = λ g. refl;
      marks_mean = marks_iff;
      transfer_none = λ m h. none_beside m ((marks_iff m).1 h) 0 0 refl refl;
      transfer_one = λ m h k. into_beside m ((marks_iff m).1 h) 1 k refl;
      transfer_two = λ m h k. into_beside m ((marks_iff m).1 h) 2 k refl;
      transfer_unfit = no_transfer;
      transfer_unmarked = unmarked;
      origin_none = refl;
      origin_page = λ p d. rw (ne_eqb p 0xffff d) refl;
    }

-- ---- lists of bytes

pub record Lists : Type 0 where
  -- every cell is a byte
  pub bytes_means : (s : List ℕ) → Bytes s ↔ ((i : ℕ) → get_or s i 0 < 256)
  -- numbers are high byte first
  pub two_bytes : (h l : ℕ) → h < 256 → l < 256 → two (h * 256 + l) ≡ h ∷ l ∷ []
  pub four_bytes_lem : (a b c d : ℕ) → a < 256 → b < 256 → c < 256 → d < 256 → four (a * 16777216 + b * 65536 + c * 256 + d) ≡ a ∷ b ∷ c ∷ d ∷ []
  pub same_means : (s t : List ℕ) → (same s t ≡ true) ↔ (s ≡ t)
  -- s laid over d from the place i on: d keeps its length and every other byte
  pub laid_length : (i : ℕ) (s d : List ℕ) → i + length s ≤ length d → length (lay i s d) ≡ length d
  pub laid_before : (i : ℕ) (s d : List ℕ) → i + length s ≤ length d → (j : ℕ) → j < i → get_or (lay i s d) j 0 ≡ get_or d j 0
  pub laid_inside : (i : ℕ) (s d : List ℕ) → i + length s ≤ length d → (j : ℕ) → j < length s → get_or (lay i s d) (i + j) 0 ≡ get_or s j 0
  pub laid_behind : (i : ℕ) (s d : List ℕ) → i + length s ≤ length d → (j : ℕ) → i + length s ≤ j → get_or (lay i s d) j 0 ≡ get_or d j 0
  -- lists one behind the other
  pub joined_is : (ss : List (List ℕ)) → joined ss ≡ foldr ◌++◌ [] ss
  -- of how many numbers below n a test is true
  pub none_counted : (f : ℕ → Bool) → count_below f 0 ≡ 0
  pub true_counted : (f : ℕ → Bool) (n : ℕ) → f n ≡ true → count_below f (suc n) ≡ count_below f n + 1
  pub false_counted : (f : ℕ → Bool) (n : ℕ) → f n ≡ false → count_below f (suc n) ≡ count_below f n
  -- whether it is true of some of them; and a list of as many numbers, one for each
  pub some_true : (f : ℕ → Bool) (n i : ℕ) → i < n → f i ≡ true → some f n ≡ true
  pub none_true : (f : ℕ → Bool) (n : ℕ) → ((i : ℕ) → i < n → f i ≡ false) → some f n ≡ false
  pub listed_long : (f : ℕ → ℕ) (n : ℕ) → length (listed f n) ≡ n
  pub listed_at : (f : ℕ → ℕ) (n i : ℕ) → i < n → get_or (listed f n) i 0 ≡ f i
  -- the reply is the front of the reply room, as long as was told
  pub reply_is : (t : Told) → reply_of t ≡ take t.length t.room

two_of : (h l : ℕ) → h < 256 → l < 256 → two (h * 256 + l) ≡ h ∷ l ∷ []
unfolding two
two_of h l a b =
    let x : (h * 256 + l) / 256 % 256 ≡ h = omega arith in
    let y : (h * 256 + l) % 256 ≡ l = omega arith in
    rw (x, y) refl

four_of : (a b c d : ℕ) → a < 256 → b < 256 → c < 256 → d < 256 → four (a * 16777216 + b * 65536 + c * 256 + d) ≡ a ∷ b ∷ c ∷ d ∷ []
unfolding four
four_of a b c d w x y z =
    let n : ℕ = a * 16777216 + b * 65536 + c * 256 + d in
    let e : n / 16777216 % 256 ≡ a = omega arith in
    let f : n / 65536 % 256 ≡ b = omega arith in
    let g : n / 256 % 256 ≡ c = omega arith in
    let h : n % 256 ≡ d = omega arith in
    rw (e, f, g, h) refl

joined_of : (ss : List (List ℕ)) → joined ss ≡ foldr ◌++◌ [] ss
unfolding joined
joined_of [] = refl
joined_of (s ∷ ss) = ap (λ (t : List ℕ). s ++ t) (joined_of ss)

pub lists : Lists
unfolding Bytes count_below reply_of
lists =
    record {
      bytes_means = λ s. (λ h. h, λ h. h);
      two_bytes = two_of;
      four_bytes_lem = four_of;
      same_means = λ s t. (same_eq s t, λ e. rw e (same_refl t));
      laid_length = length_lay;
      laid_before = at_before;
      laid_inside = at_inside;
      laid_behind = at_behind;
      joined_is = joined_of;
      none_counted = λ f. refl;
      true_counted = λ f n e. rw e (omega arith);
      false_counted = λ f n e. rw e (omega arith);
      some_true = some_at;
      none_true = some_none;
      listed_long = length_listed;
      listed_at = at_listed;
      reply_is = λ t. refl;
    }

-- ---- sequences of calls and line switches

pub record Sequences (σ : Shape) : Type 0 where
  pub on_run : (r : Reader) (s : List ℕ) (lent : Lent) → on σ r (received s lent) ≡ call_of σ r s lent
  pub on_switch : (r : Reader) → on σ r switch ≡ switch_of r
  -- each event finds the reader that the one before it left
  pub finally_none : (r : Reader) → finally σ r [] ≡ r
  pub finally_run : (r : Reader) (s : List ℕ) (lent : Lent) (es : List Event) → finally σ r (received s lent ∷ es) ≡ finally σ (call_of σ r s lent).after es
  pub finally_switch : (r : Reader) (es : List Event) → finally σ r (switch ∷ es) ≡ finally σ (switch_of r).after es
  -- a dialogue tells all that each event got back; it stops behind the first that leaves the verified mark set, and goes on behind every other
  pub dialogue_none : (r : Reader) → dialogue σ r [] ≡ record { events = []; told = []; last = r }
  pub dialogue_stops : (r : Reader) (e : Event) (es : List Event) → (on σ r e).after.plain.verified ≡ true
      → dialogue σ r (e ∷ es) ≡ record { events = e ∷ []; told = (on σ r e).told ∷ []; last = (on σ r e).after }
  pub dialogue_goes_on : (r : Reader) (e : Event) (es : List Event) → (on σ r e).after.plain.verified ≡ false
      → dialogue σ r (e ∷ es)
      ≡ (let d = dialogue σ (on σ r e).after es in
      record { events = e ∷ d.events; told = (on σ r e).told ∷ d.told; last = d.last })

pub sequences : (σ : Shape) → Sequences σ
unfolding finally on dialogue over first
sequences σ =
    record {
      on_run = λ r s lent. refl;
      on_switch = λ r. refl;
      finally_none = λ r. refl;
      finally_run = λ r s lent es. refl;
      finally_switch = λ r es. refl;
      dialogue_none = λ r. refl;
      dialogue_stops = λ r e es v. rw v refl;
      dialogue_goes_on = λ r e es v. rw v refl;
    }
