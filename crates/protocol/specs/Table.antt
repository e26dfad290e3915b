-- The seventeen commands: document 01's table, right half. Each row's tests, left to right, and its effect. Search is request [8]'s; Store's last test is request [5]'s; how many pages
-- ReadIndexTable has goes by the index's length, which is request [6]'s; the buffers' origins are request [7]'s; that the lock lets ReadSysPara pass is request [13]'s.
use Rattle.std.specs.Prelude.{Bool, ◌&&◌, ◌||◌, not, cond, List, [], ◌∷◌, ℕ, ◌+◌, ◌*◌, ◌/◌, eqb, ltb, leb, length}
use Rattle.protocol.specs.Numbers.{page_bytes, note_bytes, index_page_bytes, lowest_level, highest_level, lowest_baud, highest_baud, highest_size, baud_parameter, level_parameter, size_parameter, verified_status, found_status, done, bad_packet, bad_page, nothing_there, nothing_to_send, bad_range, wrong_password, bad_parameter, bad_value, bad_note_page, page_taken}
use Rattle.protocol.specs.Bytes.{two, part, zeros, same, lay, joined}
use Rattle.protocol.specs.Tests.{Test, within, among}
use Rattle.protocol.specs.Index.{stored, set_bit, clear_bits, set_bits}
use Rattle.protocol.specs.Reader.{opened, Plain, Reader, capacity, size_of, locked, buffer_of, emptied, loaded_from, stored_on, with_mark, with_transfer, with_password, with_address, with_tuning, with_library, with_notepad, with_buffer, without_pages, with_found, reader}
use Rattle.protocol.specs.Commands.{Free, read_sys_para, verify_password, hand_shake, Barred, search_for, store, load_char, up_char, down_char, delet_char, empty, set_sys_para, set_password, set_address, write_notepad, read_notepad, templete_num, read_index_table}
use Rattle.protocol.specs.Data.{data_packets}
use Rattle.protocol.specs.Search.{Match, Chip, search_of, match_code, match_bytes}

-- ---- the commands that the lock bars

-- what a command whose tests pass does to the reader
pub data Effect : Type 0 where
  keep : Effect
  -- page p gets a buffer's bytes (the second's?) and its bit, and is the buffer's origin
  fill_page : Bool → ℕ → Effect
  -- n pages from p on lose their bits and their bytes, and so do buffers whose origin is one of them; all pages do
  erase : ℕ → ℕ → Effect
  erase_all : Effect
  -- a buffer (the second?) gets page p's bytes and its mark, and page p is its origin
  fill_buffer : Bool → ℕ → Effect
  -- a buffer is zeroed, its mark cleared, its origin none, and a transfer into it opened
  await : Bool → Effect
  -- these bytes go into the notepad, from the place i on
  note : ℕ → List ℕ → Effect
  -- status bit 1 is set or cleared
  remember : Bool → Effect
  -- other settings
  settle : Plain → Effect

unfoldable pub apply : Effect → Reader → Reader
apply keep r = r
apply (fill_page w p) r =
    let g = r.guarded in
    let b = buffer_of w g in
    reader r.plain (with_buffer w (stored_on p b) (with_library (lay (page_bytes * p) b.bytes g.templates) (set_bit g.index p) g))
apply (erase p n) r =
    let g = r.guarded in
    reader r.plain (without_pages (among p n) (with_library (lay (page_bytes * p) (zeros (page_bytes * n)) g.templates) (clear_bits g.index p n) g))
apply erase_all r =
    let g = r.guarded in
    reader r.plain (without_pages (among 0 (capacity g)) (with_library (zeros (length g.templates)) (zeros (length g.index)) g))
apply (fill_buffer w p) r = reader r.plain (with_buffer w (loaded_from p (part (page_bytes * p) page_bytes r.guarded.templates)) r.guarded)
apply (await w) r = reader (with_transfer (opened w 0) r.plain) (with_buffer w emptied r.guarded)
apply (note i b) r = reader r.plain (with_notepad (lay i b r.guarded.notepad) r.guarded)
apply (remember f) r = reader r.plain (with_found f r.guarded)
apply (settle p) r = reader p r.guarded

-- a row: its tests, each with its code; then, where all pass, its code, the listed bytes, the data packets behind the reply, and the effect
pub record Row : Type 0 where
  pub tests : List Test
  pub code : ℕ
  pub bytes : List ℕ
  pub behind : List ℕ
  pub effect : Effect

abbrev pub does : List Test → Effect → Row
does ts e = record { tests = ts; code = done; bytes = []; behind = []; effect = e }

abbrev pub gives : List Test → List ℕ → Row
gives ts b = record { tests = ts; code = done; bytes = b; behind = []; effect = keep }

abbrev pub sends : List Test → List ℕ → Row
sends ts d = record { tests = ts; code = done; bytes = []; behind = d; effect = keep }

-- request [8]: "09h is an exception to two rules of document 01: it changes a bit and it carries bytes"
abbrev pub finds : List Test → Match → Row
finds ts m = record { tests = ts; code = match_code m; bytes = match_bytes m; behind = []; effect = remember m.found }

-- buffer numbers
unfoldable pub is_buffer : ℕ → Bool
is_buffer b = eqb b 1 || eqb b 2

abbrev pub second : ℕ → Bool
second b = eqb b 2

-- the range of a parameter, and the settings with it set
unfoldable pub in_range : ℕ → ℕ → Bool
in_range k v = cond (eqb k baud_parameter) (within lowest_baud v highest_baud) (cond (eqb k level_parameter) (within lowest_level v highest_level) (leb v highest_size))

unfoldable pub with_parameter : ℕ → ℕ → Plain → Plain
with_parameter k v p =
    cond (eqb k baud_parameter) (with_tuning v p.level p.size p)
    (cond (eqb k level_parameter) (with_tuning p.baud v p.size p) (with_tuning p.baud p.level v p))

-- the scores and thresholds are those lent with this call
unfoldable pub rule : Chip → Reader → Barred → Row
rule χ r (search_for b p n) =
    let g = r.guarded in
    finds ((is_buffer b, bad_packet) ∷ (ltb p (capacity g), bad_page) ∷ ((buffer_of (second b) g).filled, nothing_there) ∷ []) (search_of χ r.plain.level g p n)
rule χ r (store b p) =
    let g = r.guarded in
    does
    ((is_buffer b, bad_packet) ∷ (ltb p (capacity g), bad_page) ∷ ((buffer_of (second b) g).filled, nothing_there) ∷ (not (stored g.index p), page_taken) ∷ [])
    (fill_page (second b) p)
rule χ r (load_char b p) =
    let g = r.guarded in
    does ((is_buffer b, bad_packet) ∷ (ltb p (capacity g), bad_page) ∷ (stored g.index p, nothing_there) ∷ []) (fill_buffer (second b) p)
rule χ r (up_char b) =
    let g = r.guarded in
    sends ((is_buffer b, bad_packet) ∷ ((buffer_of (second b) g).filled, nothing_to_send) ∷ [])
    (data_packets r.plain.address (size_of r.plain.size) (buffer_of (second b) g).bytes)
rule χ r (down_char b) = does ((is_buffer b, bad_packet) ∷ []) (await (second b))
rule χ r (delet_char p n) = let c = capacity r.guarded in does ((ltb p c && leb (p + n) c, bad_range) ∷ []) (erase p n)
rule χ r empty = does [] erase_all
rule χ r (set_sys_para k v) = does ((within baud_parameter k size_parameter, bad_parameter) ∷ (in_range k v, bad_value) ∷ []) (settle (with_parameter k v r.plain))
rule χ r (set_password w) = does [] (settle (with_password w r.plain))
rule χ r (set_address a) = does [] (settle (with_address a r.plain))
rule χ r (write_notepad p b) = does ((ltb p (length r.guarded.notepad / note_bytes), bad_note_page) ∷ []) (note (note_bytes * p) b)
rule χ r (read_notepad p) =
    gives ((ltb p (length r.guarded.notepad / note_bytes), bad_note_page) ∷ []) (part (note_bytes * p) note_bytes r.guarded.notepad)
rule χ r templete_num = gives [] (two (set_bits r.guarded.index))
rule χ r (read_index_table p) =
    gives ((ltb p (length r.guarded.index / index_page_bytes), bad_page) ∷ []) (part (index_page_bytes * p) index_page_bytes r.guarded.index)

-- ---- the three that the lock lets pass

-- all that a locked reader's answers may depend on: the settings but for the filled marks and the origins; the capacity; and status bit 1 as it shows, by request
-- [13] "as 0 while locked"
pub record Public : Type 0 where
  pub plain : Plain
  pub capacity : ℕ
  pub shown : Bool

unfoldable pub public_of : Reader → Public
public_of r = record { plain = r.plain; capacity = capacity r.guarded; shown = not (locked r.plain) && r.guarded.found }

-- such a row sees only that, and changes settings alone: its code, the listed bytes, and the settings after it
pub record FreeRow : Type 0 where
  pub code : ℕ
  pub bytes : List ℕ
  pub plain : Plain

-- 4 if the verified mark is set, otherwise 0; and by request [8] 2 more if status bit 1 shows
unfoldable pub status_of : Bool → Bool → ℕ
status_of verified shown = cond verified verified_status 0 + cond shown found_status 0

-- status, type, C, level, address, size code, baud factor
unfoldable pub parameters_of : Public → List ℕ
parameters_of v =
    let p = v.plain in
    joined (two (status_of p.verified v.shown) ∷ two p.sensor ∷ two v.capacity ∷ two p.level ∷ p.address ∷ two p.size ∷ two p.baud ∷ [])

unfoldable pub free_rule : Public → Free → FreeRow
free_rule v read_sys_para = record { code = done; bytes = parameters_of v; plain = v.plain }
free_rule v (verify_password w) =
    let equal = same w v.plain.password in
    record { code = cond equal done wrong_password; bytes = []; plain = with_mark equal v.plain }
free_rule v hand_shake = record { code = done; bytes = []; plain = v.plain }
