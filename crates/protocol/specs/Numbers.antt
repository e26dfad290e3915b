-- Numbers of document 01 and of its change requests, by name.
use Rattle.std.specs.Prelude.{ℕ, ◌+◌}

-- ---- lent memory

-- a page of templates, and a character buffer
abbrev pub page_bytes : ℕ
page_bytes = 512

-- the least and the most pages of a library (request [6])
abbrev pub least_pages : ℕ
least_pages = 1

abbrev pub most_pages : ℕ
most_pages = 1000

-- an index, and the part of it that one ReadIndexTable gives
abbrev pub index_bytes : ℕ
index_bytes = 128

abbrev pub index_page_bytes : ℕ
index_page_bytes = 32

-- an index stored before request [6], and the zero bytes that bring it over
abbrev pub old_index_bytes : ℕ
old_index_bytes = 32

abbrev pub added_bytes : ℕ
added_bytes = 96

-- the notepad, and one of its pages
abbrev pub notepad_bytes : ℕ
notepad_bytes = 512

abbrev pub note_bytes : ℕ
note_bytes = 32

-- the reply room at least
abbrev pub reply_room : ℕ
reply_room = 700

-- the thresholds: one for each level (request [8])
abbrev pub levels : ℕ
levels = 5

-- the pages of the bench program
abbrev pub bench_pages : ℕ
bench_pages = 64

-- a password, and an address
abbrev pub four_bytes : ℕ
four_bytes = 4

-- ---- settings

abbrev pub lowest_level : ℕ
lowest_level = 1

abbrev pub highest_level : ℕ
highest_level = 5

abbrev pub lowest_baud : ℕ
lowest_baud = 1

abbrev pub highest_baud : ℕ
highest_baud = 12

-- the largest size code (request [3])
unfoldable pub highest_size : ℕ
highest_size = 3

-- fresh settings
abbrev pub fresh_password : ℕ
fresh_password = 0

abbrev pub fresh_address : ℕ
fresh_address = 0xffffffff

abbrev pub fresh_level : ℕ
fresh_level = 3

-- by request [2]: 128 data bytes
abbrev pub fresh_size : ℕ
fresh_size = 2

abbrev pub fresh_baud : ℕ
fresh_baud = 6

abbrev pub fresh_sensor : ℕ
fresh_sensor = 0

-- the parameter numbers of SetSysPara
abbrev pub baud_parameter : ℕ
baud_parameter = 4

abbrev pub level_parameter : ℕ
level_parameter = 5

abbrev pub size_parameter : ℕ
size_parameter = 6

-- the bits of the status word: verified; and, by request [8], a Search found a page
abbrev pub verified_status : ℕ
verified_status = 4

abbrev pub found_status : ℕ
found_status = 2

-- ---- packets

-- the two bytes that start a packet
abbrev pub first_mark : ℕ
first_mark = 0xef

abbrev pub second_mark : ℕ
second_mark = 0x01

-- the marks, the address, the identifier and the length field
abbrev pub head_bytes : ℕ
head_bytes = 9

-- the head and the sum: what a packet has beside its content
abbrev pub frame_bytes : ℕ
frame_bytes = 11

-- identifiers
abbrev pub command_packet : ℕ
command_packet = 1

abbrev pub data_packet : ℕ
data_packet = 2

abbrev pub acknowledge_packet : ℕ
acknowledge_packet = 7

abbrev pub last_packet : ℕ
last_packet = 8

-- the length field of one byte of content
abbrev pub shortest : ℕ
shortest = 3

-- the largest, which data packets have (request [3]); and that of commands and acknowledges (source 002's maximum)
unfoldable pub longest : ℕ
longest = 258

abbrev pub longest_other : ℕ
longest_other = 256

-- what a receiver holds at most: the longest packet (request [1])
unfoldable pub holds : ℕ
holds = head_bytes + longest

-- ---- acknowledge codes

abbrev pub done : ℕ
done = 0x00

-- a damaged packet, a wrong length, or no such buffer
abbrev pub bad_packet : ℕ
bad_packet = 0x01

-- Search found none (request [8])
abbrev pub not_found : ℕ
not_found = 0x09

abbrev pub bad_page : ℕ
bad_page = 0x0b

-- a buffer that is not filled, or a page that is vacant
abbrev pub nothing_there : ℕ
nothing_there = 0x0c

abbrev pub nothing_to_send : ℕ
nothing_to_send = 0x0d

abbrev pub transfer_failed : ℕ
transfer_failed = 0x0e

abbrev pub bad_range : ℕ
bad_range = 0x10

abbrev pub wrong_password : ℕ
wrong_password = 0x13

abbrev pub unknown_command : ℕ
unknown_command = 0x19

abbrev pub bad_parameter : ℕ
bad_parameter = 0x1a

abbrev pub bad_value : ℕ
bad_value = 0x1b

abbrev pub bad_note_page : ℕ
bad_note_page = 0x1c

-- fixed by document 01, whatever a fuller table says
abbrev pub password_first : ℕ
password_first = 0x21

-- a page that is stored already (request [5])
abbrev pub page_taken : ℕ
page_taken = 0x22

-- ---- numbers a caller gets back

abbrev pub bad_length : ℕ
bad_length = 1

abbrev pub bad_room : ℕ
bad_room = 2

abbrev pub bad_setting : ℕ
bad_setting = 3

abbrev pub bad_content : ℕ
bad_content = 4

-- the index count's answer to an index of another length
abbrev pub no_count : ℕ
no_count = 0xffff

-- the number that stands for no origin in a settings record, by request [7]
abbrev pub no_page : ℕ
no_page = 0xffff

-- ---- not document 01's: where the code's numbers of places and lengths wrap

abbrev pub wraps_at : ℕ
wraps_at = 18446744073709551616
