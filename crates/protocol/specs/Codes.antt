-- The numbers that the code's enums stand for, by their names in Numbers, and by the table of commands.
use Rattle.std.specs.Prelude.{◌≡◌, ◌≢◌, ℕ, Result, Ok, Err, MatchResult}
use Rattle.protocol.specs.declared.refusals.Refusal.{Refusal}
use Rattle.protocol.specs.declared.refusals.Refusal.TheVariants.{BadLength, BadRoom, BadSetting, BadContent}
use Rattle.protocol.specs.declared.codes.Code.{Code}
use Rattle.protocol.specs.declared.codes.Code.TheVariants.{Done, BadPacket, NotFound, BadPage, NothingThere, NothingToSend, TransferFailed, BadRange, WrongPassword, UnknownCommand, BadParameter, BadValue, BadNotePage, PasswordFirst, PageTaken}
use Rattle.protocol.specs.declared.command_codes.CommandCode.{CommandCode}
use Rattle.protocol.specs.declared.command_codes.CommandCode.TheVariants.{Search, Store, LoadChar, UpChar, DownChar, DeletChar, Empty, SetSysPara, ReadSysPara, SetPwd, VfyPwd, SetAdder, WriteNotepad, ReadNotepad, TempleteNum, ReadIndexTable, HandShake}
use Rattle.protocol.specs.declared.identifiers.Identifier.{Identifier}
use Rattle.protocol.specs.declared.identifiers.Identifier.TheVariants.{Command, Data, Acknowledge, Last}
use Rattle.protocol.specs.declared.identifiers.UnknownIdentifier.{UnknownIdentifier}
use Rattle.protocol.specs.Numbers.{done, bad_packet, not_found, bad_page, nothing_there, nothing_to_send, transfer_failed, bad_range, wrong_password, unknown_command, bad_parameter, bad_value, bad_note_page, password_first, page_taken, bad_length, bad_room, bad_setting, bad_content, command_packet, data_packet, acknowledge_packet, last_packet}

-- ---- refusals

abbrev pub refusal_number : Refusal → ℕ
refusal_number BadLength = bad_length
refusal_number BadRoom = bad_room
refusal_number BadSetting = bad_setting
refusal_number BadContent = bad_content

-- what a caller gets back: the refusal, or 0
abbrev pub outcome_number : {T : Type 0} → Result T Refusal → ℕ
outcome_number (Ok x) = 0
outcome_number (Err e) = refusal_number e

-- ---- acknowledge codes

abbrev pub code_number : Code → ℕ
code_number Done = done
code_number BadPacket = bad_packet
code_number NotFound = not_found
code_number BadPage = bad_page
code_number NothingThere = nothing_there
code_number NothingToSend = nothing_to_send
code_number TransferFailed = transfer_failed
code_number BadRange = bad_range
code_number WrongPassword = wrong_password
code_number UnknownCommand = unknown_command
code_number BadParameter = bad_parameter
code_number BadValue = bad_value
code_number BadNotePage = bad_note_page
code_number PasswordFirst = password_first
code_number PageTaken = page_taken

-- ---- commands, by the codes of document 01's table

abbrev pub command_number : CommandCode → ℕ
command_number Search = 0x04
command_number Store = 0x06
command_number LoadChar = 0x07
command_number UpChar = 0x08
command_number DownChar = 0x09
command_number DeletChar = 0x0c
command_number Empty = 0x0d
command_number SetSysPara = 0x0e
command_number ReadSysPara = 0x0f
command_number SetPwd = 0x12
command_number VfyPwd = 0x13
command_number SetAdder = 0x15
command_number WriteNotepad = 0x18
command_number ReadNotepad = 0x19
command_number TempleteNum = 0x1d
command_number ReadIndexTable = 0x1f
command_number HandShake = 0x40

-- ---- identifiers

abbrev pub identifier_number : Identifier → ℕ
identifier_number Command = command_packet
identifier_number Data = data_packet
identifier_number Acknowledge = acknowledge_packet
identifier_number Last = last_packet

-- the identifier of a number; none where it is none of the four
abbrev pub Identifies : ℕ → Result Identifier UnknownIdentifier → Type 0
Identifies k r = MatchResult r (λ i. identifier_number i ≡ k) (λ e. (k ≢ command_packet) × ((k ≢ data_packet) × ((k ≢ acknowledge_packet) × (k ≢ last_packet))))
