-- The numbers that the code's enums stand for: no two variants of an enum have one number, so a contract that says the number of what a function gives admits one result.
use mathlib.Core.Bool.{cond}
use mathlib.Core.Path.{◌≡◌, refl, sym, ap, ◌∙◌}
use mathlib.Core.List.{List, [], ◌∷◌}
use Prim.Native.Nat.{ℕ}
use lib.Dec.{eqb}
use Rattle.std.specs.Prelude.{Result, Ok, Err}
use Rattle.protocol.specs.declared.codes.Code.{Code}
use Rattle.protocol.specs.declared.codes.Code.TheVariants.{Done, BadPacket, NotFound, BadPage, NothingThere, NothingToSend, TransferFailed, BadRange, WrongPassword, UnknownCommand, BadParameter, BadValue, BadNotePage, PasswordFirst, PageTaken}
use Rattle.protocol.specs.declared.command_codes.CommandCode.{CommandCode}
use Rattle.protocol.specs.declared.command_codes.CommandCode.TheVariants.{Search, Store, LoadChar, UpChar, DownChar, DeletChar, Empty, SetSysPara, ReadSysPara, SetPwd, VfyPwd, SetAdder, WriteNotepad, ReadNotepad, TempleteNum, ReadIndexTable, HandShake}
use Rattle.protocol.specs.declared.identifiers.Identifier.{Identifier}
use Rattle.protocol.specs.declared.identifiers.Identifier.TheVariants.{Command, Data, Acknowledge, Last}
use Rattle.protocol.specs.declared.identifiers.UnknownIdentifier.{UnknownIdentifier}
use Rattle.protocol.specs.Codes.{code_number, command_number, identifier_number, Identifies}

-- the first of these with a number, or else the last
pick : {T : Type 0} → (T → ℕ) → List T → T → ℕ → T
pick number [] last k = last
pick number (x ∷ xs) last k = cond (eqb (number x) k) x (pick number xs last k)

-- ---- commands

command_at : ℕ → CommandCode
command_at = pick command_number (Search ∷ Store ∷ LoadChar ∷ UpChar ∷ DownChar ∷ DeletChar ∷ Empty ∷ SetSysPara ∷ ReadSysPara ∷ SetPwd ∷ VfyPwd ∷ SetAdder ∷ WriteNotepad ∷ ReadNotepad ∷ TempleteNum ∷ ReadIndexTable ∷ []) HandShake

command_back : (x : CommandCode) → command_at (command_number x) ≡ x
unfolding command_at pick
command_back Search = refl
command_back Store = refl
command_back LoadChar = refl
command_back UpChar = refl
command_back DownChar = refl
command_back DeletChar = refl
command_back Empty = refl
command_back SetSysPara = refl
command_back ReadSysPara = refl
command_back SetPwd = refl
command_back VfyPwd = refl
command_back SetAdder = refl
command_back WriteNotepad = refl
command_back ReadNotepad = refl
command_back TempleteNum = refl
command_back ReadIndexTable = refl
command_back HandShake = refl

pub one_command : (x y : CommandCode) → command_number x ≡ command_number y → x ≡ y
one_command x y e = sym (command_back x) ∙ ap command_at e ∙ command_back y

-- ---- acknowledge codes

code_at : ℕ → Code
code_at = pick code_number (Done ∷ BadPacket ∷ NotFound ∷ BadPage ∷ NothingThere ∷ NothingToSend ∷ TransferFailed ∷ BadRange ∷ WrongPassword ∷ UnknownCommand ∷ BadParameter ∷ BadValue ∷ BadNotePage ∷ PasswordFirst ∷ []) PageTaken

code_back : (x : Code) → code_at (code_number x) ≡ x
unfolding code_at pick
code_back Done = refl
code_back BadPacket = refl
code_back NotFound = refl
code_back BadPage = refl
code_back NothingThere = refl
code_back NothingToSend = refl
code_back TransferFailed = refl
code_back BadRange = refl
code_back WrongPassword = refl
code_back UnknownCommand = refl
code_back BadParameter = refl
code_back BadValue = refl
code_back BadNotePage = refl
code_back PasswordFirst = refl
code_back PageTaken = refl

pub one_code : (x y : Code) → code_number x ≡ code_number y → x ≡ y
one_code x y e = sym (code_back x) ∙ ap code_at e ∙ code_back y

-- ---- identifiers

identifier_at : ℕ → Identifier
identifier_at = pick identifier_number (Command ∷ Data ∷ Acknowledge ∷ []) Last

identifier_back : (x : Identifier) → identifier_at (identifier_number x) ≡ x
unfolding identifier_at pick
identifier_back Command = refl
identifier_back Data = refl
identifier_back Acknowledge = refl
identifier_back Last = refl

pub one_identifier : (x y : Identifier) → identifier_number x ≡ identifier_number y → x ≡ y
one_identifier x y e = sym (identifier_back x) ∙ ap identifier_at e ∙ identifier_back y

-- what `try_from` gives: an identifier of that number, or none where there is none
known : (i : Identifier) (k : ℕ) (e : UnknownIdentifier) → identifier_number i ≡ k → Identifies k (Err e) → ⊥
known Command k e a b = b.0 (sym a)
known Data k e a b = b.1.0 (sym a)
known Acknowledge k e a b = b.1.1.0 (sym a)
known Last k e a b = b.1.1.1 (sym a)

pub one_identified : (k : ℕ) (x y : Result Identifier UnknownIdentifier) → Identifies k x → Identifies k y → x ≡ y
one_identified k (Ok i) (Ok j) a b = ap Ok (one_identifier i j (a ∙ sym b))
one_identified k (Ok i) (Err e) a b = absurd (known i k e a b)
one_identified k (Err e) (Ok j) a b = absurd (known j k e b a)
one_identified k (Err e) (Err f) a b = refl
