-- The seventeen commands: document 01's table, left half, and request [8]'s Search. Each code fixes its length field, and says where its parameters lie in the content.
use Rattle.std.specs.Prelude.{Bool, cond, List, [], ◌∷◌, ℕ, eqb, drop}
use Rattle.protocol.specs.Bytes.{byte_at, word_at}
use Rattle.protocol.specs.Packet.{length_of}

-- a locked reader carries these out too: 13h and 40h by document 01, and 0Fh by request [13]
pub data Free : Type 0 where
  read_sys_para : Free
  verify_password : List ℕ → Free
  hand_shake : Free

-- and answers these by 21h
pub data Barred : Type 0 where
  search_for : ℕ → ℕ → ℕ → Barred
  store : ℕ → ℕ → Barred
  load_char : ℕ → ℕ → Barred
  up_char : ℕ → Barred
  down_char : ℕ → Barred
  delet_char : ℕ → ℕ → Barred
  empty : Barred
  set_sys_para : ℕ → ℕ → Barred
  set_password : List ℕ → Barred
  set_address : List ℕ → Barred
  write_notepad : ℕ → List ℕ → Barred
  read_notepad : ℕ → Barred
  templete_num : Barred
  read_index_table : ℕ → Barred

pub data Command : Type 0 where
  free : Free → Command
  barred : Barred → Command

-- a command's code, its length field, and the command of a content
pub record Entry : Type 0 where
  pub code : ℕ
  pub len : ℕ
  pub read : List ℕ → Command

abbrev pub row : ℕ → ℕ → (List ℕ → Command) → Entry
row k n f = record { code = k; len = n; read = f }

-- Page, N, start and count are two bytes each, other parameters one byte, passwords and addresses four. The code is byte 0 of the content.
unfoldable pub commands : List Entry
commands =
    row 0x04 8 (λ c. barred (search_for (byte_at c 1) (word_at c 2) (word_at c 4)))
    ∷ row 0x06 6 (λ c. barred (store (byte_at c 1) (word_at c 2)))
    ∷ row 0x07 6 (λ c. barred (load_char (byte_at c 1) (word_at c 2)))
    ∷ row 0x08 4 (λ c. barred (up_char (byte_at c 1)))
    ∷ row 0x09 4 (λ c. barred (down_char (byte_at c 1)))
    ∷ row 0x0c 7 (λ c. barred (delet_char (word_at c 1) (word_at c 3)))
    ∷ row 0x0d 3 (λ c. barred empty)
    ∷ row 0x0e 5 (λ c. barred (set_sys_para (byte_at c 1) (byte_at c 2)))
    ∷ row 0x0f 3 (λ c. free read_sys_para)
    ∷ row 0x12 7 (λ c. barred (set_password (drop 1 c)))
    ∷ row 0x13 7 (λ c. free (verify_password (drop 1 c)))
    ∷ row 0x15 7 (λ c. barred (set_address (drop 1 c)))
    ∷ row 0x18 36 (λ c. barred (write_notepad (byte_at c 1) (drop 2 c)))
    ∷ row 0x19 4 (λ c. barred (read_notepad (byte_at c 1)))
    ∷ row 0x1d 3 (λ c. barred templete_num)
    ∷ row 0x1f 4 (λ c. barred (read_index_table (byte_at c 1)))
    ∷ row 0x40 3 (λ c. free hand_shake)
    ∷ []

pub data Known : Type 0 where
  none : Known
  some : Entry → Known

-- the row of a code
unfoldable pub row_of : List Entry → ℕ → Known
row_of [] k = none
row_of (e ∷ es) k = cond (eqb k e.code) (some e) (row_of es k)

-- what a packet of identifier 1 asks for: its sum is wrong; its code is unknown; its length is another; or a command
pub data Order : Type 0 where
  damaged : Order
  unknown : Order
  misfit : Order
  command : Command → Order

-- any other length is 01h
unfoldable pub order_as : List ℕ → Known → Order
order_as c none = unknown
order_as c (some e) = cond (eqb e.len (length_of c)) (command (e.read c)) misfit

-- sum, then code, then length
unfoldable pub order_of : Bool → List ℕ → Order
order_of right c = cond right (order_as c (row_of commands (byte_at c 0))) damaged
