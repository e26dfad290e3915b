-- What the program starts with: "starts fresh with 64 zeroed pages".
use Rattle.std.specs.Prelude.{◌≡◌, List, ℕ, ◌*◌}
use Rattle.protocol.specs.Numbers.{page_bytes, bench_pages, index_bytes, notepad_bytes}
use Rattle.protocol.specs.Bytes.{zeros}

-- the lent memory: 64 pages, the index, the notepad and both buffers, all of them zero
pub record Zeroed (templates index notepad buffer1 buffer2 : List ℕ) : Type 0 where
  pub pages : templates ≡ zeros (page_bytes * bench_pages)
  pub bits : index ≡ zeros index_bytes
  pub notes : notepad ≡ zeros notepad_bytes
  pub one : buffer1 ≡ zeros page_bytes
  pub two : buffer2 ≡ zeros page_bytes
