-- The bench program: "starts fresh with 64 zeroed pages, takes packets from standard input, and writes the reply bytes raw with nothing between."
use Rattle.std.specs.Prelude.{[]}
use Rattle.protocol.specs.Numbers.{bench_pages, index_bytes, notepad_bytes}
use Rattle.protocol.specs.Reader.{reader, fresh, zeroed}
use Rattle.protocol.specs.Receiver.{holding, Line, line}

-- fresh settings, 64 zeroed pages and the zeroed memory beside them; and nothing held
unfoldable pub started : Line
started = line (reader fresh (zeroed bench_pages index_bytes notepad_bytes)) (holding [])
