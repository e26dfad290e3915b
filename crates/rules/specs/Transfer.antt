-- Whether a data packet goes into an open transfer, by its length alone and at any size code.
use Rattle.std.specs.Prelude.{Bool, ℕ}
use Rattle.protocol.specs.declared.Settings.{Settings}
use Rattle.protocol.specs.Bytes.{zeros}
use Rattle.protocol.specs.Step.{fits}
use Rattle.protocol.specs.Records.{plain_of}
use Rattle.rules.specs.Settings.{capped}

-- the sum right?, the last?, and the content's length: what a content of as many zeros does
unfoldable pub does_fit : Settings → Bool → Bool → ℕ → Bool
does_fit s right last n = fits (plain_of (capped s)) s.got last right (zeros n)
