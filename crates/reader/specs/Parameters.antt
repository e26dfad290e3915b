-- The parameters of SetSysPara by number.
use Rattle.std.specs.Prelude.{true, false, ◌≡◌, ℕ, Result, MatchResult}
use Rattle.protocol.specs.declared.Settings.{Settings}
use Rattle.protocol.specs.declared.codes.Code.{Code}
use Rattle.protocol.specs.declared.codes.Code.TheVariants.{BadParameter}
use Rattle.protocol.specs.Numbers.{baud_parameter, level_parameter, size_parameter}
use Rattle.protocol.specs.Tests.{within}
use Rattle.rules.specs.Settings.{with_tuning}
use Rattle.reader.specs.declared.parameters.Parameter.{Parameter}
use Rattle.reader.specs.declared.parameters.Parameter.TheVariants.{Baud, Level, Size}

abbrev pub parameter_number : Parameter → ℕ
parameter_number Baud = baud_parameter
parameter_number Level = level_parameter
parameter_number Size = size_parameter

-- the parameter that a number names, or the code of a number that names none
abbrev pub IsParameter : ℕ → Result Parameter Code → Type 0
IsParameter n r =
    MatchResult r (λ p. (n ≡ parameter_number p) × (within baud_parameter n size_parameter ≡ true))
    (λ k. (k ≡ BadParameter) × (within baud_parameter n size_parameter ≡ false))

-- the settings with a parameter set
abbrev pub tuned : Parameter → ℕ → Settings → Settings
tuned Baud v s = with_tuning v s.level s.size s
tuned Level v s = with_tuning s.baud v s.size s
tuned Size v s = with_tuning s.baud s.level v s
