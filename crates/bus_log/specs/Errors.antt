-- What the errors print.
use Rattle.std.specs.Prelude.{ℕ, List, ◌++◌, codes, decimal}
use Rattle.bus_log.specs.declared.log_reader.LogError.{LogError}
use Rattle.bus_log.specs.declared.log_reader.LogError.TheVariants as error

abbrev pub error_text : LogError → List ℕ
error_text (error.NotACycle n) = codes "line " ++ (decimal n ++ codes ": not a cycle")
error_text error.Memory = codes "out of memory"
