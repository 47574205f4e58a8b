-- Why a text gives no value.
use Rattle.std.specs.Prelude.{Bool, true, false}
use Rattle.upon_data.specs.declared.fault.DataFault.{DataFault}
use Rattle.upon_data.specs.declared.fault.DataFault.TheVariants.{Refused, OutOfMemory}

-- memory is out
abbrev pub is_data_memory : DataFault → Bool
is_data_memory (Refused refusal) = false
is_data_memory OutOfMemory = true
