-- The statuses of the program.
use Rattle.std.specs.Prelude.{◌≡◌, ℕ, Bool, true, false, Result, Ok, Err}
use Rattle.upon_types.specs.Error.{fault_of}
use Rattle.upon_types.specs.Fault.{Kind, syntax, serialize, render, function, format, io, memory, out_of_memory}
use Rattle.upon_types.specs.declared.error.Error.{Error}
use Rattle.upon_tool_messages.specs.declared.failure.Failure.{Failure}
use Rattle.upon_tool_data.specs.declared.fault.ContextFault.{ContextFault}
use Rattle.upon_tool_data.specs.declared.fault.ContextFault.TheVariants.{LacksText, LacksValue, InputTwice, Unreadable as DataUnreadable, NotText as DataNotText}
use Rattle.upon_tool_data.specs.declared.fault.ContextFault.TheVariants.{NotOfFormat, NotObject, NotJson, NotMap, OutOfMemory}
use Rattle.upon_tool_messages.specs.declared.failure.Failure.TheVariants.{Unreadable, NotText, Data, Unwritable, Fault}

-- the status for what gives no context: 2 for wrong words, and for what can't be read as text; else 1
abbrev pub data_status : ContextFault → ℕ
data_status (LacksText word) = 2
data_status (LacksValue word) = 2
data_status InputTwice = 2
data_status (DataUnreadable name error) = 2
data_status (DataNotText name) = 2
data_status (NotOfFormat name refusal) = 1
data_status (NotObject name) = 1
data_status (NotJson word refusal) = 1
data_status (NotMap word) = 1
data_status OutOfMemory = 1

-- the status for a failure, so
abbrev pub tool_status : Failure → ℕ
tool_status (Unreadable name error) = 2
tool_status (NotText name) = 2
tool_status (Data fault) = data_status fault
tool_status (Unwritable name error) = 1
tool_status (Fault error) = 1

-- memory was out
abbrev pub IsMemory : Failure → Type 0
IsMemory (Unreadable name error) = ⊥
IsMemory (NotText name) = ⊥
IsMemory (Data fault) = ⊥
IsMemory (Unwritable name error) = ⊥
IsMemory (Fault error) = fault_of error ≡ out_of_memory

-- the status by how the work ended: 0 if all went well
abbrev pub tool_end_status : Result (Unit {0}) Failure → ℕ
tool_end_status (Ok u) = 0
tool_end_status (Err failure) = tool_status failure

-- whether it is said that memory is out
abbrev pub says_memory : Kind → Bool
says_memory syntax = false
says_memory serialize = false
says_memory render = false
says_memory function = false
says_memory format = false
says_memory io = false
says_memory memory = true

-- so of an error
abbrev pub is_memory_error : Error → Bool
is_memory_error error = says_memory (fault_of error).kind
