-- The statuses of failures.
use Rattle.std.proofs.Common.{◌≡◌, ℕ, ◌≤◌, arith}
use Rattle.upon_tool_messages.specs.Status.{data_status, tool_status}
use Rattle.upon_tool_messages.specs.declared.failure.Failure.{Failure}
use Rattle.upon_tool_data.specs.declared.fault.ContextFault.{ContextFault}
use Rattle.upon_tool_data.specs.declared.fault.ContextFault.TheVariants.{LacksText, LacksValue, InputTwice, Unreadable as DataUnreadable, NotText as DataNotText, NotOfFormat, NotObject, NotJson, NotMap, OutOfMemory}
use Rattle.upon_tool_messages.specs.declared.failure.Failure.TheVariants.{Unreadable, NotText, Data, Unwritable, Fault}

-- what gives no context has a status of its own
least_data : (fault : ContextFault) → 1 ≤ data_status fault
least_data (LacksText word) = omega arith
least_data (LacksValue word) = omega arith
least_data InputTwice = omega arith
least_data (DataUnreadable name error) = omega arith
least_data (DataNotText name) = omega arith
least_data (NotOfFormat name refusal) = omega arith
least_data (NotObject name) = omega arith
least_data (NotJson word refusal) = omega arith
least_data (NotMap word) = omega arith
least_data OutOfMemory = omega arith

most_data : (fault : ContextFault) → data_status fault ≤ 2
most_data (LacksText word) = omega arith
most_data (LacksValue word) = omega arith
most_data InputTwice = omega arith
most_data (DataUnreadable name error) = omega arith
most_data (DataNotText name) = omega arith
most_data (NotOfFormat name refusal) = omega arith
most_data (NotObject name) = omega arith
most_data (NotJson word refusal) = omega arith
most_data (NotMap word) = omega arith
most_data OutOfMemory = omega arith

-- a failure has no status of success
pub least_status : (f : Failure) → 1 ≤ tool_status f
least_status (Unreadable name error) = omega arith
least_status (NotText name) = omega arith
least_status (Data fault) = least_data fault
least_status (Unwritable name error) = omega arith
least_status (Fault error) = omega arith

pub most_status : (f : Failure) → tool_status f ≤ 2
most_status (Unreadable name error) = omega arith
most_status (NotText name) = omega arith
most_status (Data fault) = most_data fault
most_status (Unwritable name error) = omega arith
most_status (Fault error) = omega arith

pub no_success : (n : ℕ) → 1 ≤ n → n ≡ 0 → ⊥
no_success n least is = omega arith

pub one_no_success : (n : ℕ) → n ≡ 1 → n ≡ 0 → ⊥
one_no_success n one is = omega arith
