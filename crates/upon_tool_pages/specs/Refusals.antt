-- Why a run ends before its work.
use Rattle.std.specs.Prelude.{◌≡◌, ◌⊎◌, List, ℕ}
use Rattle.std.specs.Borrow.{Bor}
use Rattle.upon_types.specs.Error.{fault_of}
use Rattle.upon_types.specs.Fault.{out_of_memory}
use Rattle.upon_types.specs.declared.error.Error.{Error}
use Rattle.upon_tool_io.specs.declared.files.ReadFault.{ReadFault}
use Rattle.upon_tool_io.specs.declared.files.ReadFault.TheVariants.{Unreadable as FileUnreadable, NotText as FileNotText, Outside as FileOutside}
use Rattle.upon_tool_data.specs.declared.fault.ContextFault.{ContextFault}
use Rattle.upon_tool_messages.specs.declared.failure.Failure.{Failure}
use Rattle.upon_tool_messages.specs.declared.failure.Failure.TheVariants.{Unreadable, NotText, Data, Unwritable, Fault}

-- There is no context; or a file that is named was not read, or is not UTF-8, for a reason of which it is said that it
-- was so; or there is a fault, or memory was out.
abbrev pub RefusesOrFails : (ContextFault → Type 0) → (Bor (List ℕ) → ReadFault → Type 0) → (Error → Type 0) → Failure
    → Type 0
RefusesOrFails OfData Named Faulty (Data fault) = OfData fault
RefusesOrFails OfData Named Faulty (Unreadable name error) =
    Named name (FileUnreadable error) ⊎ Named name FileOutside
RefusesOrFails OfData Named Faulty (NotText name) = Named name FileNotText
RefusesOrFails OfData Named Faulty (Unwritable name error) = ⊥
RefusesOrFails OfData Named Faulty (Fault error) = (fault_of error ≡ out_of_memory) ⊎ Faulty error
