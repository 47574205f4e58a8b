-- What is seen of data that are put together.
use Rattle.std.specs.Prelude.{Bool, true, false}
use Rattle.upon_types.specs.Val.{Entries}
use Rattle.upon_types.specs.View.{entries_view}
use Rattle.upon_data.specs.declared.parts.Data.{Data}
use Rattle.upon_data.specs.declared.parts.PartFault.{PartFault}
use Rattle.upon_data.specs.declared.parts.PartFault.TheVariants.{NotObject, NotMap, OutOfMemory}

-- the entries of data
abbrev pub data_entries : Data → Entries
data_entries d = entries_view d.entries.entries

-- memory is out
abbrev pub is_part_memory : PartFault → Bool
is_part_memory NotObject = false
is_part_memory NotMap = false
is_part_memory OutOfMemory = true
