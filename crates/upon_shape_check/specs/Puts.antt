-- What is put into literals of lists and maps.
use Rattle.std.specs.Prelude.{string_bytes}
use Rattle.upon_types.specs.AstPath.{string_of}
use Rattle.upon_machine_spec.specs.Instr.{Instr, expr_list_push, expr_map_insert}
use Rattle.upon_shape_spec.specs.Added.{with_item_shape, with_entry_shape}
use Rattle.upon_shape_spec.specs.Shape.{Shape}
use Rattle.upon_shape_check.specs.declared.puts.Part.{Part}
use Rattle.upon_shape_check.specs.declared.puts.Part.TheVariants.{Item, Entry}

-- the instruction that puts it
abbrev pub part_instr : Part → Instr
part_instr Item = expr_list_push
part_instr (Entry key) = expr_map_insert (string_of key.now)

-- the shape of a literal with it
abbrev pub with_part : Part → Shape → Shape → Shape
with_part Item into added = with_item_shape into added
with_part (Entry key) into added = with_entry_shape (string_bytes key.now.value) into added
