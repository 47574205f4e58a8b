-- Indexes that begin paths in a program, and what it includes without a value.
use Rattle.std.specs.Prelude.{ℕ, List, Bool, true, false, filter_map}
use Rattle.std.specs.List.{list_any}
use Rattle.upon_types.specs.Path.{Access, by_index, by_key}
use Rattle.upon_machine_spec.specs.Instr.{Instr, expr_start_var}
use Rattle.upon_machine_spec.specs.ProgramNames.{plain_include}

-- whether it is an index
abbrev pub is_index : Access → Bool
is_index (by_index n span) = true
is_index (by_key word) = false

-- whether an instruction's path begins with an index
abbrev pub has_index : Instr → Bool
has_index (expr_start_var first rest) = is_index first.access
has_index i = false

-- whether a path begins with an index; no block binds one
abbrev pub begins_by_index : List Instr → Bool
begins_by_index code = list_any has_index code

-- the templates that are included without a value
abbrev pub plain_includes : List Instr → List (List ℕ)
plain_includes code = filter_map plain_include code
