-- What is declared of what templates call, and pages of which it isn't known by that whether they end well on contexts.
use Rattle.std.specs.Prelude.{ℕ, List, Contains, Option, Some, None, bytes_eq, codes}
use Rattle.std.specs.Map.{update}
use Rattle.upon_types.specs.Fault.{Fault}
use Rattle.upon_shape_spec.specs.Declared.{Declared, formats}
use Rattle.upon_shape_spec.specs.Shape.{Shape, shown_values}
use Rattle.upon_shape_check.specs.Doubted.{IsUnsureOn}
use Rattle.upon_std_shapes.specs.Tables.{Declarations, with_all_declared}
use Rattle.upon_calls.specs.Asked.{Asked}
use Rattle.upon_calls.specs.Escaping.{written_shape}
use Rattle.upon_calls.specs.Filled.{filled, functions_if}
use Rattle.upon_calls.specs.Rendering.{IsFirstOfOne}
use Rattle.upon_calls.specs.declared.escaping.Language.{Language}

-- what is declared before functions: where values are written into a language, the formatter `verbatim`, of the values
-- that are shown
abbrev pub declared_before : Option Language → Declarations
declared_before None name = None
declared_before (Some language) name =
    update bytes_eq (λ other. None) (codes "verbatim") (Some (formats shown_values)) name

-- what is declared for a call: these, the functions that it asks for, and the values that are written into its language
abbrev pub declared_as : Asked → Declared
declared_as asked = record {
  callables = with_all_declared (functions_if asked.functions) (declared_before asked.escape);
  default_formats = written_shape asked.escape;
}

-- the text of one of some templates has a first fault
abbrev pub HasFault : Asked → List (List ℕ × List ℕ) → Type 0
HasFault asked sources = (fault : Fault) × IsFirstOfOne asked.delimiters sources fault

-- of one of some pages it is in doubt whether it ends well on each value of a shape, where an engine holds the
-- templates
abbrev pub IsPageUnsure : Asked → List (List ℕ × List ℕ) → Shape → List (List ℕ) → Type 0
IsPageUnsure asked sources s names = (name : List ℕ) × Contains names name
    × IsUnsureOn (filled asked sources) (declared_as asked) name s
