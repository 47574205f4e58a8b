-- Which include found no template, and which file on the way to it is none.
use Rattle.std.specs.Prelude.{◌≡◌, ◌⊎◌, ◌==◌, ◌<◌, ℕ, List, ◌∷◌, ◌++◌, Bool, true, false, ◌&&◌, Option, Some, None, find, length, option_and_then, option_map, if◌then◌else◌}
use Rattle.upon_types.specs.Error.{cause_of, fault_of}
use Rattle.upon_types.specs.Path.{Ident}
use Rattle.upon_types.specs.Tree.{Statements}
use Rattle.upon_types.specs.declared.error.Error.{Error}
use Rattle.upon_types.specs.declared.error.cause.Cause.{Cause}
use Rattle.upon_types.specs.declared.error.cause.Cause.TheVariants.{UnknownTemplate}
use Rattle.upon_types.specs.declared.types.Span.{Span}
use Rattle.upon_meaning_spec.specs.Engine.{Table}
use Rattle.upon_machine_spec.specs.Code.{program_of}
use Rattle.upon_needs.specs.Places.{includes_in}
use Rattle.upon_tool_messages.specs.Library.{refused_as}
use Rattle.upon_tool_messages.specs.declared.library.Library.{Library}
use Rattle.upon_tool_messages.specs.declared.library.Refusal.{Refusal}

-- whether an include is at a span
abbrev pub is_include_at : Span → Ident → Bool
is_include_at span word = (word.span.m == span.m) && (word.span.n == span.n)

-- the name of the first include of a template at a span
abbrev pub include_at_span : Span → Statements → Option (List ℕ)
include_at_span span tree = option_map (λ word. word.text) (find (is_include_at span) (includes_in (program_of tree)))

-- whether an error may be that an include found no template: its cause says so; or it has none, as a source of
-- templates refuses by a text
abbrev pub may_lack_template : Option Cause → Bool
may_lack_template None = true
may_lack_template (Some UnknownTemplate) = true
may_lack_template (Some cause) = false

-- the name of the include at a span of the template of a name
abbrev pub include_in_template : Table → Option (List ℕ) → Option Span → Option (List ℕ)
include_in_template table (Some name) (Some span) =
    option_and_then (λ template. include_at_span span template.tree) (table name)
include_in_template table (Some name) None = None
include_in_template table None span = None

-- the name of the include that found no template, if an error says so: it is where the error lies
abbrev pub lacking_include : Table → Error → Option (List ℕ)
lacking_include table error =
    if may_lack_template (cause_of error) then include_in_template table (fault_of error).name (fault_of error).span
    else None

-- a path is on the way to a name: it is the name, or a front of it that ends before a slash
abbrev pub IsOnWay : List ℕ → List ℕ → Type 0
IsOnWay path name = (path ≡ name) ⊎ ((rest : List ℕ) × (name ≡ path ++ 47 ∷ rest))

-- The longest path on the way to a name that is no template of a library, with the reason; or none, if there is none.
abbrev pub IsRefusedOnWay : Library → List ℕ → Option (List ℕ × Refusal) → Type 0
IsRefusedOnWay library name None = (path : List ℕ) → IsOnWay path name → refused_as library path ≡ None
IsRefusedOnWay library name (Some found) = IsOnWay found.0 name × (refused_as library found.0 ≡ Some found.1)
    × ((path : List ℕ) → IsOnWay path name → length found.0 < length path → refused_as library path ≡ None)

-- so of a name, if there is one
abbrev pub IsRefusedIfNamed : Library → Option (List ℕ) → Option (List ℕ × Refusal) → Type 0
IsRefusedIfNamed library None found = found ≡ None
IsRefusedIfNamed library (Some name) found = IsRefusedOnWay library name found
