-- Where a program calls by name, and where it includes templates.
use Rattle.std.specs.Prelude.{◌≡◌, ℕ, List, filter_map, Option, Some, None, slice_get}
use Rattle.upon_types.specs.Path.{Ident}
use Rattle.upon_types.specs.Span.{LiesIn}
use Rattle.upon_machine_spec.specs.Instr.{Instr, emit_with, include, include_with, apply}
use Rattle.upon_needs.specs.declared.places.CallPlace.{CallPlace}
use Rattle.upon_needs.specs.declared.places.IncludePlace.{IncludePlace}

-- what an instruction calls: the name, and how many arguments it gets
abbrev pub called : Instr → Option (Ident × ℕ)
called (emit_with name n span) = Some (name, n)
called (apply name n span) = Some (name, n)
called i = None

-- the calls of a program, in its order
abbrev pub calls_in : List Instr → List (Ident × ℕ)
calls_in code = filter_map called code

-- the name of the template that an instruction includes
abbrev pub included_name : Instr → Option Ident
included_name (include word) = Some word
included_name (include_with word) = Some word
included_name i = None

-- the includes of a program, in its order
abbrev pub includes_in : List Instr → List Ident
includes_in code = filter_map included_name code

-- the call at a place
abbrev pub call_at : CallPlace → Ident × ℕ
call_at place = (record { text = place.name.now; span = place.span }, place.arguments)

-- the include at a place
abbrev pub include_at : IncludePlace → Ident
include_at place = record { text = place.name.now; span = place.span }

-- the place of each call lies in a text
abbrev pub CallsLie : List ℕ → List CallPlace → Type 0
CallsLie source places = (i : ℕ) (place : CallPlace) → slice_get places i ≡ Some place → LiesIn source place.span

-- the place of each include lies in a text
abbrev pub IncludesLie : List ℕ → List IncludePlace → Type 0
IncludesLie source places = (i : ℕ) (place : IncludePlace) → slice_get places i ≡ Some place → LiesIn source place.span
