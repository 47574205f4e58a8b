-- What a compiler is told of a template, piece by piece.
use Rattle.std.specs.Prelude.{List, Bool}
use Rattle.upon_types.specs.BlockKinds.{Block, Opening}
use Rattle.upon_types.specs.Path.{Ident}
use Rattle.upon_types.specs.declared.types.Span.{Span}
use Rattle.upon_machine_spec.specs.Instr.{Instr}

-- a raw part, a tag that shows an expression, the first tag of a block, one between its branches, its last tag, or an
-- include, with the instructions of the tag's expression, and of a block's expression the span
pub data Event : Type 0 where
  raw_event : Span → Event
  shown_event : List Instr → Event
  opening_event : Opening → Span → List Instr → Event
  else_if_event : Bool → List Instr → Event
  else_event : Event
  end_event : Block → Event
  include_event : Ident → Event
  include_with_event : Ident → List Instr → Event
