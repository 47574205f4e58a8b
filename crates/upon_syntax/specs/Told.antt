-- What a compiler is told of the pieces of a template.
use Rattle.std.specs.Prelude.{List, map, Some, None}
use Rattle.upon_types.specs.Expression.{expression_span}
use Rattle.upon_machine_spec.specs.Code.{expression_code, emission_code}
use Rattle.upon_tag_parser.specs.BlockTags.{BlockTag, opening_tag, else_if_tag, else_tag, end_tag, include_tag}
use Rattle.upon_compiler.specs.Events.{Event, raw_event, shown_event, else_if_event, else_event, include_event, include_with_event, opening_event, end_event}
use Rattle.upon_syntax.specs.Pieces.{TemplatePiece, raw_piece, inline_piece, block_piece}

-- of a tag of a block
abbrev pub tag_event : BlockTag → Event
tag_event (opening_tag opening e) = opening_event opening (expression_span e) (expression_code e)
tag_event (else_if_tag negated e) = else_if_event negated (expression_code e)
tag_event else_tag = else_event
tag_event (end_tag kind) = end_event kind
tag_event (include_tag name None) = include_event name
tag_event (include_tag name (Some e)) = include_with_event name (expression_code e)

-- of a piece
abbrev pub event_of : TemplatePiece → Event
event_of (raw_piece span) = raw_event span
event_of (inline_piece e span) = shown_event (emission_code e)
event_of (block_piece tag) = tag_event tag

-- of pieces, one after the other
abbrev pub events_of : List TemplatePiece → List Event
events_of pieces = map event_of pieces
