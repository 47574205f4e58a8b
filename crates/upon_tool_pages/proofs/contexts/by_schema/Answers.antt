use Rattle.upon_types.specs.View.{view}
use Rattle.upon_tool_pages.proofs.contexts.by_schema.Goals as goal

pub returns-in-Ok : goal.returns-in-Ok
returns-in-Ok g c = record {
  schema = view c.in_ok-schema.schema;
  later = g.I.Read.remaining c.read_value.new.input;
  read = c.in_ok-schema.ensures.read;
  fit = c.in-Ok.ensures.fits;
}
