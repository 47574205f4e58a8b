use Rattle.upon_tool_many.specs.Names.{extension}
use Rattle.upon_tool_many.proofs.Paths.{stripped}
use Rattle.upon_tool_many.proofs.names.without_extension.Goals as goal

pub returns : goal.returns
returns c = stripped extension c.args.path.now c.strip_suffix.result c.strip_suffix.ensures.cases
