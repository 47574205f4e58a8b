use Rattle.std.proofs.Common.{◌∙◌}
use Rattle.upon_tool_data.proofs.Parts.{cut_is}
use Rattle.upon_tool_data.proofs.words.has_equals.Goals as goal

pub returns : goal.returns
returns c = c.is_some.ensures ∙ cut_is c.args.word.now c.parts.result c.parts.ensures.some c.parts.ensures.none
