use Rattle.std.proofs.Common.{ap, ◌∙◌}
use Rattle.std.specs.List.{list_any}
use Rattle.upon_tool_data.specs.Words.{is_folder_end}
use Rattle.upon_tool_data.proofs.words.has_slash.Goals as goal

pub returns : goal.returns
returns c = c.contains.ensures.value ∙ ap (list_any is_folder_end) c.as_bytes.ensures.value
