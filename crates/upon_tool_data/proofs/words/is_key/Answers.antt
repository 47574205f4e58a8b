use Rattle.std.proofs.Common.{sym, ap, ◌&&◌, ◌∙◌}
use Rattle.std.specs.List.{list_any}
use Rattle.std.specs.Prelude.{not}
use Rattle.upon_tool_data.specs.Words.{is_folder_end}
use Rattle.upon_tool_data.proofs.words.is_key.Goals as goal

pub returns-then-not-is_empty : goal.returns-then-not-is_empty
returns-then-not-is_empty c =
    ap not c.has_slash.ensures
    ∙ sym (ap (λ b. not b && not (list_any is_folder_end c.args.text.now)) (sym c.is_empty.ensures ∙ c.if-not-is_empty.true))
