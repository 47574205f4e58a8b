use Rattle.std.proofs.Common.{[], ◌∷◌, sym, ◌∙◌}
use Rattle.std.proofs.lemmas.Str.Pattern.{ends_text}
use Rattle.std.specs.Str.{byte}
use Rattle.upon_tool_many.proofs.Paths.{page_named}
use Rattle.upon_tool_many.proofs.names.page_name.Goals as goal

pub returns : goal.returns
returns c =
    page_named c.args.path.now c.in_ok-name.name.now c.in_ok-name.ensures
    (sym c.is_empty.ensures ∙ c.if-is_empty.false)
    (sym (ends_text c.ends_with.result (byte "/" ∷ []) c.in_ok-name.name.now c.ends_with.ensures.cases) ∙ c.if-ends_with.false)
