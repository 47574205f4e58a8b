use Rattle.std.proofs.Common.{◌∙◌, option_map, sym, ap}
use Rattle.std.proofs.lemmas.Result.{IfOk-weaker}
use Rattle.upon_engine.specs.TemplateRef.{ref_template}
use Rattle.upon_tool_pages.proofs.CheckedFiles.{held_right}
use Rattle.upon_tool_pages.proofs.check.check_file.Goals as goal

pub returns-in-Some-get_template : goal.returns-in-Some-get_template
returns-in-Some-get_template g c = IfOk-weaker c.check_text.result _ _ (λ is said right. (
  sym c.refusal.ensures ∙ ap (option_map (λ refusal. refusal.now)) c.in_default.is,
  λ t there. held_right c.args.callables.now _ _ c.args.name.now _ _ t _ (sym c.get_template.ensures.template ∙ ap (option_map ref_template) c.in-Some-get_template.is) there c.source.ensures (said.0 right),
)) c.check_text.ensures
