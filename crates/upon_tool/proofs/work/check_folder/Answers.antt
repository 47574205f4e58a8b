use Rattle.std.proofs.Common.{◌≡◌, ◌∙◌, None, Some, map, string_bytes, ap, subst}
use Rattle.std.proofs.lemmas.List.{take_all}
use Rattle.upon_meaning_spec.specs.Engine.{Template}
use Rattle.upon_engine.specs.Engine.{engine_syntax, engine_templates}
use Rattle.upon_tool_messages.specs.Library.{refused_as}
use Rattle.upon_tool_pages.specs.Missing.{EachName, IsRightTemplate}
use Rattle.upon_tool_pages.proofs.CheckedFiles.{each_name_more}
use Rattle.upon_tool.proofs.work.check_folder.Goals as goal

pub loop-name-preserved : goal.loop-name-preserved
loop-name-preserved g c =
    each_name_more (λ name. (refused_as c.args.library.now name ≡ None) × ((t : Template) → engine_templates c.args.engine.now name ≡ Some t → IsRightTemplate c.args.callables.now (engine_syntax c.args.engine.now) (engine_templates c.args.engine.now) name t.source)) c.names-names.result.now c.loop-name.name-index _ c.loop-name.is_right c.in_ok-is_right.field-0 c.loop-name-test.true c.loop-name.invariant
    (λ right. subst (λ name. (refused_as c.args.library.now name ≡ None) × ((t : Template) → engine_templates c.args.engine.now name ≡ Some t → IsRightTemplate c.args.callables.now (engine_syntax c.args.engine.now) (engine_templates c.args.engine.now) name t.source)) (c.as_str.ensures.value ∙ ap string_bytes c.name-item.is) (c.in_ok-is_right.ensures right))

pub returns : goal.returns
returns g c = λ right.
    subst (EachName (λ name. (refused_as c.args.library.now name ≡ None) × ((t : Template) → engine_templates c.args.engine.now name ≡ Some t → IsRightTemplate c.args.callables.now (engine_syntax c.args.engine.now) (engine_templates c.args.engine.now) name t.source))) c.names-names.ensures
    (subst (λ names. EachName (λ name. (refused_as c.args.library.now name ≡ None) × ((t : Template) → engine_templates c.args.engine.now name ≡ Some t → IsRightTemplate c.args.callables.now (engine_syntax c.args.engine.now) (engine_templates c.args.engine.now) name t.source)) (map string_bytes names)) (take_all c.loop-name.name-index c.names-names.result.now c.loop-name-test.false) (c.loop-name.invariant right))
