use Rattle.std.proofs.Common.{◌≡◌, true, None, Some, map, string_bytes, take}
use Rattle.upon_meaning_spec.specs.Engine.{Template}
use Rattle.upon_engine.specs.Engine.{engine_syntax, engine_templates}
use Rattle.upon_tool_messages.specs.Library.{refused_as}
use Rattle.upon_tool_pages.specs.Missing.{EachName, IsRightTemplate}
use Rattle.upon_tool.proofs.work.check_folder.Given as goal

-- if all was right so far, each file so far is
abbrev pub invariant-loop-name : goal.invariant-loop-name
invariant-loop-name g l = l.is_right ≡ true → EachName (λ name. (refused_as l.library name ≡ None) × ((t : Template) → engine_templates l.engine name ≡ Some t → IsRightTemplate l.callables (engine_syntax l.engine) (engine_templates l.engine) name t.source)) (map string_bytes (take l.name-index l.names))
