use Rattle.std.proofs.Common.{◌≡◌, take, option_map}
use Rattle.std.specs.BTreeMap.{get_by_text}
use Rattle.upon_engine.specs.Template.{template_of}
use Rattle.upon_tool_pages.specs.Missing.{is_nowhere}
use Rattle.upon_calls.proofs.Kept.{kept}
use Rattle.upon_tool_pages.proofs.check.missing.Given as goal

abbrev pub invariant-loop-name : goal.invariant-loop-name
invariant-loop-name g l = l.missing.items ≡ kept (is_nowhere l.own (λ name. option_map template_of (get_by_text l.engine.templates name))) (take l.name-index l.name-items)
