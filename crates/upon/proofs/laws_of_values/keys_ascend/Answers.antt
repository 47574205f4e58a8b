use Rattle.std.proofs.Common.{sym, ap, ◌∙◌, subst}
use Rattle.upon_types.specs.View.{view}
use Rattle.upon_types.proofs.Bindings.{rises-entries}
use Rattle.upon_types.proofs.Views.{view-None, view-Bool, view-Integer, view-String, view-List, view-Map}
use Rattle.upon_render.specs.LoopItems.{KeysRise}
use Rattle.upon.proofs.laws_of_values.keys_ascend.Goals as goal

pub returns-in-None : goal.returns-in-None
returns-in-None c = subst KeysRise (sym (ap view c.in-None.is ∙ view-None)) tt

pub returns-in-Bool : goal.returns-in-Bool
returns-in-Bool c = subst KeysRise (sym (ap view c.in-Bool.is ∙ view-Bool _)) tt

pub returns-in-Integer : goal.returns-in-Integer
returns-in-Integer c = subst KeysRise (sym (ap view c.in-Integer.is ∙ view-Integer _)) tt

pub returns-in-String : goal.returns-in-String
returns-in-String c = subst KeysRise (sym (ap view c.in-String.is ∙ view-String _)) tt

pub returns-in-List : goal.returns-in-List
returns-in-List c = subst KeysRise (sym (ap view c.in-List.is ∙ view-List _)) tt

pub returns-in-Map : goal.returns-in-Map
returns-in-Map c = subst KeysRise (sym (ap view c.in-Map.is ∙ view-Map _)) (rises-entries c.in-Map.entries.entries c.len.ensures.ordered)
