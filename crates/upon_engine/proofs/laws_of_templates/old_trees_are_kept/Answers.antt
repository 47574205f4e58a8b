use Rattle.std.specs.BTreeMap.{get_by_text}
use Rattle.upon_before_spec.specs.Now.{statements_now}
use Rattle.upon_before_spec.proofs.TreeKept.{tree_kept}
use Rattle.upon_engine.proofs.Tables.{template_held}
use Rattle.upon_engine.proofs.laws_of_templates.old_trees_are_kept.Goals as goal

pub returns : goal.returns
returns g c name held tree there had =
    template_held (get_by_text c.args.engine.now.templates name) held (statements_now tree) there
    ∣ tree_kept held.syntax held.text tree had ∣₁
