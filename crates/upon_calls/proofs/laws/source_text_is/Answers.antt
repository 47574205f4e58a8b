use Rattle.upon_calls.specs.Filled.{engine_for}
use Rattle.upon_calls.proofs.Tables.{has_table, no_text_has_tree}
use Rattle.upon_calls.proofs.laws.source_text_is.Goals as goal

pub returns : goal.returns
returns c = λ source context options text r.
    let (tree, has, means) = r.means in
    let (table, is_table) = has_table (engine_for r.asked) (no_text_has_tree r.asked) in
    (table, tree, is_table, has, means table is_table)
