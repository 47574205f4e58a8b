use Rattle.upon_calls.specs.Filled.{engine_for, filled}
use Rattle.upon_calls.proofs.Filled.{begun_syntax}
use Rattle.upon_calls.proofs.HeldTrees.{pages_end_by, right_trees}
use Rattle.upon_calls.proofs.Tables.{has_table, no_text_has_tree}
use Rattle.upon_calls.proofs.laws.fitting_pages_end.Goals as goal

pub returns : goal.returns
returns c = λ templates options text r.
    let each = right_trees r.asked.delimiters r.value r.sources (engine_for r.asked) (begun_syntax r.asked) (no_text_has_tree r.asked) r.right.right in
    let (table, is_table) = has_table (filled r.asked r.sources) each in
    (table, is_table, pages_end_by r.contexts r.asked r.value r.sources table r.are is_table r.right.pages)
