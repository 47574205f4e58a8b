use Rattle.upon_calls.specs.Filled.{engine_for}
use Rattle.upon_calls.proofs.Tables.{has_table, no_text_has_tree, text_fault}
use Rattle.upon_calls.proofs.laws.source_fault_is.Goals as goal

pub returns : goal.returns
returns c = λ source context options text r.
    let (fault, kind, is, why) = r.pictures in
    let (table, is_table) = has_table (engine_for r.asked) (no_text_has_tree r.asked) in
    (table, fault, is_table, kind, is, text_fault r.asked.limits (engine_for r.asked) source r.value fault table is_table why)
