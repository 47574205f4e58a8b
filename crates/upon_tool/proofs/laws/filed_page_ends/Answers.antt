use Rattle.upon_engine.specs.Changes.{with_text}
use Rattle.upon_calls.proofs.Tables.{has_table}
use Rattle.upon_tool.specs.Calls.{limits_asked}
use Rattle.upon_tool.specs.Work.{output_name}
use Rattle.upon_tool.proofs.Outputs.{filed_by}
use Rattle.upon_tool.proofs.laws.filed_page_ends.Goals as goal

pub returns : goal.returns
returns c = λ memory call input status old new was now r named filed.
    let e = with_text call.file.now r.text r.folder in
    let (table, is_table) = has_table e r.trees in
    let (kept, (tree, has, (end, is, sends))) = r.filed filed in
    (table, tree, end, r.read.1 named, is_table, has, is, kept, filed_by (limits_asked call) e call.file.now r.text tree r.value table is_table (output_name call.out) end was now sends)
