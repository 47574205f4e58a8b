use Rattle.upon_engine.specs.Changes.{with_text}
use Rattle.upon_calls.proofs.Tables.{has_table}
use Rattle.upon_tool.specs.Calls.{limits_asked}
use Rattle.upon_tool.specs.Work.{output_name}
use Rattle.std.proofs.Common.{Some}
use Rattle.upon_tool.proofs.Outputs.{filed_by, written_by}
use Rattle.upon_tool.proofs.laws.filed_page_is.Goals as goal

pub returns : goal.returns
returns c = λ memory call input old new was now r named filed.
    let e = with_text call.file.now r.text r.folder in
    let (table, is_table) = has_table e r.trees in
    let (kept, (tree, has, (end, is, sends))) = r.filed filed in
    let sent = filed_by (limits_asked call) e call.file.now r.text tree r.value table is_table (output_name call.out) end (Some was) now sends in
    (table, tree, r.read.1 named, is_table, has, written_by (limits_asked call) e call.file.now r.text tree r.value table (output_name call.out) end was now is sent)
