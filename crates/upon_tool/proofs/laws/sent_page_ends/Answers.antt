use Rattle.upon_engine.specs.Changes.{with_text}
use Rattle.upon_calls.proofs.Tables.{has_table}
use Rattle.upon_tool.specs.Calls.{limits_asked}
use Rattle.upon_tool.proofs.Outputs.{sent_by}
use Rattle.upon_tool.proofs.laws.sent_page_ends.Goals as goal

pub returns : goal.returns
returns c = λ memory call input status old new was now r named standard.
    let e = with_text call.file.now r.text r.folder in
    let (table, is_table) = has_table e r.trees in
    let (kept, (tree, has, (end, is, sends, stays))) = r.shown standard in
    (table, tree, end, r.read.1 named, is_table, has, is, sent_by (limits_asked call) e call.file.now r.text tree r.value table is_table end old new sends, stays)
