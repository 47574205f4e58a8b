use Rattle.std.proofs.Common.{Some, subst}
use Rattle.upon_engine.specs.Changes.{with_text}
use Rattle.upon_calls.proofs.Tables.{has_table}
use Rattle.upon_tool_pages.specs.Rendering.{SendsWhole}
use Rattle.upon_tool.specs.ByTable.{SendsIfBy}
use Rattle.upon_tool.specs.Calls.{limits_asked}
use Rattle.upon_tool.proofs.Outputs.{sent_by}
use Rattle.upon_tool.proofs.laws.sent_page_is.Goals as goal

pub returns : goal.returns
returns c = λ memory call input status old new was now r named standard unlimited.
    let e = with_text call.file.now r.text r.folder in
    let limits = limits_asked call in
    let (table, is_table) = has_table e r.trees in
    let (kept, (tree, has, (end, is, sends, stays))) = r.shown standard in
    let sent = sent_by limits e call.file.now r.text tree r.value table is_table end old new sends in
    (table, tree, end, r.read.1 named, is_table, has, is, subst (λ limited. SendsWhole (λ r'. SendsIfBy limited limits e table (Some call.file.now) r.text tree r.value r' old new) end) unlimited sent)
