use Rattle.std.proofs.Common.{refl}
use Rattle.upon_engine.specs.Changes.{with_text}
use Rattle.upon_calls.proofs.Tables.{added, has_table, of_held}
use Rattle.upon_tool.proofs.laws.listed_names_are.Goals as goal

pub returns : goal.returns
returns c = λ memory call input old new r named.
    let e = with_text call.file.now r.text r.folder in
    let (table, is_table) = has_table e r.trees in
    let (t, at, same, has) = of_held (e.texts call.file.now) (table call.file.now) (record { text = r.text; syntax = r.folder.syntax }) (is_table call.file.now) (added call.file.now r.text r.folder) in
    let (needs, needed, sent) = r.listed table t is_table at refl in
    (table, t, needs, r.read.1 named, is_table, at, same, needed, sent)
