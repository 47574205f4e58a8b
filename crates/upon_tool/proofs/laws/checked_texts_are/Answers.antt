use Rattle.std.proofs.Common.{map, refl, string_bytes}
use Rattle.upon_calls.proofs.Tables.{has_table}
use Rattle.upon_tool.proofs.OneTable.{each_by}
use Rattle.upon_tool.proofs.laws.checked_texts_are.Goals as goal

pub returns : goal.returns
returns g c = λ call input r.
    let (table, is_table) = has_table r.folder r.trees in
    let (texts, later, are, right) = r.checked in
    (table, texts, later, is_table, are, right refl table is_table, r.may_call, each_by r.callables r.folder table is_table (map (λ file. string_bytes file.name) r.files) (r.folder_checked refl))
