use Rattle.upon_calls.specs.Filled.{filled}
use Rattle.upon_calls.proofs.Tables.{has_table}
use Rattle.upon_calls.proofs.laws.listed_text_is.Goals as goal

pub returns : goal.returns
returns c = λ templates name options text r.
    let (each, lists) = r.lists in
    let (table, is_table) = has_table (filled r.asked r.sources) each in
    let (t, needs, there, needed, is) = lists table is_table in
    (table, t, needs, is_table, there, needed, is)
