use Rattle.upon_calls.specs.Filled.{filled}
use Rattle.upon_calls.proofs.Tables.{has_table}
use Rattle.upon_calls.proofs.laws.rendered_text_is.Goals as goal

pub returns : goal.returns
returns c = λ templates context name options text r.
    let (each, held, tree, there, has, means) = r.means in
    let (table, is_table) = has_table (filled r.asked r.sources) each in
    (table, held, tree, is_table, there, has, means table is_table)
