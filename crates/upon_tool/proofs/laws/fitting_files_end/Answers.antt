use Rattle.std.proofs.Common.{List, ℕ, [], ◌∷◌, ◌++◌, get_or, ap, sym, subst, ◌∙◌, ◌≡◌, Some}
use Rattle.upon_engine.specs.Texts.{Stored}
use Rattle.upon_calls.specs.Filled.{engine_for, filled, with_sources}
use Rattle.upon_calls.proofs.Filled.{sources_more}
use Rattle.upon_calls.proofs.Tables.{added, ends_by, has_table}
use Rattle.upon_tool_pages.specs.Fitting.{asked_of}
use Rattle.upon_tool.specs.Fitting.{texts_read}
use Rattle.upon_tool.proofs.laws.fitting_files_end.Goals as goal

pub returns : goal.returns
returns g c = λ call input r k d inside.
    let (text, read, (trees, ends)) = r.ends k d inside in
    let name = (get_or call.check.files.items k d).now in
    let asked = asked_of call.check.escape call.check.standard in
    let folder = with_sources (texts_read r.files) (engine_for asked) in
    let e = filled asked (texts_read r.files ++ (name, text) ∷ []) in
    let (table, is_table) = has_table e trees in
    let held : Stored = record { text = text; syntax = folder.syntax } in
    let there : e.texts name ≡ Some held = ap (λ e. e.texts name) (sources_more (texts_read r.files) (name, text) (engine_for asked)) ∙ added name text folder in
    (text, table, read, (is_table, ends_by e table name held r.shape is_table there ends))
