use Rattle.std.proofs.Common.{◌∙◌, inl, inr, refl}
use Rattle.upon_tool_many.specs.Build.{DoesPage, IsPageOf}
use Rattle.upon_calls.proofs.Tables.{has_table}
use Rattle.upon_tool.specs.ByTable.{EndsFile, PutsFile}
use Rattle.upon_tool.specs.Calls.{build_asked}
use Rattle.upon_calls.specs.Filled.{functions_if}
use Rattle.upon_tool.specs.Filled.{with_page}
use Rattle.upon_tool.proofs.Filled.{begun_syntax, takes_syntax}
use Rattle.upon_tool.proofs.OneTable.{done_of, in_order}
use Rattle.upon_tool.proofs.PagesByTable.{file_ends, layout_held, page_syntax, file_put}
use Rattle.upon_tool.proofs.laws.pages_of_files_are.Goals as goal

pub returns : goal.returns
returns g c = λ call input was now r.
    let world = g.R.Sources.world c.args.sources.now in
    let e = with_page r.layout r.folder in
    let asked = build_asked call in
    let (table, is_table) = has_table e r.trees in
    let syntax = page_syntax r.layout r.folder ∙ takes_syntax r.files _ r.folder r.taken ∙ begun_syntax call.render.escape (functions_if call.render.standard) in
    elim r.built [
      | inl (done, does, well) ↦ (
        table,
        does.files,
        is_table,
        does.listed,
        in_order call.keep_going (EndsFile world e table asked r.value) (PutsFile world e table asked r.value) (file_put world e table asked r.value) does.files done was now (well refl)
            (done_of call.keep_going (DoesPage world e asked r.value) IsPageOf (EndsFile world e table asked r.value) (file_ends world e table is_table syntax asked r.value (layout_held world call.layout input r.layout r.folder r.read)) does.files does.pages done was now does.named does.done_in_order),
      )
      | inr (not, kept) ↦ absurd (not refl)
    ]
