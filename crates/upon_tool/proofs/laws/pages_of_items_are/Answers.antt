use Rattle.std.proofs.Common.{◌∙◌, inl, inr, refl}
use Rattle.upon_engine.specs.Changes.{with_text}
use Rattle.upon_tool_many.specs.Each.{DoesItem, NamesItem}
use Rattle.upon_calls.proofs.Tables.{added, has_table}
use Rattle.upon_tool.specs.ByTable.{EndsItem, PutsItem}
use Rattle.upon_tool.specs.Calls.{each_asked}
use Rattle.upon_calls.specs.Filled.{functions_if}
use Rattle.upon_tool.proofs.Filled.{begun_syntax, takes_syntax}
use Rattle.upon_tool.proofs.OneTable.{done_of, in_order}
use Rattle.upon_tool.proofs.PagesByTable.{item_ends, item_put}
use Rattle.upon_tool.proofs.laws.pages_of_items_are.Goals as goal

pub returns : goal.returns
returns g c = λ call input was now r utf8.
    let world = g.R.Sources.world c.args.sources.now in
    let e = with_text call.render.file.now r.text r.folder in
    let asked = each_asked call in
    let (table, is_table) = has_table e r.trees in
    let syntax = takes_syntax r.files _ r.folder r.taken ∙ begun_syntax call.render.escape (functions_if call.render.standard) in
    elim r.rendered [
      | inl (done, does, well) ↦ (
        table,
        does.others,
        does.items,
        is_table,
        does.listed,
        in_order call.keep_going (EndsItem world e table asked does.others) (PutsItem world e table asked does.others) (item_put world e table asked does.others) does.items done was now (well refl)
            (done_of call.keep_going (DoesItem world e asked does.others) (NamesItem e asked does.others) (EndsItem world e table asked does.others) (item_ends world e table is_table syntax asked does.others _ utf8 (added call.render.file.now r.text r.folder)) does.items does.pages done was now does.named does.done_in_order),
      )
      | inr (not, kept) ↦ absurd (not refl)
    ]
