use Rattle.std.proofs.Common.{◌≡◌, List, [], ◌∷◌, ◌++◌, sym, ap, ◌∙◌}
use Rattle.upon_types.specs.View.{entries_view}
use Rattle.upon_data.specs.AtPath.{rebuilt}
use Rattle.upon_data.specs.declared.at_path.Around.{Around}
use Rattle.upon_data.proofs.Paths.{rebuilt-more}
use Rattle.upon_data.proofs.at_path.go_out.Goals as goal

pub loop-outer-preserved : goal.loop-outer-preserved
loop-outer-preserved c =
    let left = c.pop.new.self.items in
    let es = entries_view c.loop-outer.entries.entries in
    let items : c.loop-outer.around.items ≡ left ++ c.in-Some.outer ∷ [] = c.in-Some.ensures.items in
    ap (rebuilt left) c.go_back.ensures
    ∙ sym (rebuilt-more left c.in-Some.outer es)
    ∙ ap (λ (all : List Around). rebuilt all es) (sym items)
    ∙ c.loop-outer.invariant
