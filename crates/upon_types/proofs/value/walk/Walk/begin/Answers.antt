use Rattle.std.proofs.Common.{◌≡◌, ◌∷◌, ◌∙◌, true}
use Rattle.upon_types.specs.View.{view}
use Rattle.upon_types.specs.Walk.{parts_of_value}
use Rattle.upon_types.specs.Walked.{part_of, parts_of_rest}
use Rattle.upon_types.proofs.Walks.{begins-List, begins-Map, goes-in}
use Rattle.upon_types.proofs.value.walk.Walk.begin.Goals.{in-List, in-Map}
use Rattle.upon_types.proofs.value.walk.Walk.begin.Goals as goal

pub returns : goal.returns
returns c =
    let begins : parts_of_value (view c.args.value.now) ≡ part_of c.match-value.rest.0 ∷ parts_of_rest c.match-value.rest.1 true = elim c.match-value.branch [
      | in-List w ↦ rw w.rest-is (begins-List _ w.in-List.items w.iter.result w.in-List.is (w.iter.ensures.rest ∙ w.deref.ensures.value))
      | in-Map w ↦ rw w.rest-is (begins-Map _ w.in-Map.entries w.iter-in-Map.result w.in-Map.is w.iter-in-Map.ensures.rest)
    ] in
    goes-in _ _ _ _ _ _ c.requires begins c.in_ok-push.ensures.items
