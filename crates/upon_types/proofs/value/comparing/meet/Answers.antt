-- proofs/value/comparing/meet/Answers.antt
use Rattle.std.proofs.Common.{◌∙◌}
use Rattle.upon_types.specs.View.{view}
use Rattle.upon_types.proofs.Comparing.{met_by_eq, less_by_eq, lists-begin, lists-weigh, maps-begin, maps-weigh, goes-in, less-in}
use Rattle.upon_types.proofs.value.comparing.meet.Goals as goal

pub returns-in_ok-push-in-List-List-clause-agrees : goal.returns-in_ok-push-in-List-List-clause-agrees
returns-in_ok-push-in-List-List-clause-agrees c =
    let first = c.iter-first.ensures.rest ∙ c.deref.ensures.value in
    let second = c.iter-second.ensures.rest ∙ c.deref-in-List-List.ensures.value in
    let begins = lists-begin _ _ c.in-List-List.one c.in-List-List.other c.iter-first.result c.iter-second.result c.in-List-List.is-0 c.in-List-List.is-1 first second in
    goes-in (view c.args.a.now) (view c.args.b.now) _ _ _ begins c.in_ok-push-in-List-List.ensures.items

pub returns-in_ok-push-in-List-List-clause-less : goal.returns-in_ok-push-in-List-List-clause-less
returns-in_ok-push-in-List-List-clause-less c =
    let weighs = lists-weigh _ c.in-List-List.one c.iter-first.result c.in-List-List.is-0 (c.iter-first.ensures.rest ∙ c.deref.ensures.value) in
    less-in _ _ _ _ weighs c.in_ok-push-in-List-List.ensures.items

pub returns-in_ok-push-in-Map-Map-clause-agrees : goal.returns-in_ok-push-in-Map-Map-clause-agrees
returns-in_ok-push-in-Map-Map-clause-agrees c =
    let begins = maps-begin _ _ c.in-Map-Map.one c.in-Map-Map.other c.iter-first-in-Map-Map.result c.iter-second-in-Map-Map.result c.in-Map-Map.is-0 c.in-Map-Map.is-1 c.iter-first-in-Map-Map.ensures.rest c.iter-second-in-Map-Map.ensures.rest in
    goes-in (view c.args.a.now) (view c.args.b.now) _ _ _ begins c.in_ok-push-in-Map-Map.ensures.items

pub returns-in_ok-push-in-Map-Map-clause-less : goal.returns-in_ok-push-in-Map-Map-clause-less
returns-in_ok-push-in-Map-Map-clause-less c =
    let weighs = maps-weigh _ c.in-Map-Map.one c.iter-first-in-Map-Map.result c.in-Map-Map.is-0 c.iter-first-in-Map-Map.ensures.rest in
    less-in _ _ _ _ weighs c.in_ok-push-in-Map-Map.ensures.items

pub returns-in_default-clause-agrees : goal.returns-in_default-clause-agrees
returns-in_default-clause-agrees c = met_by_eq _ _ _ _ c.eq.ensures

pub returns-in_default-clause-less : goal.returns-in_default-clause-less
returns-in_default-clause-less c = less_by_eq _ _
