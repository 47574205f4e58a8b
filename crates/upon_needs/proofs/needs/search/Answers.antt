use Rattle.std.proofs.Common.{rules, ◌≡◌, ◌↔◌, subst, [], ◌∷◌, ◌++◌, sym, bytes_eq}
use Rattle.std.specs.List.{list_any}
use Rattle.upon_machine_spec.specs.ProgramNames.{IsListed}
use Rattle.upon_needs.specs.EngineNeeds.{link}
use Rattle.upon_needs.specs.Names.{texts}
use Rattle.upon_engine.specs.Template.{template_tree}
use Rattle.upon_needs.proofs.Links.{search_begins, search_ends}
use Rattle.upon_needs.proofs.SearchSteps.{waited_by, nobody_waits, nothing_seen}
use Rattle.upon_needs.proofs.needs.search.Goals as goal

pub loop-name-init : goal.loop-name-init
loop-name-init c =
    let none : c.new-waiting.result.items ≡ [] = search rules in
    search_begins _ _ _ _ _ _ _ _ c.in_ok-mark.ensures.marked (nothing_seen _ c.new-seen.ensures.empty) (nobody_waits _ none)
    (λ name. subst (λ l. IsListed (texts l) name ↔ link c.args.by (template_tree c.args.from.now) name) (sym c.as_slice.ensures.value) (c.in_ok-names.ensures name))

pub loop-name-preserved : goal.loop-name-preserved
loop-name-preserved c =
    let popped : c.loop-name.waiting.items ≡ c.pop.new.self.items ++ c.in-Some.name ∷ [] = search rules in
    c.in_ok-follow.ensures.searched (template_tree c.args.from.now) (λ n. list_any (bytes_eq n) (texts c.loop-name.waiting.items)) (waited_by _ _ _ popped) c.loop-name.invariant

pub returns : goal.returns
returns c =
    let none : c.loop-name.waiting.items ≡ [] = search rules in
    search_ends _ _ _ _ _ c.loop-name.invariant (nobody_waits _ none)
