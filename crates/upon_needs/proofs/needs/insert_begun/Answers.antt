use Rattle.std.proofs.Common.{◌≡◌, ◌⊎◌, ◌↔◌, option_map, true, sym, subst}
use Rattle.upon_meaning_spec.specs.Needs.{a_name, StatementsBegin}
use Rattle.upon_needs.specs.EngineNeeds.{HeldBegins}
use Rattle.upon_needs.specs.Names.{has_name}
use Rattle.upon_engine.specs.Template.{template_of, template_tree}
use Rattle.upon_needs.proofs.Begun.{puts_none, puts_begun}
use Rattle.upon_needs.proofs.needs.insert_begun.Goals as goal

pub returns-in_default : goal.returns-in_default
returns-in_default c = λ name. subst (λ o. (has_name c.args.begun.now name ≡ true) ↔ ((has_name c.args.begun.now name ≡ true) ⊎ HeldBegins (option_map (λ t. template_of t.now) o) (a_name name))) (sym c.in_default.is) (puts_none c.args.begun.now name)

pub returns : goal.returns
returns c = λ name. subst (λ o. (has_name c.insert_all.new.names name ≡ true) ↔ ((has_name c.args.begun.now name ≡ true) ⊎ HeldBegins (option_map (λ t. template_of t.now) o) (a_name name))) (sym c.in-Some.is)
    (puts_begun (has_name c.args.begun.now name) _ _ name (StatementsBegin (a_name name) (template_tree c.in-Some.template.now)) (c.in_ok-insert_all.ensures name) (c.in_ok-names_needed.ensures.needed name))
