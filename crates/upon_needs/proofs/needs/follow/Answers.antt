use Rattle.std.proofs.Common.{◌↔◌, sym, subst}
use Rattle.upon_machine_spec.specs.ProgramNames.{IsListed}
use Rattle.upon_needs.specs.EngineNeeds.{link}
use Rattle.upon_needs.specs.Names.{texts}
use Rattle.upon_engine.specs.Template.{template_of, template_tree}
use Rattle.upon_needs.proofs.SearchSteps.{follow_none, follow_some}
use Rattle.upon_needs.proofs.needs.follow.Goals as goal

pub returns-clause-searched : goal.returns-clause-searched
returns-clause-searched c = λ tree before is s. follow_some _ _ tree _ before _ _ is s (template_of c.in-Some.template.now) (sym c.in-Some.ensures) _ _ _ c.in_ok-mark.ensures.marked
    (λ name. subst (λ l. IsListed (texts l) name ↔ link c.args.by (template_tree c.in-Some.template.now) name) (sym c.as_slice.ensures.value) (c.in_ok-names.ensures name))

pub returns-in_default-clause-searched : goal.returns-in_default-clause-searched
returns-in_default-clause-searched c = λ tree before is s. follow_none _ _ tree _ before _ _ is s (sym c.in_default.ensures)
