use Rattle.std.proofs.Common.{◌≡◌, ◌↔◌, Contains, true, sym, subst}
use Rattle.std.proofs.lemmas.Result.{IfOk-weaker}
use Rattle.upon_engine.specs.Engine.{table_in}
use Rattle.upon_needs.specs.Names.{texts, has_name}
use Rattle.upon_engine.specs.Template.{template_tree}
use Rattle.upon_needs.proofs.Begun.{surely}
use Rattle.upon_needs.proofs.needs.surely_needed.Goals as goal

pub returns : goal.returns
returns c =
    IfOk-weaker c.begun.result _ _ (λ begun so name e. surely (table_in c.args.templates.now) (template_tree c.args.from.now) c.in_ok-seen.seen begun c.as_slice.result.now c.in_ok-seen.ensures
    (λ name. subst (λ l. Contains (texts l) name ↔ (has_name c.in_ok-seen.seen name ≡ true)) (sym c.as_slice.ensures.value) (c.in_ok-reached.ensures.same name)) so name e) c.begun.ensures
