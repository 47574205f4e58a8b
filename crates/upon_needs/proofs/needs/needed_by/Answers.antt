use Rattle.std.proofs.Common.{◌≡◌, ◌↔◌, Contains, true, sym, subst}
use Rattle.upon_engine.specs.Engine.{table_in}
use Rattle.upon_needs.specs.Names.{texts, has_name}
use Rattle.upon_engine.specs.Template.{template_tree}
use Rattle.upon_needs.proofs.Begun.{reached_lists, needed_all, missing_all, templates_all}
use Rattle.upon_needs.proofs.needs.needed_by.Goals as goal

pub returns-clause-names : goal.returns-clause-names
returns-clause-names c =
    let all = reached_lists (table_in c.args.templates.now) (template_tree c.args.from.now) c.in_ok-seen.seen _ c.in_ok-seen.ensures (λ name. subst (λ l. Contains (texts l) name ↔ (has_name c.in_ok-seen.seen name ≡ true)) (sym c.as_slice-reached.ensures.value) (c.in_ok-sorted.ensures.same name)) in
    needed_all _ _ c.as_slice-reached.result.now c.in_ok-begun.begun all c.in_ok-begun.ensures _ c.in_ok-names.ensures.same

pub returns-clause-templates : goal.returns-clause-templates
returns-clause-templates c =
    let all = reached_lists (table_in c.args.templates.now) (template_tree c.args.from.now) c.in_ok-seen.seen _ c.in_ok-seen.ensures (λ name. subst (λ l. Contains (texts l) name ↔ (has_name c.in_ok-seen.seen name ≡ true)) (sym c.as_slice-reached.ensures.value) (c.in_ok-sorted.ensures.same name)) in
    templates_all _ _ c.as_slice-reached.result.now all _ c.in_ok-held.ensures.same

pub returns-clause-missing : goal.returns-clause-missing
returns-clause-missing c =
    let all = reached_lists (table_in c.args.templates.now) (template_tree c.args.from.now) c.in_ok-seen.seen _ c.in_ok-seen.ensures (λ name. subst (λ l. Contains (texts l) name ↔ (has_name c.in_ok-seen.seen name ≡ true)) (sym c.as_slice-reached.ensures.value) (c.in_ok-sorted.ensures.same name)) in
    missing_all _ _ c.as_slice-reached.result.now all _ c.in_ok-missing.ensures.same
