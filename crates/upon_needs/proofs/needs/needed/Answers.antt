use Rattle.std.proofs.Common.{rules, refl, true, false, ◌≡◌, ◌∙◌, ap, sym, bytes_eq}
use Rattle.std.specs.List.{list_any}
use Rattle.std.proofs.lemmas.Result.{IfOk-weaker}
use Rattle.upon_meaning_spec.specs.Needs.{NeedsName}
use Rattle.upon_engine.specs.Engine.{table_in}
use Rattle.upon_needs.specs.Names.{texts}
use Rattle.upon_engine.specs.Template.{template_tree}
use Rattle.upon_needs.proofs.NeededNames.{chosen_no, chosen_yes}
use Rattle.upon_needs.proofs.SetsOfNames.{has_listed, puts_one, taken_on}
use Rattle.upon_needs.proofs.needs.needed.Goals as goal

pub is_name_needed-requires : goal.is_name_needed-requires
is_name_needed-requires c h = c.in_ok-sure.ensures _ (sym c.contains.ensures ∙ h)

pub loop-name-preserved-in_ok-insert : goal.loop-name-preserved-in_ok-insert
loop-name-preserved-in_ok-insert c =
    let table = table_in c.args.templates.now in
    let tree = template_tree c.args.from.now in
    let puts = puts_one c.loop-name.needed c.insert.new.self c.in-Some.name c.in_ok-insert.ensures.updates in
    (taken_on _ _ _ _ _ c.in-Some.ensures.steps c.loop-name.invariant.0, chosen_yes (λ name. NeedsName table tree name) _ _ _ _ c.loop-name.invariant.1 puts (c.in_ok-is_name_needed.ensures.0 c.if-branch.true))

pub loop-name-preserved : goal.loop-name-preserved
loop-name-preserved c =
    let table = table_in c.args.templates.now in
    let tree = template_tree c.args.from.now in
    (taken_on _ _ _ _ _ c.in-Some.ensures.steps c.loop-name.invariant.0, chosen_no (λ name. NeedsName table tree name) c.loop-name.needed _ _ _ c.loop-name.invariant.1 (λ _. refl) (λ p. let never : false ≡ true = sym c.if-branch.false ∙ c.in_ok-is_name_needed.ensures.1 p in absurd (cc)))

pub returns-clause-same : goal.returns-clause-same
returns-clause-same c =
    let done : c.loop-name.yielded ≡ c.args.names.keys = search rules in
    IfOk-weaker c.ascending.result _ _ (λ v same name.
    let seen = has_listed c.args.names.keys name ∙ ap (λ ks. list_any (bytes_eq name) (texts ks)) (sym done) in
    (λ h. let k = (c.loop-name.invariant.1 name).0 ((same name).0 h) in (seen ∙ k.0, k.1), λ h. (same name).1 ((c.loop-name.invariant.1 name).1 (sym seen ∙ h.0, h.1)))) c.ascending.ensures.same
