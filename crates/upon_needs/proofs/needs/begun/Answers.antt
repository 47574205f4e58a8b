use Rattle.std.proofs.Common.{rules, arith, ◌≡◌, ◌⊎◌, ◌↔◌, ◌<◌, [], length, take, get_or, true, sym, subst}
use Rattle.std.proofs.lemmas.List.{take_all, take_more}
use Rattle.upon_meaning_spec.specs.Needs.{a_name}
use Rattle.upon_needs.specs.EngineNeeds.{HeldBegins}
use Rattle.upon_engine.specs.Engine.{table_in}
use Rattle.upon_needs.specs.Names.{has_name}
use Rattle.upon_engine.specs.Template.{template_tree}
use Rattle.upon_needs.proofs.Begun.{BegunIn, begun_first, begun_step}
use Rattle.upon_needs.proofs.needs.begun.Goals as goal

pub loop-name-init : goal.loop-name-init
loop-name-init c = begun_first (table_in c.args.templates.now) (template_tree c.args.from.now) c.new-begun.result _ c.new-begun.ensures.empty c.in_ok-insert_begun.ensures

pub loop-name-preserved : goal.loop-name-preserved
loop-name-preserved c =
    let table = table_in c.args.templates.now in
    let tree = template_tree c.args.from.now in
    let names = c.args.names.now in
    let at = c.loop-name.name-index in
    let one = get_or names at (record { ref_ptr = (0, 0); now = [] }) in
    let inside : at < length names = search rules in
    subst (λ l. BegunIn table tree c.insert_begun-in-loop-name.new.begun l) (sym (take_more names at _ inside)) (begun_step table tree c.loop-name.begun _ (take at names) one c.loop-name.invariant
    (λ name. subst (λ o. (has_name c.insert_begun-in-loop-name.new.begun name ≡ true) ↔ ((has_name c.loop-name.begun name ≡ true) ⊎ HeldBegins o (a_name name))) c.template_named.ensures (c.in_ok-insert_begun-2.ensures name)))

pub returns : goal.returns
returns c =
    let whole : take c.loop-name.name-index c.args.names.now ≡ c.args.names.now = take_all c.loop-name.name-index c.args.names.now (omega (arith, c.loop-name-test.false)) in
    subst (λ l. BegunIn (table_in c.args.templates.now) (template_tree c.args.from.now) c.loop-name.begun l) whole c.loop-name.invariant
