use Rattle.std.proofs.Common.{rules, ◌≡◌, ◌↔◌, Contains, sym, subst, ◌∙◌, true}
use Rattle.upon_needs.specs.Names.{texts, has_name, Rise}
use Rattle.upon_needs.proofs.SetsOfNames.{keys_rise, has_listed, listed_contains}
use Rattle.upon_needs.proofs.template_names.ascending.Goals as goal

pub returns-clause-same : goal.returns-clause-same
returns-clause-same c = λ name.
    let all : c.loop-name.sorted.items ≡ c.args.names.keys = search rules in
    let found = listed_contains (texts c.args.names.keys) name in
    let same = has_listed c.args.names.keys name in
    subst (λ items. Contains (texts items) name ↔ (has_name c.args.names name ≡ true)) (sym all) (λ h. same ∙ found.0 h, λ e. found.1 (sym same ∙ e))

pub returns-clause-rise : goal.returns-clause-rise
returns-clause-rise c =
    let all : c.loop-name.sorted.items ≡ c.args.names.keys = search rules in
    subst (λ items. Rise (texts items)) (sym all) (keys_rise c.args.names.keys c.into_iter-name-iterator.ensures.into_iter_gives.4)
