use Rattle.std.proofs.Common.{rules, ◌≡◌, ◌∙◌, [], None, Some, ap, refl, sym}
use Rattle.upon_types.specs.View.{entries_view}
use Rattle.upon_calls.specs.Templates.{lent_pairs, texts_in}
use Rattle.upon_calls.specs.declared.failure.Argument.TheVariants.{Templates}
use Rattle.upon_calls.proofs.Refusals.{refused_for}
use Rattle.upon_calls.proofs.Sources.{before, no_source, none_before, of_map, source_more, sources_whole}
use Rattle.upon_calls.proofs.templates.sources_of.Goals as goal

pub loop-name-init : goal.loop-name-init
loop-name-init c =
    let none : c.new-sources.result.items ≡ [] = c.new-sources.ensures.items in
    sym (ap (λ items. before (lent_pairs items) (texts_in (entries_view c.into_iter-name-iterator.result))) none ∙ none_before (texts_in (entries_view c.into_iter-name-iterator.result)))

pub returns-in_default-text_in-clause-refused : goal.returns-in_default-text_in-clause-refused
returns-in_default-text_in-clause-refused c =
    let same : c.into_iter-name-iterator.result ≡ c.in-Map.entries.entries = search rules in
    refused_for Templates c.refused-in_default-text_in.result c.refused-in_default-text_in.ensures (of_map c.args.templates.now c.in-Map.entries _ c.in-Map.is same ∙ no_source _ _ _ _ _ c.in-Some.ensures.steps (sym c.in_default-text_in.ensures) c.loop-name.invariant)

pub loop-name-preserved : goal.loop-name-preserved
loop-name-preserved c =
    source_more _ _ _ _ _ _ _ _ c.in-Some.ensures.steps (sym c.in-Some-text_in.ensures) c.as_str.ensures.value refl c.in_ok-push.ensures.items c.loop-name.invariant

pub returns-clause-read : goal.returns-clause-read
returns-clause-read c =
    let same : c.into_iter-name-iterator.result ≡ c.in-Map.entries.entries = search rules in
    of_map c.args.templates.now c.in-Map.entries _ c.in-Map.is same ∙ sources_whole _ _ _ c.in-None.ensures.steps.0 c.loop-name.invariant
