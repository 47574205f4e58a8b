use Rattle.std.proofs.Common.{◌≡◌, Bor, Option, codes, false, bytes_eq, option_map, inr, sym, ap, ◌∙◌}
use Rattle.upon_types.specs.View.{view}
use Rattle.upon_types.specs.declared.value.Value.{Value}
use Rattle.upon_schema.specs.Reference.{IsDefinition, RefersTo}
use Rattle.upon_schema.proofs.Spellings.{if_some_more, is_definition, stripped}
use Rattle.upon_schema.proofs.Referred.{referred_never}
use Rattle.upon_schema.proofs.reference.referred.Goals as goal

pub returns-clause-refers : goal.returns-clause-refers
returns-clause-refers c =
    let root = view c.args.root.now in
    let reference = c.args.reference.now in
    let begin = codes "#/definitions/" in
    let name = c.in_ok-name.name.now in
    if_some_more c.definition-2.result (λ (s : Bor Value). IsDefinition begin (codes "definitions") root reference (view s.now)) (λ (s : Bor Value). RefersTo root reference (view s.now))
    (λ s d. inr (inr d))
    (is_definition begin (codes "definitions") reference name root (view c.in_ok-entry-2.field-0.now) c.definition-2.result (stripped begin reference name c.in_ok-name.ensures.cases) c.in_ok-entry-2.ensures c.definition-2.ensures.at_key)

pub returns-in_err-name-clause-found : goal.returns-in_err-name-clause-found
returns-in_err-name-clause-found c =
    let other : bytes_eq c.args.reference.now (codes "#") ≡ false = sym c.eq.ensures ∙ c.if-eq.false in
    ap (λ (o : Option (Bor Value)). option_map (λ s. view s.now) o) c.from_residual-in_err-name.ensures ∙ sym (referred_never (view c.args.root.now) c.args.reference.now other c.in_default.ensures.cases c.in_err-name.ensures.cases)
