use Rattle.std.proofs.Common.{rules, ◌≡◌, ◌∙◌, true, false, string_bytes, ap, sym}
use Rattle.upon_calls.specs.Asked.{is_known}
use Rattle.upon_calls.specs.declared.failure.Argument.TheVariants.{Options}
use Rattle.upon_calls.proofs.Asking.{keys_more, keys_whole, no_key}
use Rattle.upon_calls.proofs.Refusals.{refused_for}
use Rattle.upon_calls.proofs.Sources.{keys_of_map}
use Rattle.upon_calls.proofs.options.check_keys.Goals as goal

pub returns-then-not-is_known-clause-refused : goal.returns-then-not-is_known-clause-refused
returns-then-not-is_known-clause-refused c =
    let same : c.into_iter-key-iterator.result ≡ c.in-Map.entries.entries = search rules in
    let no : is_known c.args.known (string_bytes c.in-Some.key.now) ≡ false = ap (is_known c.args.known) (sym c.deref.ensures) ∙ sym c.is_known.ensures ∙ c.if-not-is_known.true in
    refused_for Options c.refused.result c.refused.ensures (keys_of_map c.args.known c.args.value.now c.in-Map.entries _ c.in-Map.is same ∙ no_key c.args.known _ _ _ _ c.in-Some.ensures.steps no c.loop-key.invariant)

pub loop-key-preserved : goal.loop-key-preserved
loop-key-preserved c =
    let is : is_known c.args.known (string_bytes c.in-Some.key.now) ≡ true = ap (is_known c.args.known) (sym c.deref.ensures) ∙ sym c.is_known.ensures ∙ c.if-not-is_known.false in
    keys_more c.args.known _ _ _ _ c.in-Some.ensures.steps is c.loop-key.invariant

pub returns-clause-keys : goal.returns-clause-keys
returns-clause-keys c =
    let same : c.into_iter-key-iterator.result ≡ c.in-Map.entries.entries = search rules in
    keys_of_map c.args.known c.args.value.now c.in-Map.entries _ c.in-Map.is same ∙ keys_whole c.args.known _ _ c.in-None.ensures.steps.0 c.loop-key.invariant
