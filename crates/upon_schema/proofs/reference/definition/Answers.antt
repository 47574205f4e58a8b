use Rattle.std.proofs.Common.{◌≡◌, List, Some, option_map, string_bytes, sym, ap, ◌∙◌}
use Rattle.std.proofs.lemmas.Bool.{false≢true}
use Rattle.upon_types.specs.Val.{key_of}
use Rattle.upon_types.specs.View.{view, entries_view}
use Rattle.upon_types.proofs.Views.{Entry}
use Rattle.upon_schema.specs.Reference.{spelled}
use Rattle.upon_schema.specs.Valid.{entries_or_none}
use Rattle.upon_schema.proofs.Referred.{at_later, found_later, found_spelled}
use Rattle.upon_schema.proofs.reference.definition.Goals as goal

pub returns-then-is_spelled-clause-found : goal.returns-then-is_spelled-clause-found
returns-then-is_spelled-clause-found c =
    let name = c.args.name.now in
    let k = string_bytes c.in-Some.key.now in
    let spells : name ≡ spelled k = sym c.as_bytes.ensures.value ∙ c.is_spelled.ensures.spelled c.if-is_spelled.true ∙ ap spelled c.as_bytes-in-loop-key.ensures.value in
    found_spelled name c.deref.result.now k (view c.in-Some.field-0-1.now) (entries_view c.loop-key.key-iterator) (entries_view c.next.new.self) (entries_or_none (Some (view c.args.definitions.now))) (view c.args.definitions.now)
    (option_map (λ v. view v.now) c.entry.result) (ap (λ (es : List Entry). entries_view es) c.in-Some.ensures.steps) c.deref.ensures spells c.entry.ensures
    (c.loop-key.invariant.at_key c.deref.result.now (spells ∙ ap spelled (sym c.deref.ensures))) c.loop-key.invariant.found

pub loop-key-preserved : goal.loop-key-preserved
loop-key-preserved c =
    let name = c.args.name.now in
    let k = string_bytes c.in-Some.key.now in
    let v = view c.in-Some.field-0-1.now in
    let here = entries_view c.loop-key.key-iterator in
    let left = entries_view c.next.new.self in
    let is = ap (λ (es : List Entry). entries_view es) c.in-Some.ensures.steps in
    let other = λ (e : name ≡ spelled k). false≢true (sym c.if-is_spelled.false ∙ c.is_spelled.ensures.others (c.as_bytes.ensures.value ∙ e ∙ ap spelled (sym c.as_bytes-in-loop-key.ensures.value))) in
    record {
      found = found_later name k v here left (entries_or_none (Some (view c.args.definitions.now))) is other c.loop-key.invariant.found;
      at_key = λ key e. at_later name key k v here left (key_of key (view c.args.definitions.now)) is other e (c.loop-key.invariant.at_key key e);
    }
