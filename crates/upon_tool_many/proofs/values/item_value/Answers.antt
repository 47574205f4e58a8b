use Rattle.std.proofs.Common.{is_some, string_bytes, sym, ap, ◌∙◌}
use Rattle.std.specs.BTreeMap.{get_by_text}
use Rattle.upon_types.specs.Conversions.{or_else}
use Rattle.upon_types.specs.Val.{entry_at, key_of}
use Rattle.upon_types.specs.View.{view, entries_view}
use Rattle.upon_tool_many.specs.Values.{item_key}
use Rattle.upon_tool_many.proofs.Keys.{or_none, other_left, other_put, put_over}
use Rattle.upon_tool_many.proofs.values.item_value.Goals as goal

pub loop-key-preserved-then-not-contains_key : goal.loop-key-preserved-then-not-contains_key
loop-key-preserved-then-not-contains_key c = λ key.
    let own = entry_at key (entries_view c.loop-key.entries.entries) in
    other_put c.loop-key.entries c.insert.new.self c.in_ok-clone.field-0 c.in_ok-try_clone.field-0 (string_bytes c.in-Some.key.now) (view c.in-Some.value.now) (entry_at key (entries_view c.next.new.self)) key
    c.in_ok-insert.ensures.updates c.in_ok-clone.ensures.cases c.in_ok-try_clone.ensures (sym c.if-not-contains_key.true ∙ c.contains_key.ensures ∙ ap (λ bs. is_some (get_by_text c.loop-key.entries bs)) c.as_str.ensures.value)
    ∙ ap (λ es. or_else own (entry_at key (entries_view es))) (sym c.in-Some.ensures.steps)
    ∙ c.loop-key.invariant key

pub loop-key-preserved : goal.loop-key-preserved
loop-key-preserved c = λ key.
    let own = entry_at key (entries_view c.loop-key.entries.entries) in
    other_left c.loop-key.entries (string_bytes c.in-Some.key.now) (view c.in-Some.value.now) (entry_at key (entries_view c.next.new.self)) key (sym c.if-not-contains_key.false ∙ c.contains_key.ensures ∙ ap (λ bs. is_some (get_by_text c.loop-key.entries bs)) c.as_str.ensures.value)
    ∙ ap (λ es. or_else own (entry_at key (entries_view es))) (sym c.in-Some.ensures.steps)
    ∙ c.loop-key.invariant key

pub returns : goal.returns
returns c =
    put_over c.loop-key.entries c.insert-2.new.self c.in_ok-key.key c.in_ok-try_clone-2.field-0 item_key (view c.args.item.now) (λ key. or_else (key_of key (view c.args.item.now)) (entry_at key (entries_view c.args.others.now.entries)))
    c.in_ok-insert-2.ensures.ordered c.in_ok-insert-2.ensures.updates c.in_ok-key.ensures.ok c.in_ok-try_clone-2.ensures
    (λ key. or_none (entry_at key (entries_view c.loop-key.entries.entries))
    ∙ ap (λ es. or_else (entry_at key (entries_view c.loop-key.entries.entries)) (entry_at key (entries_view es))) (sym c.in-None.ensures.steps.0)
    ∙ c.loop-key.invariant key)
