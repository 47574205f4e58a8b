use Rattle.std.proofs.Common.{◌≡◌, ◌+◌, ◌<◌, [], ◌∷◌, ◌++◌, take, length, String, Global, string_bytes, string_cmp, sym, ap, subst, ◌∙◌, append_assoc, arith, rules}
use Rattle.std.proofs.lemmas.List.{take_more}
use Rattle.std.specs.List.Sorted.{IsStrictlySortedBy}
use Rattle.std.specs.Map.{keys_of}
use Rattle.toml.specs.View.{items_view, members_view}
use Rattle.toml.specs.declared.value.Value.{Value as Data}
use Rattle.upon_types.specs.View.{vals_view, entries_view}
use Rattle.upon_data.specs.Document.{AreEntriesOf, AreValuesOf}
use Rattle.upon_data.proofs.Documents.{entries_more, values_more}
use Rattle.upon_data.proofs.document.+value.Goals as goal

pub items-loop-data-preserved : goal.items-loop-data-preserved
items-loop-data-preserved t c =
    let l = c.loop-data in
    let all = c.deref-data-items.result.now in
    let v = c.in_ok-value.field-0 in
    let inside : l.data-index < length all = omega arith in
    let front : take (l.data-index + 1) all ≡ take l.data-index all ++ c.data-item.result ∷ [] =
    take_more all l.data-index _ inside ∙ ap (λ d. take l.data-index all ++ d ∷ []) (sym c.data-item.is) in
    let pushed : c.push.new.self.items ≡ l.values.items ++ v ∷ [] = search rules in
    subst (λ ds. AreValuesOf (items_view ds) (vals_view c.push.new.self.items)) (sym front)
    (subst (λ vs. AreValuesOf (items_view (take l.data-index all ++ c.data-item.result ∷ [])) (vals_view vs)) (sym pushed)
    (values_more (take l.data-index all) c.data-item.result l.values.items v l.invariant c.in_ok-value.ensures))

pub entries-loop-key-preserved : goal.entries-loop-key-preserved
entries-loop-key-preserved t c =
    let l = c.loop-key in
    let done = l.invariant.0 in
    let e : String Global × Data = (c.in-Some.key.now, c.in-Some.data.now) in
    let left = c.next.new.self in
    let all : c.args.table.now.entries ≡ done ++ e ∷ left = l.invariant.1 ∙ ap (λ es. done ++ es) c.in-Some.ensures.steps in
    let rise = subst (λ es. IsStrictlySortedBy string_cmp (keys_of es)) all c.iter-key-items.ensures.ordered in
    let named : string_bytes c.in_ok-from_str.field-0 ≡ string_bytes e.0 = c.in_ok-from_str.ensures.ok ∙ c.deref.ensures in (
      done ++ e ∷ [],
      all ∙ sym (append_assoc done (e ∷ []) left),
      subst (λ es. AreEntriesOf (members_view (done ++ e ∷ [])) (entries_view es)) (sym c.in_ok-insert.ensures.entries)
          (entries_more done e left l.entries.entries c.in_ok-from_str.field-0 c.in_ok-value.value rise l.invariant.2 named c.in_ok-value.ensures),
    )
