-- A map literal gives entries that rise.
use Rattle.std.proofs.Common.{◌≡◌, ℕ, List, map, true, refl, ap, sym, ◌∙◌}
use Rattle.upon_types.specs.declared.types.Span.{Span}
use Rattle.upon_types.specs.Expression.{Items, no_items, item_then, mapping}
use Rattle.upon_types.specs.Path.{Ident, key_value}
use Rattle.upon_types.specs.Val.{Entries, no_entries, map_val, key_of, entry_list, rises}
use Rattle.upon_types.proofs.Bindings.{one_map}
use Rattle.upon_lookup.specs.Environment.{Environment}
use Rattle.upon_lookup.specs.Finding.{Finding, found, at_fault, Reply, reply, with_found}
use Rattle.upon_lookup.specs.Items.{items_of, entry_binds}
use Rattle.upon_meaning_spec.specs.Engine.{Calls}
use Rattle.upon_meaning_spec.specs.Entries.{with_entry}
use Rattle.upon_meaning_spec.specs.Evaluation.{Operand, operand, evaluate_base, evaluate_items, as_map}
use Rattle.upon_meaning_spec.proofs.RisingEntries.{rises_more}

-- the entries that were found rise
abbrev Rising : Finding Entries → Type 0
Rising (found es) = rises es ≡ true
Rising (at_fault fault) = Unit {0}

-- an entry more, where the value is found, and then others
after_found : {V : Type 0} (key : List ℕ) (es : Entries) (go : Entries → V → Reply V (Finding Entries)) → ((more : Entries) (q : V) → rises more ≡ true → Rising (go more q).answer) → (a : Finding Operand) (q : V) → rises es ≡ true → Rising (with_found (reply a q) (λ o q'. go (with_entry key o.value es) q')).answer
after_found key es go rest (found o) q h = rest (with_entry key o.value es) q (rises_more key o.value es h)
after_found key es go rest (at_fault fault) q h = tt

module _ {V : Type 0} (calls : Calls V) (env : Environment) where
  rising_items : (items : Items) (es : Entries) (q : V) → rises es ≡ true → Rising (evaluate_items calls items es env q).answer
  rising_items no_items es q h = h
  rising_items (item_then key b items) es q h =
      let r = evaluate_base calls b env q in
      after_found key.text es (λ more q'. evaluate_items calls items more env q') (λ more q' k. rising_items items more q' k) r.answer r.next h

  of_literal : (a : Finding Entries) (q : V) (span : Span) (o : Operand) → Rising a → (as_map (reply a q) span).answer ≡ found o → (es : Entries) × (o.value ≡ map_val es) × (rises es ≡ true)
  of_literal (found es) q span o h e = let same : operand (map_val es) span ≡ o = cc in (es, ap (λ (x : Operand). x.value) (sym same), h)
  of_literal (at_fault fault) q span o h e = absurd (cc)

  pub literal_rises : (items : Items) (span : Span) (q : V) (o : Operand) → (evaluate_base calls (mapping items span) env q).answer ≡ found o → (es : Entries) × (o.value ≡ map_val es) × (rises es ≡ true)
  literal_rises items span q o e =
      let r = evaluate_items calls items no_entries env q in
      of_literal r.answer r.next span o (rising_items items no_entries q refl) e

  pub literal_order : (items : Items) (span : Span) (q : V) (o : Operand) (key value : Ident) (both at : Span) → (evaluate_base calls (mapping items span) env q).answer ≡ found o → (es : Entries) × (rises es ≡ true) × (items_of (key_value key value both) o.value at ≡ found (map (entry_binds key value) (entry_list es)))
  literal_order items span q o key value both at e =
      let literal = literal_rises items span q o e in
      (literal.0, literal.2, ap (λ v. items_of (key_value key value both) v at) literal.1)

pub literals_same : {V : Type 0} (calls : Calls V) (items others : Items) (span place : Span) (env around : Environment) (p q : V) (a b : Operand) → (evaluate_base calls (mapping items span) env p).answer ≡ found a → (evaluate_base calls (mapping others place) around q).answer ≡ found b → ((key : List ℕ) → key_of key a.value ≡ key_of key b.value) → a.value ≡ b.value
literals_same calls items others span place env around p q a b x y agree =
    let one = literal_rises calls env items span p a x in
    let other = literal_rises calls around others place q b y in
    one.1 ∙ ap map_val (one_map one.0 other.0 one.2 other.2 (λ key. ap (key_of key) (sym one.1) ∙ agree key ∙ ap (key_of key) other.1)) ∙ sym other.1
