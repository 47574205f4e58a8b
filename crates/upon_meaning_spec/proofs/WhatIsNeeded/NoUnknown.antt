-- Where no include is missing, no rendering over a context ends with the fault of an unknown template.
use Rattle.std.proofs.Common.{◌≡◌, ℕ, List, Option, Some, None, ap, sym, subst, ◌∙◌, refl, codes, Bool, true, false, bytes_eq}
use Rattle.upon_types.specs.Fault.{Kind, render}
use Rattle.upon_types.specs.Val.{Val, none_val, bool_val, int_val, text_val, list_val, map_val}
use Rattle.upon_lookup.specs.Environment.{context}
use Rattle.upon_lookup.specs.Finding.{reply}
use Rattle.upon_lookup.specs.Source.{Source, says, refuses}
use Rattle.upon_meaning_spec.specs.Alone.{includes_left, alone, alone_within}
use Rattle.upon_meaning_spec.specs.Engine.{Template, Table, Calls, Resolver, from_table}
use Rattle.upon_meaning_spec.specs.Missing.{NothingMissing, AnswersTable, EndsUnknown}
use Rattle.upon_meaning_spec.specs.Outcome.{End, good, fails, too_deep, States}
use Rattle.upon_meaning_spec.specs.RenderFaults.{IsStated, not_in_scope, not_in_map, out_of_bounds, no_index_access, no_key_access, index_into_string, integer_index, index_into, value_refused, not_iterable, list_item_into_two, map_item_into_one, unknown_callable, unknown_function, formatter_found, formatter_expects, function_expects, wrong_type, out_of_range, declined, no_argument, formatter_refused, default_refused, template_refused, EndStated, Anywhere}
use Rattle.upon_meaning_spec.proofs.FaultsStated.Ends.{end_stated}
use Rattle.upon_meaning_spec.proofs.UnaskedMeaning.{unasked}
use Rattle.upon_meaning_spec.proofs.WhatIsNeeded.NothingMissing.{same_with}

-- a source of values that never refuses
abbrev says_nothing : {V : Type 0} → Source V
says_nothing q path = reply (says none_val) q

-- a source of templates that never refuses: names that the table does not hold give this template
abbrev or_this : Template → Option Template → Template
or_this t None = t
or_this t (Some u) = u

abbrev always : {T : Type 0} → Table → Template → Resolver T
always table t q name = reply (says (or_this t (table name))) q

always_answers : {T : Type 0} (table : Table) (t : Template) → AnswersTable {T = T} table (always table t)
always_answers table t q name u e = ap (λ o. reply (says (or_this t o)) q) e

not_refused : {A : Type 0} (a : A) (text : List ℕ) → says a ≡ refuses text → ⊥
not_refused a text e = absurd (cc)

-- whether a reason is that of an unknown template
abbrev is_unknown : Option (List ℕ) → Bool
is_unknown None = false
is_unknown (Some text) = bytes_eq text (codes "unknown template")

another : (reason : Option (List ℕ)) → is_unknown reason ≡ false → reason ≡ Some (codes "unknown template") → ⊥
another reason differs e = let never : false ≡ true = sym differs ∙ ap is_unknown e in absurd (cc)

module _ {V T : Type 0} (calls : Calls V) (resolve : Resolver T) (source_says : (q : V) (path : _) (text : List ℕ) → (calls.ask q path).answer ≡ refuses text → ⊥) (templates_say : (q : T) (name text : List ℕ) → (resolve q name).answer ≡ refuses text → ⊥) where
  no_unknown : (kind : Kind) (reason : Option (List ℕ)) → IsStated calls resolve kind reason → kind ≡ render → reason ≡ Some (codes "unknown template") → ⊥
  no_unknown kind reason not_in_scope k e = another reason refl e
  no_unknown kind reason not_in_map k e = another reason refl e
  no_unknown kind reason (out_of_bounds n) k e = another reason refl e
  no_unknown kind reason (no_index_access none_val) k e = another reason refl e
  no_unknown kind reason (no_index_access (bool_val b)) k e = another reason refl e
  no_unknown kind reason (no_index_access (int_val z)) k e = another reason refl e
  no_unknown kind reason (no_index_access (text_val s)) k e = another reason refl e
  no_unknown kind reason (no_index_access (list_val vs)) k e = another reason refl e
  no_unknown kind reason (no_index_access (map_val es)) k e = another reason refl e
  no_unknown kind reason (no_key_access none_val) k e = another reason refl e
  no_unknown kind reason (no_key_access (bool_val b)) k e = another reason refl e
  no_unknown kind reason (no_key_access (int_val z)) k e = another reason refl e
  no_unknown kind reason (no_key_access (text_val s)) k e = another reason refl e
  no_unknown kind reason (no_key_access (list_val vs)) k e = another reason refl e
  no_unknown kind reason (no_key_access (map_val es)) k e = another reason refl e
  no_unknown kind reason index_into_string k e = another reason refl e
  no_unknown kind reason integer_index k e = another reason refl e
  no_unknown kind reason (index_into v) k e = another reason refl e
  no_unknown kind reason (value_refused q path text r) k e = source_says q path text r
  no_unknown kind reason (not_iterable v) k e = another reason refl e
  no_unknown kind reason list_item_into_two k e = another reason refl e
  no_unknown kind reason map_item_into_one k e = another reason refl e
  no_unknown kind reason unknown_callable k e = another reason refl e
  no_unknown kind reason unknown_function k e = another reason refl e
  no_unknown kind reason formatter_found k e = another reason refl e
  no_unknown kind reason (formatter_expects n) k e = another reason refl e
  no_unknown kind reason (function_expects n m) k e = another reason refl e
  no_unknown kind reason (wrong_type name word v) k e = another reason refl e
  no_unknown kind reason (out_of_range name word v) k e = another reason refl e
  no_unknown kind reason (declined name f values text a b) k e = absurd (cc)
  no_unknown kind reason (no_argument name f given i misfit a b c) k e = absurd (cc)
  no_unknown kind reason (formatter_refused name f v message a b) k e = absurd (cc)
  no_unknown kind reason (default_refused v message a) k e = absurd (cc)
  no_unknown kind reason (template_refused q name text r) k e = templates_say q name text r

  no_end : (t : Template) (name : Option (List ℕ)) (end : End) → EndStated calls resolve t name Anywhere end → EndsUnknown end → ⊥
  no_end t name good stated ends = ends
  no_end t name (fails f) stated ends = no_unknown f.kind f.reason stated.2.stated ends.0 ends.1
  no_end t name too_deep stated ends = ends

module _ {V T : Type 0} (calls : Calls V) (table : Table) (limit : ℕ) (t : Template) (name : Option (List ℕ)) (v : Val) (s : States V T) (none : NothingMissing table t.tree) where
  pub never_unknown : EndsUnknown (alone (record { calls = calls; resolve = from_table table; limit = limit }) t name (context v) s).end → ⊥
  never_unknown ends =
      let other = record calls { ask = says_nothing {V = V} } in
      let left = includes_left limit in
      let same = same_with calls table (always {T = T} table t) t name limit (context v) s none (always_answers table t) ∙ sym (unasked calls says_nothing (always {T = T} table t) left t name v s) in
      no_end other (always {T = T} table t) (λ q path text r. not_refused none_val text r) (λ q word text r. not_refused (or_this t (table word)) text r) t name
      (alone_within other (always {T = T} table t) left t name (context v) s).end
      (end_stated other (always {T = T} table t) left t name (context v) s)
      (subst (λ o. EndsUnknown o.end) same ends)
