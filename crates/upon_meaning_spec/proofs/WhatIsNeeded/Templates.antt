-- Templates of a table: what is rendered depends on what is needed of the context, alone.
use Rattle.std.proofs.Common.{◌≡◌, ℕ, zero, suc, List, [], ◌∷◌, Option, Some, None, refl, sym, ap, ◌∙◌}
use Rattle.upon_types.specs.declared.types.Span.{Span}
use Rattle.upon_types.specs.declared.types.ast.path.AccessOp.{AccessOp}
use Rattle.upon_types.specs.Path.{Ident, Access, by_index, by_key, Member, path_span}
use Rattle.upon_types.specs.Tree.{Statements}
use Rattle.upon_types.specs.Val.{Val, none_val, bool_val, int_val, text_val, list_val, map_val, Entries, entry_at}
use Rattle.upon_lookup.specs.Environment.{context, Root, value_source, Environment, root_environment}
use Rattle.upon_lookup.specs.Finding.{Finding, found, reply}
use Rattle.upon_lookup.specs.Lookup.{lookup, or_not_in_scope, reply_value}
use Rattle.upon_lookup.specs.LookupFaults.{not_in_map}
use Rattle.upon_meaning_spec.specs.ValueSource.{with_source}
use Rattle.upon_lookup.specs.Source.{ValueMember, value_member_of, value_members_of, Source, SourceAnswer, says, refuses}
use Rattle.upon_lookup.specs.Walk.{after_first, found_or_missed, walk, context_walk}
use Rattle.upon_meaning_spec.specs.Alone.{running, on_template, included, alone_within, includes_left, alone}
use Rattle.upon_meaning_spec.specs.Engine.{Template, Table, Calls, from_table, table_answer}
use Rattle.upon_meaning_spec.specs.Meaning.{RunningTemplate, statements_mean}
use Rattle.upon_meaning_spec.specs.Names.{AgreeOn}
use Rattle.upon_meaning_spec.specs.Outcome.{Outcome, States, states}
use Rattle.upon_meaning_spec.specs.Needs.{Start, a_name, an_index, StatementsPass, Needs, NeedsName, entry_in, AgreeForNeeds}
use Rattle.upon_meaning_spec.specs.SourceNeeds.{start_of_member, SourcesAgreeForNeeds}
use Rattle.upon_meaning_spec.proofs.Reached.{table_hands_on}
use Rattle.upon_meaning_spec.proofs.WhatIsNeeded.FoundAlike.{start_of, FoundAlike}
use Rattle.upon_meaning_spec.proofs.WhatIsNeeded.SameNeeded.{same_statements}

-- contexts that agree on names, and are the same where an index may begin a path
module _ {V : Type 0} (ask : Source V) where
  -- a first name of a path in a value counts by its entry alone
  abbrev by_entry : Option (Option Val) → AccessOp → Span → List Member → Finding (Option Val)
  by_entry None op span rest = found None
  by_entry (Some o) op span rest = after_first (found_or_missed o op (not_in_map span)) (walk rest)

  entry_walk : (v : Val) (word : Ident) (op : AccessOp) (span : Span) (rest : List Member) →
      context_walk (record { op = op; access = by_key word; span = span }) rest v ≡ by_entry (entry_in word.text v) op span rest
  entry_walk (map_val es) word op span rest = refl
  entry_walk (list_val vs) word op span rest = refl
  entry_walk none_val word op span rest = refl
  entry_walk (bool_val b) word op span rest = refl
  entry_walk (int_val z) word op span rest = refl
  entry_walk (text_val s) word op span rest = refl

  module _ (starts : Start → Type 0) where
    key_alike : (this that : Val) (word : Ident) (op : AccessOp) (span : Span) (rest : List Member) (q : V) → entry_in word.text this ≡ entry_in word.text that →
        lookup ask (root_environment (context this)) (record { op = op; access = by_key word; span = span }) rest q ≡ lookup ask (root_environment (context that)) (record { op = op; access = by_key word; span = span }) rest q
    key_alike this that word op span rest q agree =
        ap (λ x. reply (or_not_in_scope x span) q)
        (entry_walk this word op span rest ∙ ap (λ x. by_entry x op span rest) agree ∙ sym (entry_walk that word op span rest))

    module _ (this that : Val) (on_names : (name : List ℕ) → starts (a_name name) → entry_in name this ≡ entry_in name that) (on_all : starts an_index → this ≡ that) where
      by_selector : (selector : Access) (op : AccessOp) (span : Span) (rest : List Member) (q : V) → starts (start_of selector) →
          lookup ask (root_environment (context this)) (record { op = op; access = selector; span = span }) rest q ≡ lookup ask (root_environment (context that)) (record { op = op; access = selector; span = span }) rest q
      by_selector (by_index n at) op span rest q known = ap (λ x. lookup ask (root_environment (context x)) (record { op = op; access = by_index n at; span = span }) rest q) (on_all known)
      by_selector (by_key word) op span rest q known = key_alike this that word op span rest q (on_names word.text known)

      pub contexts_alike : FoundAlike ask ask starts (root_environment (context this)) (root_environment (context that))
      contexts_alike first rest q known = by_selector first.access first.op first.span rest q known

    module _ (these those : Entries) (agree : (name : List ℕ) → starts (a_name name) → entry_at name these ≡ entry_at name those) where
      in_maps : (selector : Access) (op : AccessOp) (span : Span) (rest : List Member) (q : V) → starts (start_of selector) →
          lookup ask (root_environment (context (map_val these))) (record { op = op; access = selector; span = span }) rest q ≡ lookup ask (root_environment (context (map_val those))) (record { op = op; access = selector; span = span }) rest q
      in_maps (by_index n at) op span rest q known = refl
      in_maps (by_key word) op span rest q known = key_alike (map_val these) (map_val those) word op span rest q (ap Some (agree word.text known))

      -- an index is found in no map
      pub maps_alike : FoundAlike ask ask starts (root_environment (context (map_val these))) (root_environment (context (map_val those)))
      maps_alike first rest q known = in_maps first.access first.op first.span rest q known

-- sources that answer alike what is asked
module _ {V : Type 0} (ask ask' : Source V) (starts : Start → Type 0) (agree : (member : ValueMember) (rest : List ValueMember) (q : V) → starts (start_of_member member) → ask q (member ∷ rest) ≡ ask' q (member ∷ rest)) where
  by_access : (selector : Access) (op : AccessOp) (span : Span) (rest : List Member) (q : V) → starts (start_of selector) →
      lookup ask (root_environment value_source) (record { op = op; access = selector; span = span }) rest q ≡ lookup ask' (root_environment value_source) (record { op = op; access = selector; span = span }) rest q
  by_access (by_index n at) op span rest q known = let first : Member = record { op = op; access = by_index n at; span = span } in ap (λ r. reply_value r (path_span first rest)) (agree (value_member_of first) (value_members_of rest) q known)
  by_access (by_key word) op span rest q known = let first : Member = record { op = op; access = by_key word; span = span } in ap (λ r. reply_value r (path_span first rest)) (agree (value_member_of first) (value_members_of rest) q known)

  pub sources_alike : FoundAlike ask ask' starts (root_environment value_source) (root_environment value_source)
  sources_alike first rest q known = by_access first.access first.op first.span rest q known

-- what an include of a name needs
abbrev pub Via : Table → List ℕ → Start → Type 0
Via table via start = (t : Template) × (table via ≡ Some t) × Needs table t.tree start

by_include : (table : Table) (tree : Statements) (via : List ℕ) (start : Start) → StatementsPass start via tree → Via table via start → Needs table tree start
by_include table tree via start passes it = (via ∷ it.2.0, (passes, (it.0, it.1, it.2.1)))

module _ {V T : Type 0} (calls : Calls V) (ask' : Source V) (table : Table) where
  on_answer : (from : RunningTemplate) (word : Ident) (answer : SourceAnswer Template) (go go' : Template → States V T → Outcome (States V T)) (s : States V T) → ((t : Template) → answer ≡ says t → go t s ≡ go' t s) → on_template from word answer s go ≡ on_template from word answer s go'
  on_answer from word (says t) go go' s same = same t refl
  on_answer from word (refuses text) go go' s same = refl

  same_included : (left : ℕ) (from : RunningTemplate) (word : Ident) (env env' : Environment) → FoundAlike calls.ask ask' (Via table word.text) env env' → (s : States V T) → included calls (from_table table) left from word env s ≡ included (with_source ask' calls) (from_table table) left from word env' s
  same_included zero from word env env' alike s = refl
  same_included (suc left) from word env env' alike s =
      let inc = included calls (from_table table) left in
      let inc' = included (with_source ask' calls) (from_table table) left in
      on_answer from word (table_answer (table word.text)) (λ t s'. statements_mean calls inc (running t (Some word.text)) t.tree env s') (λ t s'. statements_mean (with_source ask' calls) inc' (running t (Some word.text)) t.tree env' s') (states s.values s.templates)
      (λ t e.
      let holds = table_hands_on {T = T} table s.templates word.text t e in
      same_statements calls ask' (running t (Some word.text)) inc inc' (Via table) (λ w. same_included left (running t (Some word.text)) w) t.tree (Via table word.text)
      (λ start b. (t, holds, ([], b)))
      (λ via start p n. (t, holds, by_include table t.tree via start p n))
      env env' alike (states s.values s.templates))

  module _ (template : Template) (name : Option (List ℕ)) (limit : ℕ) where
    from_roots : (root root' : Root) (s : States V T) → FoundAlike calls.ask ask' (Needs table template.tree) (root_environment root) (root_environment root') →
        alone_within calls (from_table table) (includes_left limit) template name root s ≡ alone_within (with_source ask' calls) (from_table table) (includes_left limit) template name root' s
    from_roots root root' s alike =
        let left = includes_left limit in
        same_statements calls ask' (running template name) (included calls (from_table table) left) (included (with_source ask' calls) (from_table table) left) (Via table) (λ w. same_included left (running template name) w) template.tree (Needs table template.tree)
        (λ start b. ([], b))
        (λ via start p n. by_include table template.tree via start p n)
        (root_environment root) (root_environment root') alike s

    -- with sources that agree on the paths that are asked
    pub needed_of_source : (s : States V T) → SourcesAgreeForNeeds table template.tree calls.ask ask' →
        alone (record { calls = calls; resolve = from_table table; limit = limit }) template name value_source s ≡ alone (record { calls = with_source ask' calls; resolve = from_table table; limit = limit }) template name value_source s
    needed_of_source s agree = from_roots value_source value_source s (sources_alike calls.ask ask' (Needs table template.tree) agree)

module _ {V T : Type 0} (calls : Calls V) (table : Table) (template : Template) (name : Option (List ℕ)) (limit : ℕ) where
  pub needed_of_contexts : (this that : Val) (s : States V T) → AgreeForNeeds table template.tree this that →
      alone (record { calls = calls; resolve = from_table table; limit = limit }) template name (context this) s ≡ alone (record { calls = calls; resolve = from_table table; limit = limit }) template name (context that) s
  needed_of_contexts this that s agree = from_roots calls calls.ask table template name limit (context this) (context that) s (contexts_alike calls.ask (Needs table template.tree) this that agree.on_names agree.on_all)

  pub needed_names : (these those : Entries) (s : States V T) → AgreeOn (NeedsName table template.tree) (λ n. entry_at n these) (λ n. entry_at n those) →
      alone (record { calls = calls; resolve = from_table table; limit = limit }) template name (context (map_val these)) s ≡ alone (record { calls = calls; resolve = from_table table; limit = limit }) template name (context (map_val those)) s
  needed_names these those s agree = from_roots calls calls.ask table template name limit (context (map_val these)) (context (map_val those)) s (maps_alike calls.ask (Needs table template.tree) these those agree)
