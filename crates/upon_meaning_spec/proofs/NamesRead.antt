-- Templates of a table, or of a source that hands them on: what is rendered depends on the names that are read and on the templates that are reached, alone.
use Rattle.std.proofs.Common.{◌≡◌, ℕ, List, [], Option, inl, refl}
use Rattle.upon_types.specs.Val.{Entries, map_val, entry_at}
use Rattle.upon_lookup.specs.Environment.{Root, context, root_environment}
use Rattle.upon_lookup.specs.Finding.{reply}
use Rattle.upon_meaning_spec.specs.Alone.{running, included, alone_within, includes_left, alone}
use Rattle.upon_meaning_spec.specs.Engine.{Template, Table, Calls, Resolver, from_table, table_answer}
use Rattle.upon_meaning_spec.specs.Includes.{Reaches}
use Rattle.upon_meaning_spec.specs.Names.{Reads, AgreeOn}
use Rattle.upon_meaning_spec.specs.Outcome.{States}
use Rattle.upon_meaning_spec.specs.Sources.{HandsOnFrom, AnswerAlike}
use Rattle.upon_meaning_spec.proofs.AgreeingMaps.{maps_alike}
use Rattle.upon_meaning_spec.proofs.Reached.{table_hands_on, closed_reads, closed_any}
use Rattle.upon_meaning_spec.proofs.SameIncludes.{same_included}
use Rattle.upon_meaning_spec.proofs.SameLookups.{Any}
use Rattle.upon_meaning_spec.proofs.SameMeaning.{same_statements}

-- tables that agree answer alike
tables_alike : {T : Type 0} (names : List ℕ → Type 0) (these those : Table) → AgreeOn names these those → AnswerAlike {T = T} names (from_table these) (from_table those)
tables_alike names these those agree q n h = λ i. reply (table_answer (agree n h i)) q

module _ {V T : Type 0} (calls : Calls V) (template : Template) (name : Option (List ℕ)) where
  -- where so many includes may be nested, with any source that hands on from a table
  pub names_read_from : (left : ℕ) (table : Table) (resolve : Resolver T) (these those : Entries) (s : States V T) → HandsOnFrom table resolve → AgreeOn (Reads table template.tree) (λ n. entry_at n these) (λ n. entry_at n those) → alone_within calls resolve left template name (context (map_val these)) s ≡ alone_within calls resolve left template name (context (map_val those)) s
  names_read_from left table resolve these those s hands_on agree =
      let names = Reads table template.tree in
      let reached = Reaches table template.tree in
      let inc = included calls resolve left in
      same_statements calls (running template name) names reached inc inc
      (same_included calls names reached resolve resolve (closed_reads table resolve hands_on template.tree) (λ q n h. refl) left)
      template.tree (λ n r. inl r) (λ n i. ([], i)) (root_environment (context (map_val these))) (root_environment (context (map_val those))) (maps_alike calls.ask names these those agree) s

  pub templates_reached_from : (left : ℕ) (table : Table) (these those : Resolver T) (root : Root) (s : States V T) → HandsOnFrom table these → AnswerAlike (Reaches table template.tree) these those → alone_within calls these left template name root s ≡ alone_within calls those left template name root s
  templates_reached_from left table these those root s hands_on agree =
      let reached = Reaches table template.tree in
      same_statements calls (running template name) Any reached (included calls these left) (included calls those left)
      (same_included calls Any reached these those (closed_any table these hands_on template.tree) agree left)
      template.tree (λ n r. tt) (λ n i. ([], i)) (root_environment root) (root_environment root) (λ first rest q known. refl) s

  -- at a depth, with the templates of a table
  module _ (limit : ℕ) where
    pub names_read : (table : Table) (these those : Entries) (s : States V T) → AgreeOn (Reads table template.tree) (λ n. entry_at n these) (λ n. entry_at n those) → alone (record { calls = calls; resolve = from_table table; limit = limit }) template name (context (map_val these)) s ≡ alone (record { calls = calls; resolve = from_table table; limit = limit }) template name (context (map_val those)) s
    names_read table these those s agree = names_read_from (includes_left limit) table (from_table table) these those s (table_hands_on table) agree

    pub templates_reached : (these those : Table) (root : Root) (s : States V T) → AgreeOn (Reaches these template.tree) these those → alone (record { calls = calls; resolve = from_table these; limit = limit }) template name root s ≡ alone (record { calls = calls; resolve = from_table those; limit = limit }) template name root s
    templates_reached these those root s agree =
        templates_reached_from (includes_left limit) these (from_table these) (from_table those) root s (table_hands_on these) (tables_alike (Reaches these template.tree) these those agree)
