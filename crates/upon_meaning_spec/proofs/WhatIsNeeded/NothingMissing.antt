-- Where no include is missing, what answers other names makes no difference.
use Rattle.std.proofs.Common.{◌≡◌, ℕ, List, [], Option, refl, ap, sym, ◌∙◌}
use Rattle.upon_lookup.specs.Environment.{Root, root_environment}
use Rattle.upon_lookup.specs.Finding.{reply}
use Rattle.upon_meaning_spec.specs.Alone.{running, included, includes_left, alone}
use Rattle.upon_meaning_spec.specs.Engine.{Template, Table, Calls, Resolver, from_table, table_answer}
use Rattle.upon_meaning_spec.specs.Includes.{Reaches}
use Rattle.upon_meaning_spec.specs.Outcome.{States}
use Rattle.upon_meaning_spec.proofs.Reached.{table_hands_on, closed_any}
use Rattle.upon_meaning_spec.proofs.SameIncludes.{same_included}
use Rattle.upon_meaning_spec.proofs.SameLookups.{Any}
use Rattle.upon_meaning_spec.proofs.SameMeaning.{same_statements}
use Rattle.upon_meaning_spec.specs.Missing.{NothingMissing, AnswersTable}

module _ {V T : Type 0} (calls : Calls V) (table : Table) (resolve : Resolver T) (template : Template) (name : Option (List ℕ)) (limit : ℕ) (root : Root) where
  pub same_with : (s : States V T) → NothingMissing table template.tree → AnswersTable table resolve →
      alone (record { calls = calls; resolve = from_table table; limit = limit }) template name root s ≡ alone (record { calls = calls; resolve = resolve; limit = limit }) template name root s
  same_with s none answers =
      let left = includes_left limit in
      let reached = Reaches table template.tree in
      same_statements calls (running template name) Any reached (included calls (from_table table) left) (included calls resolve left)
      (same_included calls Any reached (from_table table) resolve (closed_any table (from_table table) (table_hands_on table) template.tree)
      (λ q n h. let held = none n h in ap (λ o. reply (table_answer o) q) held.1 ∙ sym (answers q n held.0 held.1)) left)
      template.tree (λ n r. tt) (λ n i. ([], i)) (root_environment root) (root_environment root) (λ first rest q known. refl) s
