-- What a template needs, and the JSON in which a call gives it.
use Rattle.std.specs.Prelude.{◌≡◌, ◌↔◌, ℕ, List, map, true, is_some, codes, Contains, Some}
use Rattle.serde_json.specs.Data.{Data, boolean, string, array, object, member, no_members}
use Rattle.serde_json.specs.View.{items_of}
use Rattle.serde_json.specs.Written.{compact_text}
use Rattle.upon_types.specs.Tree.{Statements}
use Rattle.upon_meaning_spec.specs.Engine.{Table, Template}
use Rattle.upon_meaning_spec.specs.Includes.{Reaches}
use Rattle.upon_meaning_spec.specs.Missing.{Missing}
use Rattle.upon_meaning_spec.specs.Needs.{NeedsAll, NeedsName}
use Rattle.upon_needs.specs.EngineNeeds.{needed_names, reached_templates, missing_names, needs_whole}
use Rattle.upon_needs.specs.Names.{Rise}
use Rattle.upon_engine.specs.Texts.{Texts}
use Rattle.upon_engine.specs.Theorem.{IsTable}
use Rattle.upon_needs.specs.declared.needs.Needs.{Needs}
use Rattle.upon_calls.specs.Rendering.{EachHasTree}

-- The names are those that the tree needs of its context, in ascending order; the templates those that it reaches and
-- that the table has; the missing ones those that it reaches and that the table has not; the whole context counts if an
-- index begins a path.
pub record NeededBy (table : Table) (tree : Statements) (needs : Needs) : Type 0 where
  pub names : (name : List ℕ) → Contains (needed_names needs) name ↔ NeedsName table tree name
  pub templates : (name : List ℕ) → Contains (reached_templates needs) name
      ↔ (Reaches table tree name × (is_some (table name) ≡ true))
  pub missing : (name : List ℕ) → Contains (missing_names needs) name ↔ Missing table tree name
  pub whole : (needs_whole needs ≡ true) ↔ NeedsAll table tree
  pub rise : Rise (needed_names needs) × Rise (reached_templates needs) × Rise (missing_names needs)

-- names as items of JSON
abbrev pub names_data : List (List ℕ) → Data
names_data names = array (items_of (map string names))

-- the object of JSON
abbrev pub needs_data : Needs → Data
needs_data needs = object (member (codes "missing") (names_data (missing_names needs))
    (member (codes "names") (names_data (needed_names needs))
    (member (codes "templates") (names_data (reached_templates needs))
    (member (codes "whole") (boolean (needs_whole needs)) no_members))))

-- a text is the JSON of what the template of a name needs, by the table of trees of what an engine holds
abbrev pub ListsNamed : Texts → List ℕ → List ℕ → Type 0
ListsNamed e name text = EachHasTree e × ((table : Table) → IsTable e.texts table
    → (t : Template) × (needs : Needs) × (table name ≡ Some t) × NeededBy table t.tree needs
    × (text ≡ compact_text (needs_data needs)))
