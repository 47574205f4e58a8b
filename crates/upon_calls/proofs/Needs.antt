-- What a template needs, by what an engine holds.
use Rattle.std.proofs.Common.{◌≡◌, ◌∙◌, ◌↔◌, ℕ, List, Contains, true, false, is_some, Option, Some, None, IfOk, IsNone, IsOkAnd, Result, Ok, Err, String, Global, string_bytes, refl, sym, ap, subst}
use Rattle.std.specs.declared.alloc.AllocError.{AllocError}
use Rattle.serde_json.specs.Written.{compact_text}
use Rattle.upon_meaning_spec.specs.Engine.{Table, Template}
use Rattle.upon_meaning_spec.specs.Includes.{Reaches}
use Rattle.upon_meaning_spec.specs.Missing.{Missing}
use Rattle.upon_meaning_spec.specs.Needs.{NeedsAll, NeedsName}
use Rattle.upon_needs.specs.EngineNeeds.{needed_names, reached_templates, missing_names, needs_whole}
use Rattle.upon_needs.specs.Names.{Rise}
use Rattle.upon_engine.specs.Texts.{Stored, Texts}
use Rattle.upon_engine.specs.Theorem.{IsTable, IsTemplateOf}
use Rattle.upon_needs.specs.declared.needs.Needs.{Needs}
use Rattle.upon_calls.specs.Rendering.{EachHasTree}
use Rattle.upon_calls.specs.Names.{needs_data, ListsNamed, NeededBy}
use Rattle.upon_calls.specs.declared.failure.Failure.{Failure}

-- what a table has is held, and the other way round
pub none_held : (o : Option Stored) (m : Option Template) → IsTemplateOf o m → m ≡ None → o ≡ None
none_held None m is none = refl
none_held (Some held) None is none = absurd is
none_held (Some held) (Some t) is none = absurd cc

-- a text is what is needed, if there is a template
lists_by : (e : Texts) (name text : List ℕ) (mine : Table) → EachHasTree e → IsTable e.texts mine → (table : Table) × IsTable e.texts table × ((other : Table) → IsTable e.texts other → other ≡ table)
    → (t : Template) (needs : Needs) → mine name ≡ Some t → NeededBy mine t.tree needs → text ≡ compact_text (needs_data needs) → ListsNamed e name text
lists_by e name text mine each is_mine one t needs there needed is = (
  each,
  λ table is_table.
      let same : mine ≡ table = one.2 mine is_mine ∙ sym (one.2 table is_table) in
      (t, needs, ap (λ table. table name) (sym same) ∙ there, subst (λ table. NeededBy table t.tree needs) same needed, is),
)

-- what a call lists
module _ (e : Texts) (name : List ℕ) (mine : Table) (each : EachHasTree e) (is_mine : IsTable e.texts mine)
    (one : (table : Table) × IsTable e.texts table × ((other : Table) → IsTable e.texts other → other ≡ table))
    (r : Result Needs AllocError) (absent : IsNone (Some r) ↔ (mine name ≡ None))
    (names : (t : Template) → mine name ≡ Some t → IfOk r (λ needs. (word : List ℕ) → Contains (needed_names needs) word ↔ NeedsName mine t.tree word))
    (templates : (t : Template) → mine name ≡ Some t → IfOk r (λ needs. (word : List ℕ) → Contains (reached_templates needs) word ↔ (Reaches mine t.tree word × (is_some (mine word) ≡ true))))
    (missing : (t : Template) → mine name ≡ Some t → IfOk r (λ needs. (word : List ℕ) → Contains (missing_names needs) word ↔ Missing mine t.tree word))
    (whole : (t : Template) → mine name ≡ Some t → IfOk r (λ needs. (needs_whole needs ≡ true) ↔ NeedsAll mine t.tree))
    (rise : (t : Template) → mine name ≡ Some t → IfOk r (λ needs. Rise (needed_names needs) × Rise (reached_templates needs) × Rise (missing_names needs))) where
  by_template : (text : List ℕ) (needs : Needs) → r ≡ Ok needs → text ≡ compact_text (needs_data needs) → (m : Option Template) → mine name ≡ m → ListsNamed e name text
  by_template text needs is said None none = let no : true ≡ false = absent.1 none in absurd cc
  by_template text needs is said (Some t) there = lists_by e name text mine each is_mine one t needs there (record {
    names = rw is at (names t there);
    templates = rw is at (templates t there);
    missing = rw is at (missing t there);
    whole = rw is at (whole t there);
    rise = rw is at (rise t there);
  }) said

  by_needs : (text : List ℕ) (s : Result Needs AllocError) → r ≡ s → IsOkAnd s (λ n. text ≡ compact_text (needs_data n)) → ListsNamed e name text
  by_needs text (Ok needs) is said = by_template text needs is said (mine name) refl
  by_needs text (Err failed) is said = absurd said

  pub named_lists : (x : Result (String Global) Failure) → IfOk x (λ text. IsOkAnd r (λ n. string_bytes text ≡ compact_text (needs_data n))) → IfOk x (λ text. ListsNamed e name (string_bytes text))
  named_lists (Ok text) said = by_needs (string_bytes text) r refl said
  named_lists (Err failure) said = tt
