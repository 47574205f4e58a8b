-- What a template of an engine needs, and the words for the search from template to template that finds it.
use Rattle.std.specs.Prelude.{◌≡◌, ◌⊎◌, ◌||◌, ℕ, List, [], ◌∷◌, Option, Some, None, Bool, true, bytes_eq, is_some}
use Rattle.std.specs.List.{list_any}
use Rattle.upon_types.specs.Tree.{Statements}
use Rattle.upon_meaning_spec.specs.Engine.{Table, Template}
use Rattle.upon_meaning_spec.specs.Includes.{Includes}
use Rattle.upon_meaning_spec.specs.Needs.{Start, a_name, an_index, StatementsBegin, StatementsPass}
use Rattle.upon_machine_spec.specs.Code.{program_of}
use Rattle.upon_machine_spec.specs.ProgramNames.{IsListed}
use Rattle.upon_needs.specs.Names.{texts}
use Rattle.upon_needs.specs.OpenBlocks.{free_includes}
use Rattle.upon_needs.specs.declared.needs.Links.{Links}
use Rattle.upon_needs.specs.declared.needs.Links.TheVariants.{All, Passing, Free}
use Rattle.upon_needs.specs.declared.needs.Needs.{Needs}
use Rattle.upon_needs.specs.declared.starts.PathStart.{PathStart}
use Rattle.upon_needs.specs.declared.starts.PathStart.TheVariants.{Name, Index}

-- the names of the context that can count, in the order in which they are answered
abbrev pub needed_names : Needs → List (List ℕ)
needed_names needs = texts needs.names.items

-- the names of the templates that are reached, so
abbrev pub reached_templates : Needs → List (List ℕ)
reached_templates needs = texts needs.templates.items

-- the names of the includes that no template has, so
abbrev pub missing_names : Needs → List (List ℕ)
missing_names needs = texts needs.missing.items

-- whether the whole context counts
abbrev pub needs_whole : Needs → Bool
needs_whole needs = needs.whole

-- what begins a path
abbrev pub start_of : PathStart → Start
start_of (Name name) = a_name name.now
start_of Index = an_index

-- from a tree to a name by a link: an include, one that passes what begins a path, or one outside of each block
abbrev pub link : Links → Statements → List ℕ → Type 0
link All tree name = Includes name tree
link (Passing start) tree name = StatementsPass (start_of start) name tree
link Free tree name = IsListed (free_includes (program_of tree)) name

-- the tree has a link to the first of the names, which the table holds; its tree has one to the next, and so on to the
-- last, and to this name
abbrev pub LinkedBy : Table → Links → Statements → List (List ℕ) → List ℕ → Type 0
LinkedBy table by tree [] name = link by tree name
LinkedBy table by tree (via ∷ names) name = link by tree via ×
    ((t : Template) × (table via ≡ Some t) × LinkedBy table by t.tree names name)

-- links lead from the tree to the name
abbrev pub Linked : Table → Links → Statements → List ℕ → Type 0
Linked table by tree name = (names : List (List ℕ)) × LinkedBy table by tree names name

-- a template, if there is one, begins such a path
abbrev pub HeldBegins : Option Template → Start → Type 0
HeldBegins None start = ⊥
HeldBegins (Some t) start = StatementsBegin start t.tree

-- a template of one of some names begins such a path
abbrev pub OneBegins : Table → (List ℕ → Type 0) → Start → Type 0
OneBegins table some start = (name : List ℕ) × some name × HeldBegins (table name) start

-- what a search has seen, and what waits, whose links it has not followed yet
pub record Searched (table : Table) (by : Links) (tree : Statements) (seen : List ℕ → Bool)
    (waits : List ℕ → Type 0) : Type 0 where
  pub sound : (name : List ℕ) → seen name ≡ true → Linked table by tree name
  pub known : (name : List ℕ) → waits name → seen name ≡ true
  pub followed : (name : List ℕ) (t : Template) → seen name ≡ true → table name ≡ Some t
      → waits name ⊎ ((next : List ℕ) → link by t.tree next → seen next ≡ true)
  pub first : (next : List ℕ) → link by tree next → seen next ≡ true

-- names are marked: they are seen, and the new ones that have a template wait
pub record Marked (table : Table) (old new : List ℕ → Bool) (names : List (List ℕ))
    (waited waits : List ℕ → Type 0) : Type 0 where
  pub seen : (name : List ℕ) → new name ≡ (old name || list_any (bytes_eq name) names)
  pub stay : (name : List ℕ) → waited name → waits name
  pub added : (name : List ℕ) → new name ≡ true → is_some (table name) ≡ true → (old name ≡ true) ⊎ waits name
  pub only : (name : List ℕ) → waits name → waited name ⊎ (new name ≡ true)
