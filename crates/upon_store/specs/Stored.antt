-- What a store holds, what it answers, and what it adds and renders.
use Rattle.std.specs.Prelude.{◌≡◌, ℕ, List, map, Bool, true, false, bytes_eq, Option, Some, None, Result, Ok, Err, codes, option_map, string_bytes}
use Rattle.std.specs.BTreeMap.{get_by_text, keys}
use Rattle.std.specs.Cmp.Lexicographic.{slice_cmp}
use Rattle.std.specs.List.Sorted.{IsStrictlySortedBy}
use Rattle.std.specs.Ordering.{nat_cmp}
use Rattle.upon_types.specs.declared.error.Error.{Error}
use Rattle.upon_types.specs.Tree.{Statements}
use Rattle.upon_language_spec.specs.Grammar.{HasTree}
use Rattle.upon_language_spec.specs.Search.{DelimiterText}
use Rattle.upon_lookup.specs.Finding.{Reply, reply}
use Rattle.upon_lookup.specs.Source.{SourceAnswer, says, refuses}
use Rattle.upon_meaning_spec.specs.Engine.{Template, Table, Resolver}
use Rattle.upon_meaning_spec.specs.Includes.{Reaches}
use Rattle.upon_meaning_spec.specs.Outcome.{Outcome}
use Rattle.upon_vm.specs.Reports.{IsAnyIo, WritesReported}
use Rattle.upon_engine.specs.HandsOn.{hands_on}
use Rattle.upon_engine.specs.Template.{template_of}
use Rattle.upon_engine.specs.declared.template.Template.{Template as Held}
use Rattle.upon_store.specs.Paths.{resolved}
use Rattle.upon_store.specs.declared.store.Store.{Store}
use Rattle.upon_store.specs.declared.store.StoreError.{StoreError}
use Rattle.upon_store.specs.declared.store.StoreError.TheVariants.{BadPath, NotFound, Engine, OutOfMemory}

-- the templates of a store by their paths
abbrev pub held : Store → List ℕ → Option Held
held store path = get_by_text store.templates path

-- what they denote
abbrev pub stored : Store → Table
stored store path = option_map template_of (held store path)

-- two tables agree at each other path
abbrev pub OthersStay : List ℕ → Table → Table → Type 0
OthersStay path old new = (other : List ℕ) → bytes_eq path other ≡ false → new other ≡ old other

-- two tables agree
abbrev pub AllStay : Table → Table → Type 0
AllStay old new = (path : List ℕ) → new path ≡ old path

-- there is the template of a text: it has the text's tree, which is the only one
abbrev pub HoldsTemplate : List DelimiterText → List ℕ → Option Template → Type 0
HoldsTemplate delimiters s None = ⊥
HoldsTemplate delimiters s (Some t) = (t.source ≡ s) × HasTree delimiters s t.tree
    × ((tree : Statements) → HasTree delimiters s tree → tree ≡ t.tree)

-- the paths of a store's templates, in the order of its map
abbrev pub paths : Store → List (List ℕ)
paths store = map string_bytes (keys store.templates)

-- the bytes of each path are before those of every later one, so no path is there twice
abbrev pub PathsRise : List (List ℕ) → Type 0
PathsRise paths = IsStrictlySortedBy (slice_cmp nat_cmp) paths

-- what is answered for a path that has a template or not
abbrev pub path_answer : {A : Type 0} → Option A → SourceAnswer A
path_answer None = refuses (codes "template not found")
path_answer (Some t) = says t

-- what is answered for the path that a name denotes, or for a name that denotes none
abbrev pub store_answer : {A : Type 0} → (List ℕ → Option A) → Option (List ℕ) → SourceAnswer A
store_answer table None = refuses (codes "bad template path")
store_answer table (Some path) = path_answer (table path)

-- what a store answers to each name, at the path that the name denotes in the folder of a path
abbrev pub answers_in : {T : Type 0} → Store → List ℕ → T → List ℕ → Reply T (SourceAnswer Held)
answers_in store path q name = reply (store_answer (held store) (resolved path name)) q

-- the store as what answers the names of includes
abbrev pub from_store : {T : Type 0} → Store → List ℕ → Resolver T
from_store store path = hands_on (answers_in store path)

-- the template at the path that a name denotes, or none if it denotes none
abbrev pub stored_at : Store → Option (List ℕ) → Option Template
stored_at store None = None
stored_at store (Some path) = stored store path

-- the templates that names denote in the folder of a path
abbrev pub folder_table : Store → List ℕ → Table
folder_table store path name = stored_at store (resolved path name)

-- the tree reaches a name that denotes this path, with the templates that names denote in the folder of a path
abbrev pub ReachesPath : Store → List ℕ → Statements → List ℕ → Type 0
ReachesPath store path tree reached =
    (name : List ℕ) × Reaches (folder_table store path) tree name × (resolved path name ≡ Some reached)

-- How an addition ends: well; or the path is none, which is said first; or the engine refuses; or memory is out.
abbrev pub EndsAdding : Bool → (Error → Type 0) → Result (Unit {0}) StoreError → Type 0
EndsAdding is_path Refuses (Ok u) = is_path ≡ true
EndsAdding is_path Refuses (Err BadPath) = is_path ≡ false
EndsAdding is_path Refuses (Err NotFound) = ⊥
EndsAdding is_path Refuses (Err (Engine e)) = (is_path ≡ true) × Refuses e
EndsAdding is_path Refuses (Err OutOfMemory) = is_path ≡ true

-- The path is none; or no template has it; or the template's text was written, as its meaning says. What is refused
-- writes nothing.
abbrev pub RendersStored : {Q : Type 0} → Bool → Option Template → ℕ → Result (Unit {0}) StoreError
    → Option (List ℕ) → Option (List ℕ) → (Template → Outcome Q) → Type 0
RendersStored is_path held limit (Ok u) old new means =
    (t : Template) × (is_path ≡ true) × (held ≡ Some t) × WritesReported limit IsAnyIo (Ok u) old new (means t)
RendersStored is_path held limit (Err BadPath) old new means = (is_path ≡ false) × (new ≡ old)
RendersStored is_path held limit (Err NotFound) old new means = (is_path ≡ true) × (held ≡ None) × (new ≡ old)
RendersStored is_path held limit (Err (Engine e)) old new means =
    (t : Template) × (is_path ≡ true) × (held ≡ Some t) × WritesReported limit IsAnyIo (Err e) old new (means t)
RendersStored is_path held limit (Err OutOfMemory) old new means = ⊥
