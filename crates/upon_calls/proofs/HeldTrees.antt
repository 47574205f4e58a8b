-- Where the templates of a call are right, each text that is held has a tree, and the pages of a check are held.
use Rattle.std.proofs.Common.{arith, ◌≡◌, ◌<◌, ◌∙◌, ◌∷◌, [], ℕ, List, zero, suc, length, get_or, map, not, Bool, true, false, Option, Some, None, is_some, option_map, refl, sym, ap, subst}
use Rattle.std.specs.Prelude.{All, IfSome, if◌then◌else◌}
use Rattle.std.specs.Str.{bytes_eq}
use Rattle.std.proofs.lemmas.Map.{update_other, update_same}
use Rattle.std.proofs.lemmas.Slice.Eq.{bytes_eq-Decides}
use Rattle.upon_types.specs.Tree.{Statements}
use Rattle.upon_types.specs.Val.{Val, none_val, bool_val, int_val, text_val, list_val, map_val, entry_at, Entries, no_entries, entry_then}
use Rattle.upon_language_spec.specs.Grammar.{HasTree}
use Rattle.upon_language_spec.specs.Search.{DelimiterText}
use Rattle.upon_meaning_spec.specs.Engine.{Table}
use Rattle.upon_engine.specs.Changes.{with_text}
use Rattle.upon_engine.specs.Texts.{Stored, Texts}
use Rattle.upon_engine.specs.Theorem.{IsTable}
use Rattle.upon_calls.specs.Asked.{Asked}
use Rattle.upon_calls.specs.ByTable.{NamedEnds}
use Rattle.upon_calls.specs.Check.{is_missing, AreRight}
use Rattle.upon_calls.specs.Contexts.{checked_pages, AreThere, Contexts, PagesEndIf}
use Rattle.upon_calls.specs.Filled.{engine_for, filled, with_sources}
use Rattle.upon_calls.specs.Rendering.{EachHasTree}
use Rattle.upon_calls.specs.Templates.{sources_in, texts_in}
use Rattle.upon_calls.proofs.Tables.{added, ends_by}

-- ---- trees
one_tree : (name text : List ℕ) (e : Texts) (tree : Statements) → HasTree e.syntax text tree → EachHasTree e → EachHasTree (with_text name text e)
one_tree name text e tree has each n held there = by_name (bytes_eq name n) refl
  where
    by_name : (b : Bool) → bytes_eq name n ≡ b → (tree : Statements) × ∥ HasTree held.syntax held.text tree ∥₁
    by_name true at =
        let mine : Stored = record { text = text; syntax = e.syntax } in
        let both : Some mine ≡ Some held = sym (update_same bytes_eq e.texts name (Some mine) n at) ∙ there in
        let same : mine ≡ held = cc in
        (tree, subst (λ held. ∥ HasTree held.syntax held.text tree ∥₁) same ∣ has ∣₁)
    by_name false at = each n held (sym (update_other bytes_eq e.texts name (Some (record { text = text; syntax = e.syntax })) n at) ∙ there)

-- of templates that are right
pub right_trees : (delimiters : List DelimiterText) (templates : Val) (sources : List (List ℕ × List ℕ)) (e : Texts) → e.syntax ≡ delimiters → EachHasTree e → AreRight delimiters templates sources → EachHasTree (with_sources sources e)
right_trees delimiters templates [] e is each right = each
right_trees delimiters templates (s ∷ ss) e is each ((tree, has, named), right) =
    right_trees delimiters templates ss (with_text s.0 s.1 e) is (one_tree s.0 s.1 e tree (subst (λ d. HasTree d s.1 tree) (sym is) has) each) right

-- ---- what is held under a name
still_held : (sources : List (List ℕ × List ℕ)) (e : Texts) (name : List ℕ) → is_some (e.texts name) ≡ true → is_some ((with_sources sources e).texts name) ≡ true
still_held [] e name some = some
still_held (s ∷ ss) e name some = still_held ss (with_text s.0 s.1 e) name (by_name (bytes_eq s.0 name) refl)
  where
    by_name : (b : Bool) → bytes_eq s.0 name ≡ b → is_some ((with_text s.0 s.1 e).texts name) ≡ true
    by_name true at = ap is_some (update_same bytes_eq e.texts s.0 (Some (record { text = s.1; syntax = e.syntax })) name at)
    by_name false at = ap is_some (update_other bytes_eq e.texts s.0 (Some (record { text = s.1; syntax = e.syntax })) name at) ∙ some

-- each template's text
source_held : (sources : List (List ℕ × List ℕ)) (e : Texts) (k : ℕ) (d : List ℕ) → k < length (map (λ s. s.0) sources) → is_some ((with_sources sources e).texts (get_or (map (λ s. s.0) sources) k d)) ≡ true
source_held [] e k d inside = absurd (omega arith)
source_held (s ∷ ss) e zero d inside = still_held ss (with_text s.0 s.1 e) s.0 (ap is_some (added s.0 s.1 e))
source_held (s ∷ ss) e (suc k) d inside = source_held ss (with_text s.0 s.1 e) k d (omega arith)

-- the text at a key of an object
entry_held : (es : Entries) (sources : List (List ℕ × List ℕ)) (e : Texts) (name : List ℕ) → texts_in es ≡ Some sources → is_some (entry_at name es) ≡ true → is_some ((with_sources sources e).texts name) ≡ true
entry_held no_entries sources e name are some = absurd cc
entry_held (entry_then key none_val es) sources e name are some = absurd cc
entry_held (entry_then key (bool_val b) es) sources e name are some = absurd cc
entry_held (entry_then key (int_val n) es) sources e name are some = absurd cc
entry_held (entry_then key (list_val vs) es) sources e name are some = absurd cc
entry_held (entry_then key (map_val fs) es) sources e name are some = absurd cc
entry_held (entry_then key (text_val text) es) sources e name are some =
    by_rest (texts_in es) are (λ rest is later. entry_held es rest (with_text key text e) name is later) (bytes_eq name key) refl some
  where
    by_rest : (o : Option (List (List ℕ × List ℕ))) → option_map (λ rest. (key, text) ∷ rest) o ≡ Some sources
        → ((rest : List (List ℕ × List ℕ)) → o ≡ Some rest → is_some (entry_at name es) ≡ true → is_some ((with_sources rest (with_text key text e)).texts name) ≡ true)
        → (b : Bool) → bytes_eq name key ≡ b → is_some (if b then Some (text_val text) else entry_at name es) ≡ true → is_some ((with_sources sources e).texts name) ≡ true
    by_rest None are later b at some = absurd cc
    by_rest (Some rest) are later true at some =
        let all : (key, text) ∷ rest ≡ sources = cc in
        let same = (bytes_eq-Decides name key).0 at in
        let held : is_some ((with_text key text e).texts name) ≡ true = subst (λ n. is_some ((with_text key text e).texts n) ≡ true) (sym same) (ap is_some (added key text e)) in
        subst (λ sources. is_some ((with_sources sources e).texts name) ≡ true) all (still_held rest (with_text key text e) name held)
    by_rest (Some rest) are later false at some =
        let all : (key, text) ∷ rest ≡ sources = cc in
        subst (λ sources. is_some ((with_sources sources e).texts name) ≡ true) all (later rest refl some)

is_there : (b : Bool) → not b ≡ false → b ≡ true
is_there true is = refl
is_there false is = absurd cc

-- the template of a name that an object has
name_held : (v : Val) (sources : List (List ℕ × List ℕ)) (e : Texts) (name : List ℕ) → sources_in v ≡ Some sources → is_missing v name ≡ false → is_some ((with_sources sources e).texts name) ≡ true
name_held none_val sources e name are there = absurd cc
name_held (bool_val b) sources e name are there = absurd cc
name_held (int_val n) sources e name are there = absurd cc
name_held (text_val text) sources e name are there = absurd cc
name_held (list_val vs) sources e name are there = absurd cc
name_held (map_val es) sources e name are there = entry_held es sources e name are (is_there (is_some (entry_at name es)) there)

-- each page of a check
page_held : (pages : Option (List (List ℕ))) (v : Val) (sources : List (List ℕ × List ℕ)) (e : Texts) → sources_in v ≡ Some sources → AreThere pages v → (k : ℕ) (d : List ℕ) → k < length (checked_pages pages sources) → is_some ((with_sources sources e).texts (get_or (checked_pages pages sources) k d)) ≡ true
page_held None v sources e are there k d inside = source_held sources e k d inside
page_held (Some names) v sources e are there k d inside = name_held v sources e (get_or names k d) are (there k d inside)

-- where all of a check's pages are held
pub pages_held : (pages : Option (List (List ℕ))) (v : Val) (sources : List (List ℕ × List ℕ)) (e : Texts) → sources_in v ≡ Some sources → AreThere pages v → All (λ name. is_some ((with_sources sources e).texts name) ≡ true) (checked_pages pages sources)
pages_held pages v sources e are there = λ k d inside. page_held pages v sources e are there k d inside

held_of : (o : Option Stored) → is_some o ≡ true → (held : Stored) × (o ≡ Some held)
held_of None some = absurd cc
held_of (Some held) some = (held, refl)

-- ---- pages end on each value of the contexts, by a table
pub pages_end_by : (contexts : Option Contexts) (asked : Asked) (v : Val) (sources : List (List ℕ × List ℕ)) (table : Table) → sources_in v ≡ Some sources → IsTable (filled asked sources).texts table → PagesEndIf contexts (filled asked sources) v sources
    → IfSome contexts (λ contexts. All (λ name. NamedEnds (filled asked sources) table name contexts.shape) (checked_pages contexts.pages sources))
pages_end_by None asked v sources table are is ends = tt
pages_end_by (Some contexts) asked v sources table are is ends = λ k d inside.
    let name = get_or (checked_pages contexts.pages sources) k d in
    let (held, there) = held_of ((filled asked sources).texts name) (page_held contexts.pages v sources (engine_for asked) are ends.there k d inside) in
    ends_by (filled asked sources) table name held contexts.shape is there (ends.ends k d inside)
