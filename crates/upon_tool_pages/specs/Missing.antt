-- Templates in which nothing is wrong: neither their text, nor what they include, nor what they call.
use Rattle.std.specs.Borrow.{Bor}
use Rattle.std.specs.Prelude.{◌≡◌, ℕ, List, [], ◌∷◌, Bool, true, false, Some, None, ◌&&◌, not, is_some, bytes_eq}
use Rattle.upon_types.specs.Tree.{Statements}
use Rattle.upon_language_spec.specs.Grammar.{HasTree}
use Rattle.upon_language_spec.specs.Search.{DelimiterText}
use Rattle.upon_meaning_spec.specs.Includes.{Includes}
use Rattle.upon_meaning_spec.specs.Engine.{Table}
use Rattle.upon_engine.specs.Texts.{Stored, Texts}
use Rattle.upon_engine.specs.Theorem.{IsTable}
use Rattle.upon_tool_messages.specs.Judged.{calls_are_right}
use Rattle.upon_tool_messages.specs.Library.{library_names, refused_as}
use Rattle.upon_tool_messages.specs.declared.judge.Declared.{Declared}
use Rattle.upon_tool_messages.specs.declared.library.Library.{Library}

-- the name is not the template's own, and the table has no template of it
abbrev pub is_nowhere : List ℕ → Table → List ℕ → Bool
is_nowhere own table name = not (bytes_eq name own) && not (is_some (table name))

-- the text of a template is right: it has a tree, no include in it names nothing, and nothing is wrong with its calls,
-- by what templates may call
abbrev pub IsRightTemplate : Declared → List DelimiterText → Table → List ℕ → List ℕ → Type 0
IsRightTemplate callables delimiters table own text = (tree : Statements) × HasTree delimiters text tree
    × ((name : List ℕ) → Includes name tree → is_nowhere own table name ≡ false)
    × (calls_are_right callables tree ≡ true)

-- each of some texts is right, of the templates of some names
abbrev pub EachIsRight : Declared → List DelimiterText → Table → List (Bor (List ℕ)) → List (List ℕ) → Type 0
EachIsRight callables delimiters table [] [] = Unit {0}
EachIsRight callables delimiters table [] (text ∷ texts) = ⊥
EachIsRight callables delimiters table (name ∷ names) [] = ⊥
EachIsRight callables delimiters table (name ∷ names) (text ∷ texts) =
    IsRightTemplate callables delimiters table name.now text × EachIsRight callables delimiters table names texts

-- the text that is held under a name is right, if there is one
abbrev pub HeldIsRight : Declared → Texts → List ℕ → Type 0
HeldIsRight callables e name = (held : Stored) → e.texts name ≡ Some held
    → (table : Table) → IsTable e.texts table → IsRightTemplate callables e.syntax table name held.text

-- each of some names is so
abbrev pub EachName : (List ℕ → Type 0) → List (List ℕ) → Type 0
EachName Is [] = Unit {0}
EachName Is (name ∷ names) = Is name × EachName Is names

-- no file of a library is refused, and each text that is held under a file's name is right
abbrev pub LibraryIsRight : Declared → Texts → Library → Type 0
LibraryIsRight callables e library =
    EachName (λ name. (refused_as library name ≡ None) × HeldIsRight callables e name) (library_names library)
