-- Templates in which nothing is wrong.
use Rattle.std.specs.Prelude.{◌≡◌, ℕ, List, [], ◌∷◌, Bool, false, not, is_some}
use Rattle.upon_types.specs.Tree.{Statements}
use Rattle.upon_types.specs.Val.{Val, key_of}
use Rattle.upon_language_spec.specs.Grammar.{HasTree}
use Rattle.upon_language_spec.specs.Search.{DelimiterText}
use Rattle.upon_meaning_spec.specs.Includes.{Includes}

-- no template of an object has the name
abbrev pub is_missing : Val → List ℕ → Bool
is_missing templates name = not (is_some (key_of name templates))

-- the text of a template is right: it has a tree, and no include in it names none of the templates of an object
abbrev pub IsRight : List DelimiterText → Val → List ℕ → Type 0
IsRight delimiters templates text = (tree : Statements) × HasTree delimiters text tree
    × ((name : List ℕ) → Includes name tree → is_missing templates name ≡ false)

-- each of some templates is right
abbrev pub AreRight : List DelimiterText → Val → List (List ℕ × List ℕ) → Type 0
AreRight delimiters templates [] = Unit {0}
AreRight delimiters templates (s ∷ ss) = IsRight delimiters templates s.1 × AreRight delimiters templates ss
