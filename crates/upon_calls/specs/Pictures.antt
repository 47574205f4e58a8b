-- The pictures of what is wrong with templates: which they are, in which order, and how many at most.
use Rattle.std.specs.Prelude.{◌≡◌, ◌⊎◌, ◌↔◌, ℕ, List, [], ◌∷◌, ◌++◌, map, take, Some, true, not, Contains, bytes_eq, codes}
use Rattle.std.specs.List.{filter, flat_map, list_any}
use Rattle.upon_types.specs.Fault.{Fault, render, fault_at, fault_with_name}
use Rattle.upon_types.specs.Path.{Ident}
use Rattle.upon_types.specs.Pretty.{pretty}
use Rattle.upon_types.specs.Tree.{Statements}
use Rattle.upon_types.specs.Val.{Val}
use Rattle.upon_language_spec.specs.Grammar.{HasTree}
use Rattle.upon_language_spec.specs.Search.{DelimiterText}
use Rattle.upon_meaning_spec.specs.Includes.{Includes}
use Rattle.upon_machine_spec.specs.Code.{program_of}
use Rattle.upon_needs.specs.Names.{Rise}
use Rattle.upon_needs.specs.Places.{includes_in}
use Rattle.upon_shape_check.specs.Pictures.{with_picture}
use Rattle.upon_calls.specs.Check.{is_missing, AreRight}
use Rattle.upon_calls.specs.Failure.{IsPicture}
use Rattle.upon_calls.specs.Rendering.{IsFirstNamed}

-- ---- the text of pictures
-- pictures one after the other, a line feed before each but the first: so a blank line is between two
abbrev pub pictures_text : List (List ℕ) → List ℕ
pictures_text [] = []
pictures_text (p ∷ ps) = p ++ flat_map (λ later. codes "\n" ++ later) ps

-- a text with pictures after it
abbrev pub with_pictures : List ℕ → List (List ℕ) → List ℕ
with_pictures text [] = text
with_pictures text (p ∷ ps) = with_pictures (with_picture text p) ps

-- a text got pictures of which this is so
abbrev pub GetsPictures : (List (List ℕ) → Type 0) → List ℕ → List ℕ → Type 0
GetsPictures Are old new = (pictures : List (List ℕ)) × Are pictures × (new ≡ with_pictures old pictures)

-- ---- of one template
-- of includes, those before which no other one has their name
abbrev pub first_includes : List Ident → List Ident
first_includes [] = []
first_includes (word ∷ words) =
    word ∷ filter (λ later. not (bytes_eq word.text later.text)) (first_includes words)

-- of a tree's includes, in their order, the first one of each of the first hundred of some names
abbrev pub shown_includes : Statements → List (List ℕ) → List Ident
shown_includes tree names =
    filter (λ word. list_any (bytes_eq word.text) (take 100 names)) (first_includes (includes_in (program_of tree)))

-- the fault of an include that names nothing, at its place in the text of the template of a name
abbrev pub include_fault : List ℕ → List ℕ → Ident → Fault
include_fault name text word =
    fault_with_name name (fault_at render (Some (codes "unknown template")) (Some (text, word.span)))

-- the pictures of these includes
abbrev pub include_pictures : List ℕ → List ℕ → Statements → List (List ℕ) → List (List ℕ)
include_pictures name text tree names = map (λ word. pretty (include_fault name text word)) (shown_includes tree names)

-- the names that a tree includes and that no template of an object has, in ascending order
abbrev pub AreMissing : Val → Statements → List (List ℕ) → Type 0
AreMissing templates tree names =
    Rise names × ((name : List ℕ) → Contains names name ↔ (Includes name tree × (is_missing templates name ≡ true)))

-- The text of the template of a name has no tree: there is one picture, that of its first fault.
pub record ShowsFault (delimiters : List DelimiterText) (name text : List ℕ) (pictures : List (List ℕ)) : Type 0 where
  pub none : (tree : Statements) → HasTree delimiters text tree → ⊥
  pub picture : List ℕ
  pub is : IsPicture (IsFirstNamed name delimiters text) picture
  pub alone : pictures ≡ picture ∷ []

-- The text of the template of a name has a tree: there is a picture of the first include of each name that no template
-- has, of the first hundred of these names.
pub record ShowsIncludes (delimiters : List DelimiterText) (templates : Val) (name text : List ℕ)
    (pictures : List (List ℕ)) : Type 0 where
  pub tree : Statements
  pub has : HasTree delimiters text tree
  pub names : List (List ℕ)
  pub missing : AreMissing templates tree names
  pub are : pictures ≡ include_pictures name text tree names

-- the pictures of what is wrong with the template of a name
abbrev pub ShowsOne : List DelimiterText → Val → List ℕ → List ℕ → List (List ℕ) → Type 0
ShowsOne delimiters templates name text pictures =
    ShowsFault delimiters name text pictures ⊎ ShowsIncludes delimiters templates name text pictures

-- ---- of all templates
-- the pictures of what is wrong with each of some templates, one template after the other
abbrev pub ShowsEach : List DelimiterText → Val → List (List ℕ × List ℕ) → List (List ℕ) → Type 0
ShowsEach delimiters templates [] pictures = pictures ≡ []
ShowsEach delimiters templates (s ∷ ss) pictures = (here : List (List ℕ)) × (later : List (List ℕ))
    × ShowsOne delimiters templates s.0 s.1 here × ShowsEach delimiters templates ss later × (pictures ≡ here ++ later)

-- One of some templates is not right, and a text is the pictures of all that is wrong with them; it is not empty.
pub record ShowsWrong (delimiters : List DelimiterText) (templates : Val) (sources : List (List ℕ × List ℕ))
    (text : List ℕ) : Type 0 where
  pub pictures : List (List ℕ)
  pub shows : ShowsEach delimiters templates sources pictures
  pub are : text ≡ pictures_text pictures
  pub some : text ≡ [] → ⊥
  pub wrong : AreRight delimiters templates sources → ⊥
