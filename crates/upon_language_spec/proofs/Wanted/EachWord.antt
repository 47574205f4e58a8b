-- One text that has each word of the language, a number and a string: what is read of tags can be read in it.
use Rattle.std.proofs.Common.{◌≡◌, ℕ, ◌+◌, pos, List, [], ◌∷◌, length, Bool, true, false, refl, sym, ◌∙◌, bytes_eq, if◌then◌else◌}
use Rattle.std.specs.List.{list_all, flat_map}
use Rattle.std.proofs.lemmas.Bool.{ltb-true, and_parts}
use Rattle.std.proofs.lemmas.Slice.Eq.{bytes_eq-Decides}
use Rattle.upon_types.specs.declared.types.Span.{Span}
use Rattle.upon_types.specs.declared.types.token.Token.{Token}
use Rattle.upon_types.specs.declared.types.token.Token.TheVariants.{Keyword, Index, Number, String}
use Rattle.upon_types.specs.Span.{slice}
use Rattle.upon_language_spec.specs.Cut.{Lexeme}
use Rattle.upon_language_spec.specs.Literal.{IsInteger, IsIndex, IsText}
use Rattle.upon_language_spec.specs.Words.{keywords}
use Rattle.upon_language_spec.specs.Keys.{Key, no_key, keyword_of, key_word}

-- the number, the string, and each word after a space
abbrev pub words : List ℕ
words = 48 ∷ 34 ∷ 34 ∷ flat_map (λ w. 32 ∷ w) keywords

abbrev pub span_at : ℕ → ℕ → Span
span_at m n = record { m = m; n = n }

-- where a word is, of those from an offset on
abbrev place_from : ℕ → List (List ℕ) → List ℕ → Span
place_from m [] word = span_at 0 0
place_from m (w ∷ ws) word = if bytes_eq word w then span_at (m + 1) (m + 1 + length w) else place_from (m + 1 + length w) ws word

abbrev pub key_place : Key → Span
key_place k = place_from 3 keywords (key_word k)

abbrev pub zero_place : Span
zero_place = span_at 0 1

abbrev pub text_place : Span
text_place = span_at 1 3

abbrev pub its_place : Token → Key → Span
its_place Keyword k = key_place k
its_place Number k = zero_place
its_place Index k = zero_place
its_place String k = text_place
its_place t k = span_at 0 0

abbrev pub witness : Token → Key → Lexeme
witness t k = record { token = t; hyphen = false; span = its_place t k }

pub has_word : (k : Key) → slice words (key_place k) ≡ key_word k
has_word no_key = refl
has_word k = refl

pub zero_integer : (minus : Bool) → IsInteger minus (slice words zero_place) (pos 0)
zero_integer true = record { digits = 0 ∷ []; are_digits = refl; value = refl; in_range = record { sfits = ltb-true _ _ refl } }
zero_integer false = record { digits = 0 ∷ []; are_digits = refl; value = refl; in_range = record { sfits = ltb-true _ _ refl } }

pub zero_index : IsIndex (slice words zero_place) 0
zero_index = record { digits = 0 ∷ []; are_digits = refl; value = refl; in_range = ltb-true _ _ refl }

pub no_text : IsText words 1 3 []
no_text = record { string = record { pieces = []; each = tt; occurs = refl; to = refl }; value = refl }

-- ---- what a keyword spells
abbrev pub is_key : Key → Bool
is_key no_key = false
is_key k = true

abbrev pub Known : List ℕ → Key → Type 0
Known w k = is_key k ≡ true → key_word k ≡ w

pick : (w : List ℕ) (b : Bool) (k others : Key) → (b ≡ true → key_word k ≡ w) → Known w others → Known w (if b then k else others)
pick w true k others f g = λ h. f refl
pick w false k others f g = g

equal : (w v : List ℕ) → bytes_eq w v ≡ true → w ≡ v
equal w v h = (bytes_eq-Decides w v).0 h

-- the keyword that a word is, of some words
abbrev key_among : List (List ℕ) → List ℕ → Key
key_among [] w = no_key
key_among (v ∷ vs) w = if bytes_eq w v then keyword_of v else key_among vs w

known_among : (w : List ℕ) (vs : List (List ℕ)) → list_all (λ v. bytes_eq (key_word (keyword_of v)) v) vs ≡ true → Known w (key_among vs w)
known_among w [] h = λ k. absurd cc
known_among w (v ∷ vs) h =
    let both = and_parts (bytes_eq (key_word (keyword_of v)) v) (list_all (λ v. bytes_eq (key_word (keyword_of v)) v) vs) h in
    pick w (bytes_eq w v) (keyword_of v) (key_among vs w) (λ e. equal (key_word (keyword_of v)) v both.0 ∙ sym (equal w v e)) (known_among w vs both.1)

pub known : (w : List ℕ) → Known w (keyword_of w)
known w = known_among w keywords refl
