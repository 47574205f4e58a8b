-- Runs of characters, and what they are made of inside tags: whitespace, names and keywords.
use Rattle.std.specs.Prelude.{◌≡◌, ℕ, ◌+◌, ◌==◌, ◌||◌, List, [], ◌∷◌, length, Bool, true, false, codes, encode_utf8, encode_utf8_all}
use Rattle.std.specs.List.{list_any}
use Rattle.std.specs.Str.{bytes_eq}
use Rattle.unicode_ident.specs.Ident.{is_xid_start}
use Rattle.upon_language_spec.specs.Search.{Occurs}
use Rattle.upon_types.specs.Bytes.{tab, line_feed, carriage_return, space, underscore}

-- the whitespace inside tags: tab, line feed, carriage return and space
abbrev pub is_tag_space : ℕ → Bool
is_tag_space c = (c == tab) || (c == line_feed) || (c == carriage_return) || (c == space)

-- a character that may begin a name
abbrev pub begins_name : ℕ → Bool
begins_name c = (c == underscore) || is_xid_start c

-- each character of the list passes the test
abbrev pub EachPasses : (ℕ → Bool) → List ℕ → Type 0
EachPasses test [] = Unit {0}
EachPasses test (c ∷ cs) = (test c ≡ true) × EachPasses test cs

-- the characters `first` and `others` are from m to n, each passes the test, and at n is none that does
pub record IsRun (test : ℕ → Bool) (s : List ℕ) (m n : ℕ) : Type 0 where
  pub first : ℕ
  pub others : List ℕ
  pub each : EachPasses test (first ∷ others)
  pub occurs : Occurs s m (encode_utf8_all (first ∷ others))
  pub to : n ≡ m + length (encode_utf8_all (first ∷ others))
  pub longest : (c : ℕ) → Occurs s n (encode_utf8 c) → test c ≡ false

-- the words that are never a name
abbrev pub keywords : List (List ℕ)
keywords = codes "if" ∷ codes "not" ∷ codes "else" ∷ codes "endif" ∷ codes "for" ∷ codes "in" ∷ codes "endfor"
    ∷ codes "with" ∷ codes "as" ∷ codes "endwith" ∷ codes "include" ∷ codes "true" ∷ codes "false" ∷ []

-- whether a word is one of them
abbrev pub is_keyword : List ℕ → Bool
is_keyword word = list_any (λ k. bytes_eq word k) keywords
