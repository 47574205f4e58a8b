-- Whether a token begins at an offset inside a tag, delimiters aside: which, and how far it goes; or why none does.
use Rattle.std.specs.Prelude.{◌≡◌, ◌⊎◌, ℕ, List, [], ◌∷◌, Bool, Some, codes, encode_utf8}
use Rattle.upon_types.specs.declared.types.Span.{Span}
use Rattle.upon_types.specs.declared.types.token.Token.{Token}
use Rattle.upon_language_spec.specs.Search.{Occurs}
use Rattle.upon_language_spec.specs.Inside.{token_kind, Extent, start_kind, IsQuoted}
use Rattle.upon_language_spec.specs.Faults.{span_of, BeginsNoToken, LineEnds}
use Rattle.upon_types.specs.Bytes.{quote}

-- a token of this kind from m to n
pub record BeginsInside (s : List ℕ) (in_path : Bool) (t : Token) (m n : ℕ) : Type 0 where
  pub first : ℕ
  pub occurs : Occurs s m (encode_utf8 first)
  pub of_kind : token_kind in_path first ≡ Some (start_kind t)
  pub extent : Extent s t m n

-- a character that begins no token
pub record NoCharacter (s : List ℕ) (in_path : Bool) (p : ℕ) (span : Span) (reason : List ℕ) : Type 0 where
  pub c : ℕ
  pub occurs : Occurs s p (encode_utf8 c)
  pub to : ℕ
  pub nothing : BeginsNoToken s in_path c p to
  pub at : span ≡ span_of p to
  pub words : reason ≡ codes "unexpected character"

-- a quote that begins no string
pub record NoString (s : List ℕ) (p : ℕ) (span : Span) (reason : List ℕ) : Type 0 where
  pub quote : Occurs s p (quote ∷ [])
  pub no_string : (n : ℕ) → IsQuoted s p n → ⊥
  pub to : ℕ
  pub line : LineEnds s p to
  pub at : span ≡ span_of p to
  pub words : reason ≡ codes "undelimited string"

-- no token begins there, and why
abbrev pub NoInside : List ℕ → Bool → ℕ → Span → List ℕ → Type 0
NoInside s in_path p span reason = NoCharacter s in_path p span reason ⊎ NoString s p span reason
