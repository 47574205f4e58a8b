-- How a text is cut: raw parts, tags and comments, as tokens one after the other.
use Rattle.std.specs.Prelude.{◌≡◌, ◌⊎◌, ℕ, List, [], ◌∷◌, Bool, false, Some}
use Rattle.upon_types.specs.declared.types.Span.{Span}
use Rattle.upon_types.specs.declared.types.Delimiter.{Delimiter}
use Rattle.upon_types.specs.declared.types.token.Token.{Token}
use Rattle.upon_types.specs.declared.types.token.Token.TheVariants.{Raw, BeginExpr, EndExpr, BeginBlock, EndBlock, BeginComment, EndComment}
use Rattle.upon_language_spec.specs.Search.{DelimiterText, IsBestDelimiter}
use Rattle.upon_language_spec.specs.Delimiters.{Sort, expression, block, comment, begin_sort, end_sort, has_hyphen, begin_token, end_token}
use Rattle.upon_language_spec.specs.Raw.{IsRaw}
use Rattle.upon_language_spec.specs.Inside.{IsInside, in_path_after}

-- a token and where it is; of a delimiter, whether it has the hyphen
pub record Lexeme : Type 0 where
  pub token : Token
  pub hyphen : Bool
  pub span : Span

-- where an offset of a text is: outside tags, in a tag (and there in a path or not), or in a comment
pub data Mode : Type 0 where
  outside : Mode
  in_tag : Sort → Bool → Mode
  in_comment : Mode

-- the best delimiter at m begins this sort
pub record Begins (delimiters : List DelimiterText) (s : List ℕ) (sort : Sort) (hyphen : Bool) (m n : ℕ) : Type 0 where
  pub kind : Delimiter
  pub occurs : IsBestDelimiter delimiters s kind m n
  pub of_sort : begin_sort kind ≡ Some sort
  pub of_hyphen : has_hyphen kind ≡ hyphen

-- the best delimiter at m ends this sort
pub record Ends (delimiters : List DelimiterText) (s : List ℕ) (sort : Sort) (hyphen : Bool) (m n : ℕ) : Type 0 where
  pub kind : Delimiter
  pub occurs : IsBestDelimiter delimiters s kind m n
  pub of_sort : end_sort kind ≡ Some sort
  pub of_hyphen : has_hyphen kind ≡ hyphen

-- a raw part is a token
abbrev pub IsRawToken : List DelimiterText → List ℕ → Token → Bool → ℕ → ℕ → Type 0
IsRawToken delimiters s t hyphen m n = (t ≡ Raw) × (hyphen ≡ false) × IsRaw delimiters s m n

-- a begin of a sort is its token
abbrev pub IsBegin : List DelimiterText → List ℕ → Token → Bool → ℕ → ℕ → Type 0
IsBegin delimiters s t hyphen m n = (sort : Sort) × (t ≡ begin_token sort) × Begins delimiters s sort hyphen m n

-- an end of this sort is its token
abbrev pub IsEnd : List DelimiterText → List ℕ → Sort → Token → Bool → ℕ → ℕ → Type 0
IsEnd delimiters s sort t hyphen m n = (t ≡ end_token sort) × Ends delimiters s sort hyphen m n

-- this token is from m to n, in this mode
abbrev pub IsToken : List DelimiterText → List ℕ → Mode → Token → Bool → ℕ → ℕ → Type 0
IsToken delimiters s outside t hyphen m n = IsRawToken delimiters s t hyphen m n ⊎ IsBegin delimiters s t hyphen m n
IsToken delimiters s (in_tag sort in_path) t hyphen m n = IsEnd delimiters s sort t hyphen m n ⊎
    ((hyphen ≡ false) × IsInside delimiters s in_path t m n)
IsToken delimiters s in_comment t hyphen m n = IsRawToken delimiters s t hyphen m n
    ⊎ IsEnd delimiters s comment t hyphen m n

-- the mode after a token that is no delimiter
abbrev pub same_mode : Mode → Token → Mode
same_mode outside t = outside
same_mode (in_tag sort in_path) t = in_tag sort (in_path_after in_path t)
same_mode in_comment t = in_comment

-- the mode after a token
abbrev pub mode_after : Mode → Token → Mode
mode_after mode BeginExpr = in_tag expression false
mode_after mode BeginBlock = in_tag block false
mode_after mode BeginComment = in_comment
mode_after mode EndExpr = outside
mode_after mode EndBlock = outside
mode_after mode EndComment = outside
mode_after mode t = same_mode mode t

-- From the offset m, in a mode, to the offset n, in another, the text is cut into these tokens, one after the other.
-- A comment may be empty here.
abbrev pub Cut : List DelimiterText → List ℕ → Mode → ℕ → List Lexeme → Mode → ℕ → Type 0
Cut delimiters s mode m [] mode' n = (mode ≡ mode') × (m ≡ n)
Cut delimiters s mode m (l ∷ ls) mode' n = (l.span.m ≡ m) × IsToken delimiters s mode l.token l.hyphen m l.span.n
    × Cut delimiters s (mode_after mode l.token) l.span.n ls mode' n
