-- The faults that end the cutting of a text, and the first of them.
use Rattle.std.specs.Prelude.{◌≡◌, ℕ, ◌<◌, List, Bool, true, false}
use Rattle.upon_types.specs.declared.types.Span.{Span}
use Rattle.upon_language_spec.specs.Search.{DelimiterText}
use Rattle.upon_language_spec.specs.FirstFault.{SyntaxFault, unexpected_end, unclosed_tag, unclosed_bracket, unexpected_close, unexpected_character, undelimited_string, Holds, NotAfter}

-- no token is given where such a fault holds
abbrev pub ends_cutting : SyntaxFault → Bool
ends_cutting unexpected_end = true
ends_cutting unclosed_tag = true
ends_cutting unclosed_bracket = true
ends_cutting unexpected_close = true
ends_cutting unexpected_character = true
ends_cutting undelimited_string = true
ends_cutting fault = false

-- none of them holds at the point
abbrev pub NoCutFault : List DelimiterText → List ℕ → ℕ → Type 0
NoCutFault delimiters s p = (fault : SyntaxFault) (span : Span) (reason : List ℕ) → ends_cutting fault ≡ true
    → Holds delimiters s fault p span reason → ⊥

-- none of them holds at a point before this one
abbrev pub ClearTo : List DelimiterText → List ℕ → ℕ → Type 0
ClearTo delimiters s p = (q : ℕ) → q < p → NoCutFault delimiters s q

-- the first of them, at this point, with its span and its reason
pub record IsFirstCutFault (delimiters : List DelimiterText) (s : List ℕ) (p : ℕ) (span : Span) (reason : List ℕ)
    : Type 0 where
  pub fault : SyntaxFault
  pub ends : ends_cutting fault ≡ true
  pub holds : Holds delimiters s fault p span reason
  pub first : (other : SyntaxFault) (q : ℕ) (its_span : Span) (its_reason : List ℕ) → ends_cutting other ≡ true
      → Holds delimiters s other q its_span its_reason → NotAfter fault p other q
