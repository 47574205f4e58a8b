-- How far a text is read with no fault before: at any place, after some tokens of a tag, and at the tag's end.
use Rattle.std.specs.Prelude.{◌≡◌, ℕ, ◌<◌, List, Bool, true, Option, Some, None}
use Rattle.upon_types.specs.declared.types.Span.{Span}
use Rattle.upon_language_spec.specs.Search.{DelimiterText}
use Rattle.upon_language_spec.specs.Delimiters.{Sort, end_token}
use Rattle.upon_language_spec.specs.Cut.{Lexeme, Mode, in_tag, Ends}
use Rattle.upon_language_spec.specs.Reading.{ReadsTo, open_tag, first_span}
use Rattle.upon_language_spec.specs.Tags.{symbol_of}
use Rattle.upon_language_spec.specs.Parts.{Part, after_symbol}
use Rattle.upon_language_spec.specs.OpenParts.{is_open, StandsAt}
use Rattle.upon_language_spec.specs.Faults.{lexeme_at, tag_tokens}
use Rattle.upon_language_spec.specs.FirstFault.{SyntaxFault, Holds}
use Rattle.upon_language_spec.specs.Lexing.{brackets_in}
use Rattle.upon_language_spec.specs.LexStep.{BracketsFit}
use Rattle.upon_language_spec.specs.InTags.{EachStands}

-- no fault of any kind holds at a point before this one
abbrev pub AllClear : List DelimiterText → List ℕ → ℕ → Type 0
AllClear delimiters s p = (row : SyntaxFault) (q : ℕ) (place : Span) (reason : List ℕ) → q < p
    → Holds delimiters s row q place reason → ⊥

-- the text reads to p, and no fault holds before p
pub record Stage (delimiters : List DelimiterText) (s : List ℕ) (ls : List Lexeme) (mode : Mode) (p : ℕ)
    : Type 0 where
  pub reads : ReadsTo delimiters s ls mode p
  pub before : AllClear delimiters s p

-- after some tokens of a tag that lead on and are fine
pub record TagAt (delimiters : List DelimiterText) (s : List ℕ) (sort : Sort) (ls : List Lexeme) (path : Bool) (p : ℕ)
    : Type 0 where
  pub stage : Stage delimiters s ls (in_tag sort path) p
  pub ps : List Part
  pub occurs : StandsAt s ls ps
  pub still : is_open ps ≡ true
  pub each : EachStands s None (tag_tokens ls)
  pub begin : Span
  pub opening : first_span (open_tag ls) ≡ Some begin

-- the tag's end may be there
pub record EndsAt (delimiters : List DelimiterText) (s : List ℕ) (sort : Sort) (ls : List Lexeme) (path : Bool) (p : ℕ)
    : Type 0 where
  pub tag : TagAt delimiters s sort ls path p
  pub hyphen : Bool
  pub to : ℕ
  pub ends : Ends delimiters s sort hyphen p to
  pub brackets : BracketsFit (brackets_in (in_tag sort path) ls) (end_token sort)
  pub next : List Part
  pub leads : after_symbol tag.ps (symbol_of s (lexeme_at (end_token sort) hyphen p to)) ≡ Some next
