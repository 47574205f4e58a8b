-- The tokens inside a tag: which may be there, which literals are fine there, and which tokens end a tag.
use Rattle.std.specs.Prelude.{◌≡◌, ℕ, ℤ, ◌+◌, ◌^◌, nat_lt, List, [], ◌∷◌, Bool, true, false, Option, Some, None}
use Rattle.upon_types.specs.declared.types.token.Token.{Token}
use Rattle.upon_types.specs.declared.types.token.Token.TheVariants.{Raw, BeginExpr, EndExpr, BeginBlock, EndBlock}
use Rattle.upon_types.specs.declared.types.token.Token.TheVariants.{BeginComment, EndComment, Index, Number, String}
use Rattle.upon_types.specs.Span.{slice}
use Rattle.upon_language_spec.specs.Cut.{Lexeme}
use Rattle.upon_language_spec.specs.Inside.{IsQuoted}
use Rattle.upon_language_spec.specs.Literal.{digits_in, IsInteger, IsIndex, IsText}
use Rattle.upon_language_spec.specs.LiteralFaults.{index_value, escape_fault}
use Rattle.upon_language_spec.specs.LaterFaults.{minus_before, number_report}

-- what may be inside a tag
abbrev pub is_inside : Token → Bool
is_inside Raw = false
is_inside BeginExpr = false
is_inside EndExpr = false
is_inside BeginBlock = false
is_inside EndBlock = false
is_inside BeginComment = false
is_inside EndComment = false
is_inside t = true

-- each of these tokens may be
abbrev pub EachInside : List Lexeme → Type 0
EachInside [] = Unit {0}
EachInside (l ∷ ls) = (is_inside l.token ≡ true) × EachInside ls

-- what ends a tag of an expression, or of a block
abbrev pub ends_a_tag : Token → Bool
ends_a_tag EndExpr = true
ends_a_tag EndBlock = true
ends_a_tag t = false

-- the last of the tokens, or what is before them
abbrev pub last_or : Option Lexeme → List Lexeme → Option Lexeme
last_or before [] = before
last_or before (l ∷ ls) = last_or (Some l) ls

-- a literal after this token has no fault
pub record FineLiteral (s : List ℕ) (before : Option Lexeme) (l : Lexeme) : Type 0 where
  pub number : l.token ≡ Number → number_report (slice s l.span) before l.span.m l.span.n ≡ None
  pub index : l.token ≡ Index → nat_lt (index_value (digits_in 10 (slice s l.span))) (2 ^ 64) ≡ true
  pub string : l.token ≡ String → (q : IsQuoted s l.span.m l.span.n) → escape_fault (l.span.m + 1) q.pieces ≡ None

-- a literal after this token denotes something
abbrev pub StandsFor : List ℕ → Option Lexeme → Token → Lexeme → Type 0
StandsFor s before Number l = (z : ℤ) × IsInteger (minus_before before) (slice s l.span) z
StandsFor s before Index l = (i : ℕ) × IsIndex (slice s l.span) i
StandsFor s before String l = (text : List ℕ) × IsText s l.span.m l.span.n text
StandsFor s before t l = Unit {0}

-- each literal of these tokens does
abbrev pub EachStands : List ℕ → Option Lexeme → List Lexeme → Type 0
EachStands s before [] = Unit {0}
EachStands s before (l ∷ ls) = StandsFor s before l.token l × EachStands s (Some l) ls
