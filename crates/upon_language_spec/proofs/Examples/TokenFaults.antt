-- Texts with a token or a literal that is wrong, and what is reported: a fault that holds, with its span and its reason.
use Rattle.std.specs.Fmt.{digits}
use Rattle.std.proofs.Common.{◌≡◌, inl, ℕ, List, [], ◌∷◌, true, false, refl, arith, codes}
use Rattle.upon_language_spec.proofs.Computation.Computing.{computing}
use Rattle.upon_types.specs.declared.types.token.Token.TheVariants.{BeginExpr, Colon, Whitespace, Ident, Number, Dot, Index, String}
use Rattle.upon_language_spec.specs.DefaultDelimiters.{default_delimiters}
use Rattle.upon_language_spec.specs.Delimiters.{expression}
use Rattle.upon_language_spec.specs.Cut.{in_tag}
use Rattle.upon_language_spec.specs.Wanted.{an_expression}
use Rattle.upon_language_spec.specs.FirstFault.{Holds, unexpected_token, unexpected_eof, undelimited_string, wrong_number, wrong_index, wrong_escape}
use Rattle.upon_language_spec.proofs.Computation.Tests.{occurs_tested, none_tested}
use Rattle.upon_language_spec.proofs.Computation.InnerTests.{inner_tested, each_piece}
use Rattle.upon_language_spec.specs.Inside.{escape, string_text}
use Rattle.upon_language_spec.proofs.Computation.WholeCut.{step_tested}
use Rattle.upon_language_spec.proofs.Computation.TagRows.{number_may_stand, bracket_may_stand, colon_may_not_stand, text_may_stand, index_may_stand}
use Rattle.upon_language_spec.specs.ShortTrees.{at}
use Rattle.upon_language_spec.proofs.Examples.ShortTrees.{lex}
use Rattle.std.proofs.Common.{◌+◌, ◌<◌, ◌≤◌, ◌++◌, zero, suc, length, length-append, slice_index, encode_utf8}
use Rattle.upon_language_spec.specs.Search.{Occurs}
use Rattle.upon_language_spec.proofs.SpansLieIn.Offsets.{occurs_within}
use Rattle.upon_language_spec.proofs.OneCut.Run.{char_has_bytes}
use Rattle.upon_language_spec.specs.Inside.{Piece, plain, pieces_text, ends_line}
use Rattle.upon_language_spec.proofs.Computation.NoCut.{reads_to}

-- `{{ 0b2 x }}`: the digit is none of the base
pub wrong_digit : Holds default_delimiters (codes "{{ 0b2 x }}") wrong_number 3 (at 5 6) (codes "invalid digit for base 2 literal")
unfolding computing digits
wrong_digit = record {
  lexemes = lex BeginExpr 0 2 ∷ lex Whitespace 2 3 ∷ [];
  sort = expression;
  in_path = false;
  reads = reads_to (codes "{{ 0b2 x }}") (lex BeginExpr 0 2 ∷ lex Whitespace 2 3 ∷ []) 3 refl;
  to = 6;
  occurs = inner_tested default_delimiters (codes "{{ 0b2 x }}") false Number 3 6 refl;
  fits = number_may_stand;
  words = refl;
}

-- `{{ a.18446744073709551616 }}`: no index is as large
pub large_index : Holds default_delimiters (codes "{{ a.18446744073709551616 }}") wrong_index 5 (at 5 25) (codes "base 10 literal out of range for unsigned 64-bit integer")
unfolding computing
large_index = record {
  lexemes = lex BeginExpr 0 2 ∷ lex Whitespace 2 3 ∷ lex Ident 3 4 ∷ lex Dot 4 5 ∷ [];
  sort = expression;
  in_path = true;
  reads = reads_to (codes "{{ a.18446744073709551616 }}") (lex BeginExpr 0 2 ∷ lex Whitespace 2 3 ∷ lex Ident 3 4 ∷ lex Dot 4 5 ∷ []) 5 refl;
  to = 25;
  occurs = inner_tested default_delimiters (codes "{{ a.18446744073709551616 }}") true Index 5 25 refl;
  fits = index_may_stand;
  large = refl;
  at = refl;
  words = refl;
}

-- `{{ "\q" }}`: the escape is none of the five
pub strange_escape : Holds default_delimiters (codes "{{ \"\\q\" }}") wrong_escape 3 (at 5 6) (codes "unknown escape character")
unfolding computing
strange_escape = record {
  lexemes = lex BeginExpr 0 2 ∷ lex Whitespace 2 3 ∷ [];
  sort = expression;
  in_path = false;
  reads = reads_to (codes "{{ \"\\q\" }}") (lex BeginExpr 0 2 ∷ lex Whitespace 2 3 ∷ []) 3 refl;
  to = 7;
  occurs = inner_tested default_delimiters (codes "{{ \"\\q\" }}") false String 3 7 refl;
  string = record { pieces = escape 113 ∷ []; each = each_piece (escape 113 ∷ []) refl; occurs = occurs_tested (codes "{{ \"\\q\" }}") 3 (string_text (escape 113 ∷ [])) refl; to = refl };
  fits = text_may_stand;
  from = 5;
  long = 1;
  escape = refl;
  at = refl;
  words = refl;
}

-- `{{ :`: an expression is wanted
pub colon_first : Holds default_delimiters (codes "{{ :") unexpected_token 3 (at 3 4) (codes "expected expression, found colon")
unfolding computing
colon_first = record {
  lexemes = lex BeginExpr 0 2 ∷ lex Whitespace 2 3 ∷ [];
  sort = expression;
  in_path = false;
  reads = reads_to (codes "{{ :") (lex BeginExpr 0 2 ∷ lex Whitespace 2 3 ∷ []) 3 refl;
  t = Colon;
  hyphen = false;
  to = 4;
  occurs = step_tested default_delimiters (codes "{{ :") (in_tag expression false) Colon false 3 4 refl;
  counts = refl;
  wanted = an_expression;
  wants = record { may_follow = bracket_may_stand; least = λ v l m. omega (arith, l) };
  stuck = colon_may_not_stand;
  at = refl;
  words = refl;
}

-- `{{`: the text ends where an expression is wanted
pub end_in_tag : Holds default_delimiters (codes "{{") unexpected_eof 2 (at 2 2) (codes "expected token, found EOF")
unfolding computing
end_in_tag = record {
  lexemes = lex BeginExpr 0 2 ∷ [];
  sort = expression;
  in_path = false;
  reads = reads_to (codes "{{") (lex BeginExpr 0 2 ∷ []) 2 refl;
  eof = refl;
  wanted = an_expression;
  wants = record { may_follow = bracket_may_stand; least = λ v l m. omega (arith, l) };
  at = refl;
  words = refl;
}

too_long : (a b : List ℕ) → 0 < length a → 3 + length (34 ∷ ((a ++ b) ++ 34 ∷ [])) ≤ 5 → ⊥
too_long a b some h = omega (arith, some, h, length-append (a ++ b) (34 ∷ []), length-append a b)

some_byte : (b : ℕ) (bs : List ℕ) → 0 < length (b ∷ bs)
some_byte b bs = omega arith

no_quoted : (pieces : List Piece) → Occurs (codes "{{ \"a") 3 (string_text pieces) → ⊥
unfolding computing
no_quoted [] o = let e : ◌≡◌ {A = ℕ} 34 97 = cc o in omega (arith, e)
no_quoted (plain c ∷ pieces) o = too_long (encode_utf8 c) (pieces_text pieces) (char_has_bytes c) (occurs_within (codes "{{ \"a") 3 (string_text (plain c ∷ pieces)) (some_byte 34 (pieces_text (plain c ∷ pieces) ++ 34 ∷ [])) o)
no_quoted (escape c ∷ pieces) o = too_long (92 ∷ encode_utf8 c) (pieces_text pieces) (some_byte 92 (encode_utf8 c)) (occurs_within (codes "{{ \"a") 3 (string_text (escape c ∷ pieces)) (some_byte 34 (pieces_text (escape c ∷ pieces) ++ 34 ∷ [])) o)

line_goes_on : (q : ℕ) → 3 ≤ q → q < 5 → ends_line (slice_index (codes "{{ \"a") q) ≡ false
unfolding computing
line_goes_on zero l h = absurd (omega (arith, l))
line_goes_on (suc zero) l h = absurd (omega (arith, l))
line_goes_on (suc (suc zero)) l h = absurd (omega (arith, l))
line_goes_on (suc (suc (suc zero))) l h = refl
line_goes_on (suc (suc (suc (suc zero)))) l h = refl
line_goes_on (suc (suc (suc (suc (suc q))))) l h = absurd (omega (arith, h))

-- `{{ "a`: the quote begins no string
pub open_text : Holds default_delimiters (codes "{{ \"a") undelimited_string 3 (at 3 5) (codes "undelimited string")
unfolding computing
open_text = record {
  lexemes = lex BeginExpr 0 2 ∷ lex Whitespace 2 3 ∷ [];
  sort = expression;
  in_path = false;
  reads = reads_to (codes "{{ \"a") (lex BeginExpr 0 2 ∷ lex Whitespace 2 3 ∷ []) 3 refl;
  bare = none_tested default_delimiters (codes "{{ \"a") 3 refl;
  quote = refl;
  no_string = λ n q. no_quoted q.pieces q.occurs;
  to = 5;
  line = record { start = omega arith; within = omega arith; none = line_goes_on; ends = inl refl };
  at = refl;
  words = refl;
}
