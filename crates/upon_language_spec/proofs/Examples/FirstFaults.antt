-- A text for each kind of fault, whose first fault is of that kind.
use Rattle.std.proofs.Common.{[], ◌∷◌, false, true, refl, codes, arith, inr, List}
use Rattle.upon_types.specs.declared.types.token.Token.TheVariants.{BeginExpr, BeginBlock, EndBlock, BeginComment, OpenBracket, Colon, Comma, Dot, Whitespace, Keyword, Ident, Number, Index, String}
use Rattle.upon_language_spec.specs.DefaultDelimiters.{default_delimiters}
use Rattle.upon_language_spec.proofs.Computation.DefaultTexts.{default_texts}
use Rattle.upon_language_spec.specs.Delimiters.{expression, block}
use Rattle.upon_language_spec.specs.Cut.{Lexeme, outside, in_tag, in_comment}
use Rattle.upon_language_spec.specs.FirstFault.{IsFirstFault, unexpected_end, unclosed_tag, unclosed_bracket, unexpected_close, unexpected_character, undelimited_string, wrong_number, wrong_index, wrong_escape, unexpected_block}
use Rattle.upon_language_spec.specs.Parts.{Part, a_base, a_member, filters, end_expr, end_block, after_member}
use Rattle.upon_language_spec.proofs.Totality.First.{first_at, cut_fault_is_first, end_is_first}
use Rattle.upon_language_spec.proofs.Totality.FittingClears.{first_stuck}
use Rattle.upon_language_spec.proofs.Totality.LiteralHere.{least, least_index, least_escape, least_block}
use Rattle.upon_language_spec.proofs.Totality.Stage.{clear_to, unclosed_is_first, empty_is_first, comment_eof_is_first}
use Rattle.upon_language_spec.proofs.Computation.Computing.{computing}
use Rattle.upon_language_spec.proofs.Computation.InnerTests.{inner_tested}
use Rattle.upon_language_spec.proofs.Computation.WholeCut.{step_tested}
use Rattle.upon_language_spec.proofs.Computation.FirstFaultTests.{stands_tested, walked}
use Rattle.upon_language_spec.specs.ShortTrees.{at}
use Rattle.upon_language_spec.proofs.Examples.ShortTrees.{lex}
use Rattle.upon_language_spec.proofs.Examples.Faults.{end_outside, nothing_in_comment, tag_in_tag, open_bracket, stray_close, open_block, strange_character, stray_endif}
use Rattle.upon_language_spec.proofs.Examples.TokenFaults.{wrong_digit, large_index, strange_escape, colon_first, end_in_tag, open_text}

-- `}}`: an end outside tags
end_outside_first : IsFirstFault default_delimiters (codes "}}") (at 0 2) (codes "unexpected end expression")
unfolding computing
end_outside_first =
    let w = walked (codes "}}") [] 0 refl in
    cut_fault_is_first default_delimiters (codes "}}") default_texts [] outside 0 unexpected_end (at 0 2) (codes "unexpected end expression") w.reads w.before refl end_outside

-- `{{ [ {{`: a tag begins in a tag
tag_in_tag_first : IsFirstFault default_delimiters (codes "{{ [ {{") (at 0 2) (codes "unclosed begin expression")
unfolding computing
tag_in_tag_first =
    let ls : List Lexeme = lex BeginExpr 0 2 ∷ lex Whitespace 2 3 ∷ lex OpenBracket 3 4 ∷ lex Whitespace 4 5 ∷ [] in
    let w = walked (codes "{{ [ {{") ls 5 refl in
    cut_fault_is_first default_delimiters (codes "{{ [ {{") default_texts ls (in_tag expression false) 5 unclosed_tag (at 0 2) (codes "unclosed begin expression") w.reads w.before refl tag_in_tag

-- `{{ [1, }}`: the bracket is open where the tag ends
open_bracket_first : IsFirstFault default_delimiters (codes "{{ [1, }}") (at 3 4) (codes "unclosed open bracket")
unfolding computing
open_bracket_first =
    let ls : List Lexeme = lex BeginExpr 0 2 ∷ lex Whitespace 2 3 ∷ lex OpenBracket 3 4 ∷ lex Number 4 5 ∷ lex Comma 5 6 ∷ lex Whitespace 6 7 ∷ [] in
    let w = walked (codes "{{ [1, }}") ls 7 refl in
    cut_fault_is_first default_delimiters (codes "{{ [1, }}") default_texts ls (in_tag expression false) 7 unclosed_bracket (at 3 4) (codes "unclosed open bracket") w.reads w.before refl open_bracket

-- `{{ a ) }}`: no bracket is open that this one closes
stray_close_first : IsFirstFault default_delimiters (codes "{{ a ) }}") (at 5 6) (codes "unexpected close parenthesis")
unfolding computing
stray_close_first =
    let ls : List Lexeme = lex BeginExpr 0 2 ∷ lex Whitespace 2 3 ∷ lex Ident 3 4 ∷ lex Whitespace 4 5 ∷ [] in
    let w = walked (codes "{{ a ) }}") ls 5 refl in
    cut_fault_is_first default_delimiters (codes "{{ a ) }}") default_texts ls (in_tag expression true) 5 unexpected_close (at 5 6) (codes "unexpected close parenthesis") w.reads w.before refl stray_close

-- `{{ a @ }}`: no token begins so
strange_character_first : IsFirstFault default_delimiters (codes "{{ a @ }}") (at 5 6) (codes "unexpected character")
unfolding computing
strange_character_first =
    let ls : List Lexeme = lex BeginExpr 0 2 ∷ lex Whitespace 2 3 ∷ lex Ident 3 4 ∷ lex Whitespace 4 5 ∷ [] in
    let w = walked (codes "{{ a @ }}") ls 5 refl in
    cut_fault_is_first default_delimiters (codes "{{ a @ }}") default_texts ls (in_tag expression true) 5 unexpected_character (at 5 6) (codes "unexpected character") w.reads w.before refl strange_character

-- `{{ "a`: the quote begins no string
open_text_first : IsFirstFault default_delimiters (codes "{{ \"a") (at 3 5) (codes "undelimited string")
unfolding computing
open_text_first =
    let ls : List Lexeme = lex BeginExpr 0 2 ∷ lex Whitespace 2 3 ∷ [] in
    let w = walked (codes "{{ \"a") ls 3 refl in
    cut_fault_is_first default_delimiters (codes "{{ \"a") default_texts ls (in_tag expression false) 3 undelimited_string (at 3 5) (codes "undelimited string") w.reads w.before refl open_text

-- `{{ :`: an expression is wanted
colon_is_first : IsFirstFault default_delimiters (codes "{{ :") (at 3 4) (codes "expected expression, found colon")
unfolding computing
colon_is_first =
    let s = codes "{{ :" in
    let ls : List Lexeme = lex BeginExpr 0 2 ∷ lex Whitespace 2 3 ∷ [] in
    let w = walked s ls 3 refl in
    let step = step_tested default_delimiters s (in_tag expression false) Colon false 3 4 refl in
    first_stuck default_delimiters s default_texts 3 4 (at 3 4) (codes "expected expression, found colon") (omega arith) w.before
    (clear_to default_delimiters s default_texts ls (in_tag expression false) 3 w Colon false 4 step tt) colon_first

-- `{{`: the text ends in a tag
end_in_tag_first : IsFirstFault default_delimiters (codes "{{") (at 2 2) (codes "expected token, found EOF")
unfolding computing
end_in_tag_first =
    let w = walked (codes "{{") (lex BeginExpr 0 2 ∷ []) 2 refl in
    end_is_first default_delimiters (codes "{{") default_texts 2 (at 2 2) (codes "expected token, found EOF") refl w.before end_in_tag

-- `{##}`: the comment is empty
nothing_in_comment_first : IsFirstFault default_delimiters (codes "{##}") (at 2 4) (codes "expected raw template, found end comment")
unfolding computing
nothing_in_comment_first =
    let ls : List Lexeme = lex BeginComment 0 2 ∷ [] in
    empty_is_first default_delimiters (codes "{##}") default_texts ls in_comment 2 (walked (codes "{##}") ls 2 refl) refl (at 2 4) (codes "expected raw template, found end comment") nothing_in_comment

-- `{#`: the text ends in a comment
comment_begin_first : IsFirstFault default_delimiters (codes "{#") (at 2 2) (codes "expected raw template, found EOF")
unfolding computing
comment_begin_first =
    let ls : List Lexeme = lex BeginComment 0 2 ∷ [] in
    let w = walked (codes "{#") ls 2 refl in
    comment_eof_is_first default_delimiters (codes "{#") default_texts ls in_comment 2 w refl refl (at 2 2) (codes "expected raw template, found EOF") (record { lexemes = ls; reads = w.reads; eof = refl; at = refl; words = refl })

-- `{{ 0b2 x }}`: the digit is none of the base
wrong_digit_first : IsFirstFault default_delimiters (codes "{{ 0b2 x }}") (at 5 6) (codes "invalid digit for base 2 literal")
unfolding computing
wrong_digit_first =
    let s = codes "{{ 0b2 x }}" in
    let ls : List Lexeme = lex BeginExpr 0 2 ∷ lex Whitespace 2 3 ∷ [] in
    let ps : List Part = a_base ∷ filters ∷ end_expr ∷ [] in
    let next : List Part = filters ∷ end_expr ∷ [] in
    let w = walked s ls 3 refl in
    first_at default_delimiters s 3 (at 5 6) (codes "invalid digit for base 2 literal") w.before wrong_number wrong_digit
    (least default_delimiters s default_texts expression false 3 ls w ps next (stands_tested s ls ps refl) Number false 6 (step_tested default_delimiters s (in_tag expression false) Number false 3 6 refl) tt refl)

-- `{{ a.18446744073709551616 }}`: no index is as large
large_index_first : IsFirstFault default_delimiters (codes "{{ a.18446744073709551616 }}") (at 5 25) (codes "base 10 literal out of range for unsigned 64-bit integer")
unfolding computing
large_index_first =
    let s = codes "{{ a.18446744073709551616 }}" in
    let ls : List Lexeme = lex BeginExpr 0 2 ∷ lex Whitespace 2 3 ∷ lex Ident 3 4 ∷ lex Dot 4 5 ∷ [] in
    let ps : List Part = a_member ∷ filters ∷ end_expr ∷ [] in
    let next : List Part = after_member ∷ filters ∷ end_expr ∷ [] in
    let w = walked s ls 5 refl in
    first_at default_delimiters s 5 (at 5 25) (codes "base 10 literal out of range for unsigned 64-bit integer") w.before wrong_index large_index
    (least_index default_delimiters s default_texts expression true 5 ls w ps next (stands_tested s ls ps refl) Index false 25 (step_tested default_delimiters s (in_tag expression true) Index false 5 25 refl) tt refl (λ e. cc e))

-- `{{ "\q" }}`: the escape is none of the five
strange_escape_first : IsFirstFault default_delimiters (codes "{{ \"\\q\" }}") (at 5 6) (codes "unknown escape character")
unfolding computing
strange_escape_first =
    let s = codes "{{ \"\\q\" }}" in
    let ls : List Lexeme = lex BeginExpr 0 2 ∷ lex Whitespace 2 3 ∷ [] in
    let ps : List Part = a_base ∷ filters ∷ end_expr ∷ [] in
    let next : List Part = filters ∷ end_expr ∷ [] in
    let w = walked s ls 3 refl in
    first_at default_delimiters s 3 (at 5 6) (codes "unknown escape character") w.before wrong_escape strange_escape
    (least_escape default_delimiters s default_texts expression false 3 ls w ps next (stands_tested s ls ps refl) String false 7 (inr (refl, inner_tested default_delimiters s false String 3 7 refl)) tt refl (λ e. cc e) (λ e. cc e))

-- `{% endif %}`: no block is open
stray_endif_first : IsFirstFault default_delimiters (codes "{% endif %}") (at 0 11) (codes "unexpected `endif` block")
unfolding computing
stray_endif_first =
    let s = codes "{% endif %}" in
    let ls : List Lexeme = lex BeginBlock 0 2 ∷ lex Whitespace 2 3 ∷ lex Keyword 3 8 ∷ lex Whitespace 8 9 ∷ [] in
    let ps : List Part = end_block ∷ [] in
    let w = walked s ls 9 refl in
    first_at default_delimiters s 9 (at 0 11) (codes "unexpected `endif` block") w.before unexpected_block stray_endif
    (least_block default_delimiters s default_texts block false 9 ls w ps [] (stands_tested s ls ps refl) EndBlock false 11 (step_tested default_delimiters s (in_tag block false) EndBlock false 9 11 refl) refl refl (λ e. cc e) (λ e. cc e) (λ e. cc e))

-- `{% if a %}`: the block is open where the text ends
open_block_first : IsFirstFault default_delimiters (codes "{% if a %}") (at 0 10) (codes "unclosed `if` block")
unfolding computing
open_block_first =
    let s = codes "{% if a %}" in
    let ls : List Lexeme = lex BeginBlock 0 2 ∷ lex Whitespace 2 3 ∷ lex Keyword 3 5 ∷ lex Whitespace 5 6 ∷ lex Ident 6 7 ∷ lex Whitespace 7 8 ∷ lex EndBlock 8 10 ∷ [] in
    unclosed_is_first default_delimiters s default_texts ls outside 10 (walked s ls 10 refl) refl refl (at 0 10) (codes "unclosed `if` block") open_block
