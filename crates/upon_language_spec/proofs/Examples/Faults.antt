-- Texts with a delimiter, a bracket, a comment or a block that is wrong, and what is reported: a fault that holds, with its span and its reason.
use Rattle.std.proofs.Common.{inl, [], ◌∷◌, true, false, refl, codes}
use Rattle.upon_language_spec.proofs.Computation.Computing.{computing}
use Rattle.upon_types.specs.declared.types.token.Token.TheVariants.{Raw, BeginExpr, BeginBlock, EndBlock, BeginComment, OpenBracket, CloseParen, Comma, Whitespace, Keyword, Ident, Number}
use Rattle.upon_language_spec.specs.DefaultDelimiters.{default_delimiters}
use Rattle.upon_language_spec.specs.Delimiters.{expression, block, comment}
use Rattle.upon_language_spec.specs.Cut.{outside, in_tag}
use Rattle.upon_types.specs.BlockKinds.{if_block}
use Rattle.upon_language_spec.specs.Blocks.{end_of}
use Rattle.upon_language_spec.specs.FirstFault.{Holds, unexpected_end, unclosed_tag, unclosed_bracket, unexpected_close, unexpected_character, empty_comment, comment_eof, unexpected_block, unclosed_block}
use Rattle.upon_language_spec.proofs.Computation.Tests.{occurs_tested, none_tested}
use Rattle.upon_language_spec.proofs.Computation.InnerTests.{inner_tested}
use Rattle.upon_language_spec.proofs.Computation.WholeCut.{begins_tested, ends_tested}
use Rattle.upon_language_spec.proofs.Computation.NoCut.{reads_to}
use Rattle.upon_language_spec.proofs.Computation.ReadStatements.{word_tag_read}
use Rattle.upon_language_spec.specs.Tags.{an_end}
use Rattle.upon_language_spec.specs.ShortTrees.{at}
use Rattle.upon_language_spec.proofs.Examples.ShortTrees.{lex}

-- `}}`: an end outside tags
pub end_outside : Holds default_delimiters (codes "}}") unexpected_end 0 (at 0 2) (codes "unexpected end expression")
unfolding computing
end_outside = record {
  lexemes = [];
  mode = outside;
  reads = reads_to (codes "}}") [] 0 refl;
  sort = expression;
  hyphen = false;
  to = 2;
  ends = ends_tested default_delimiters (codes "}}") expression false 0 2 refl;
  unexpected = λ e. cc e;
  at = refl;
  words = refl;
}

-- `{#}`: the comment does not end
pub open_comment : Holds default_delimiters (codes "{#}") comment_eof 3 (at 3 3) (codes "expected end comment, found EOF")
unfolding computing
open_comment = record {
  lexemes = lex BeginComment 0 2 ∷ lex Raw 2 3 ∷ [];
  reads = reads_to (codes "{#}") (lex BeginComment 0 2 ∷ lex Raw 2 3 ∷ []) 3 refl;
  eof = refl;
  at = refl;
  words = refl;
}

-- `{##}`: the comment is empty
pub nothing_in_comment : Holds default_delimiters (codes "{##}") empty_comment 2 (at 2 4) (codes "expected raw template, found end comment")
unfolding computing
nothing_in_comment = record {
  lexemes = lex BeginComment 0 2 ∷ [];
  reads = reads_to (codes "{##}") (lex BeginComment 0 2 ∷ []) 2 refl;
  opening = refl;
  hyphen = false;
  to = 4;
  ends = ends_tested default_delimiters (codes "{##}") comment false 2 4 refl;
  at = refl;
  words = refl;
}

-- `{{ [ {{`: a tag begins in a tag
pub tag_in_tag : Holds default_delimiters (codes "{{ [ {{") unclosed_tag 5 (at 0 2) (codes "unclosed begin expression")
unfolding computing
tag_in_tag = record {
  lexemes = lex BeginExpr 0 2 ∷ lex Whitespace 2 3 ∷ lex OpenBracket 3 4 ∷ lex Whitespace 4 5 ∷ [];
  mode = in_tag expression false;
  reads = reads_to (codes "{{ [ {{") (lex BeginExpr 0 2 ∷ lex Whitespace 2 3 ∷ lex OpenBracket 3 4 ∷ lex Whitespace 4 5 ∷ []) 5 refl;
  sort = expression;
  awaits = refl;
  opening = expression;
  hyphen = false;
  to = 7;
  begins = begins_tested default_delimiters (codes "{{ [ {{") expression false 5 7 refl;
  at = refl;
  words = refl;
}

-- `{{ [1, }}`: the bracket is open where the tag ends
pub open_bracket : Holds default_delimiters (codes "{{ [1, }}") unclosed_bracket 7 (at 3 4) (codes "unclosed open bracket")
unfolding computing
open_bracket = record {
  lexemes = lex BeginExpr 0 2 ∷ lex Whitespace 2 3 ∷ lex OpenBracket 3 4 ∷ lex Number 4 5 ∷ lex Comma 5 6 ∷ lex Whitespace 6 7 ∷ [];
  sort = expression;
  in_path = false;
  reads = reads_to (codes "{{ [1, }}") (lex BeginExpr 0 2 ∷ lex Whitespace 2 3 ∷ lex OpenBracket 3 4 ∷ lex Number 4 5 ∷ lex Comma 5 6 ∷ lex Whitespace 6 7 ∷ []) 7 refl;
  hyphen = false;
  to = 9;
  ends = ends_tested default_delimiters (codes "{{ [1, }}") expression false 7 9 refl;
  bracket = lex OpenBracket 3 4;
  others = [];
  brackets = refl;
  at = refl;
  words = refl;
}

-- `{{ a ) }}`: no bracket is open that this one closes
pub stray_close : Holds default_delimiters (codes "{{ a ) }}") unexpected_close 5 (at 5 6) (codes "unexpected close parenthesis")
unfolding computing
stray_close = record {
  lexemes = lex BeginExpr 0 2 ∷ lex Whitespace 2 3 ∷ lex Ident 3 4 ∷ lex Whitespace 4 5 ∷ [];
  sort = expression;
  in_path = true;
  reads = reads_to (codes "{{ a ) }}") (lex BeginExpr 0 2 ∷ lex Whitespace 2 3 ∷ lex Ident 3 4 ∷ lex Whitespace 4 5 ∷ []) 5 refl;
  t = CloseParen;
  to = 6;
  occurs = inner_tested default_delimiters (codes "{{ a ) }}") true CloseParen 5 6 refl;
  close = refl;
  unmatched = refl;
  at = refl;
  words = refl;
}

-- `{% if a %}`: the block is open where the text ends
pub open_block : Holds default_delimiters (codes "{% if a %}") unclosed_block 10 (at 0 10) (codes "unclosed `if` block")
unfolding computing
open_block = record {
  lexemes = lex BeginBlock 0 2 ∷ lex Whitespace 2 3 ∷ lex Keyword 3 5 ∷ lex Whitespace 5 6 ∷ lex Ident 6 7 ∷ lex Whitespace 7 8 ∷ lex EndBlock 8 10 ∷ [];
  reads = reads_to (codes "{% if a %}") (lex BeginBlock 0 2 ∷ lex Whitespace 2 3 ∷ lex Keyword 3 5 ∷ lex Whitespace 5 6 ∷ lex Ident 6 7 ∷ lex Whitespace 7 8 ∷ lex EndBlock 8 10 ∷ []) 10 refl;
  eof = refl;
  opening = record { kind = if_block; has_else = false; span = at 0 10 };
  outer = refl;
  at = refl;
  words = refl;
}

-- `{{ a @ }}`: no token begins so
pub strange_character : Holds default_delimiters (codes "{{ a @ }}") unexpected_character 5 (at 5 6) (codes "unexpected character")
unfolding computing
strange_character = record {
  lexemes = lex BeginExpr 0 2 ∷ lex Whitespace 2 3 ∷ lex Ident 3 4 ∷ lex Whitespace 4 5 ∷ [];
  sort = expression;
  in_path = true;
  reads = reads_to (codes "{{ a @ }}") (lex BeginExpr 0 2 ∷ lex Whitespace 2 3 ∷ lex Ident 3 4 ∷ lex Whitespace 4 5 ∷ []) 5 refl;
  bare = none_tested default_delimiters (codes "{{ a @ }}") 5 refl;
  c = 64;
  occurs = occurs_tested (codes "{{ a @ }}") 5 (codes "@") refl;
  to = 6;
  nothing = inl (refl, refl);
  at = refl;
  words = refl;
}

-- `{% endif %}`: no block is open
pub stray_endif : Holds default_delimiters (codes "{% endif %}") unexpected_block 9 (at 0 11) (codes "unexpected `endif` block")
unfolding computing
stray_endif = record {
  lexemes = lex BeginBlock 0 2 ∷ lex Whitespace 2 3 ∷ lex Keyword 3 8 ∷ lex Whitespace 8 9 ∷ [];
  in_path = false;
  reads = reads_to (codes "{% endif %}") (lex BeginBlock 0 2 ∷ lex Whitespace 2 3 ∷ lex Keyword 3 8 ∷ lex Whitespace 8 9 ∷ []) 9 refl;
  hyphen = false;
  to = 11;
  ends = ends_tested default_delimiters (codes "{% endif %}") block false 9 11 refl;
  whole = an_end if_block (word_tag_read (codes "{% endif %}") (codes "endif") (lex BeginBlock 0 2 ∷ lex Keyword 3 8 ∷ lex EndBlock 9 11 ∷ []) [] refl);
  closer = end_of if_block;
  closing = refl;
  refused = refl;
  begin = at 0 2;
  begins = refl;
  at = refl;
  words = refl;
}
