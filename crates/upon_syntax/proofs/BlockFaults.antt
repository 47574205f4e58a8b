-- The faults of blocks, and that the span of a first fault lies in the text.
use Rattle.std.proofs.Common.{◌≡◌, ℕ, List, [], ◌∷◌, ◌++◌, length, Some, None, refl, ap, ◌∙◌, codes}
use Rattle.std.specs.Str.{IsUtf8}
use Rattle.upon_types.specs.declared.types.Span.{Span}
use Rattle.upon_types.specs.Span.{LiesIn}
use Rattle.upon_language_spec.specs.Search.{DelimiterText, HasTexts}
use Rattle.upon_language_spec.specs.LiesIn.{HasUtf8}
use Rattle.upon_language_spec.specs.Cut.{Lexeme, outside}
use Rattle.upon_types.specs.BlockKinds.{block_word}
use Rattle.upon_language_spec.specs.Blocks.{OpenBlock, outermost}
use Rattle.upon_language_spec.specs.FirstFault.{IsFirstFault}
use Rattle.upon_language_spec.specs.Lexing.{LexerState}
use Rattle.upon_language_spec.specs.Wanted.{in_quotes}
use Rattle.upon_language_spec.proofs.Spans.FirstFault.{fault_lies_in}
use Rattle.upon_language_spec.proofs.SpansLieIn.Characters.{had_utf8}
use Rattle.upon_language_spec.proofs.Totality.Stage.{unclosed_is_first}
use Rattle.upon_syntax.specs.PieceReading.{BetweenPieces}
use Rattle.upon_syntax.proofs.NextTokens.{reads_in, stage_of}

pub first_lies_in : (delimiters : List DelimiterText) (s : List ℕ) (span : Span) (reason : List ℕ) → HasTexts delimiters → ∥ HasUtf8 delimiters ∥₁ → IsUtf8 s → IsFirstFault delimiters s span reason → LiesIn s span
first_lies_in delimiters s span reason texts utf8 text f = fault_lies_in delimiters s texts (had_utf8 delimiters utf8) text f.fault f.point span reason f.holds

-- with no outermost block none is open
pub none_open : (stack : List OpenBlock) → outermost stack ≡ None → stack ≡ []
none_open [] e = refl
none_open (o ∷ []) e = absurd cc
none_open (o ∷ (p ∷ stack)) e = let others = none_open (p ∷ stack) e in absurd cc

-- a block that is open at the text's end
pub unclosed_first : (delimiters : List DelimiterText) (s : List ℕ) (texts : HasTexts delimiters) (left : LexerState) (stack : List OpenBlock) (ls : List Lexeme) (o : OpenBlock) → BetweenPieces delimiters s left stack ls → left.offset ≡ length s → outermost stack ≡ Some o → IsFirstFault delimiters s o.span (codes "unclosed " ++ (in_quotes (block_word o.kind) ++ codes " block"))
unclosed_first delimiters s texts left stack ls o x eof e =
    unclosed_is_first delimiters s texts ls outside left.offset (stage_of delimiters s left outside ls x.read_to) refl eof o.span (codes "unclosed " ++ (in_quotes (block_word o.kind) ++ codes " block")) (record {
      lexemes = ls;
      reads = reads_in delimiters s left outside ls x.read_to;
      eof = eof;
      opening = o;
      outer = ap outermost x.blocks ∙ e;
      at = refl;
      words = refl;
    })
