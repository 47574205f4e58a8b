-- What is known before and after the tokens of a tag are read, on top of what the lexer says.
use Rattle.std.specs.Prelude.{◌≡◌, ◌⊎◌, ℕ, List, [], ◌∷◌, ◌++◌, Bool, false, length, Some, None}
use Rattle.upon_types.specs.declared.types.Span.{Span}
use Rattle.upon_types.specs.declared.error.Error.{Error}
use Rattle.upon_types.specs.Error.{fault_of}
use Rattle.upon_types.specs.Fault.{syntax, out_of_memory, bare_fault, fault_with_picture}
use Rattle.upon_language_spec.specs.Search.{DelimiterText}
use Rattle.upon_language_spec.specs.Delimiters.{Sort, expression, block, begin_token, end_token}
use Rattle.upon_language_spec.specs.Cut.{Lexeme, in_tag, Cut, outside}
use Rattle.upon_language_spec.specs.Faults.{lexeme_at}
use Rattle.upon_language_spec.specs.Reading.{open_tag}
use Rattle.upon_language_spec.specs.Shown.{shown_lexemes}
use Rattle.upon_language_spec.specs.Tokens.{without_spaces, significant}
use Rattle.upon_language_spec.specs.FirstFault.{IsFirstFault}
use Rattle.upon_language_spec.specs.InTags.{EachInside}
use Rattle.upon_language_spec.specs.Stages.{Stage, EndsAt}
use Rattle.upon_lexer.specs.declared.compile.lex.Lexer.{Lexer}
use Rattle.upon_lexer.specs.Lexers.{lexer_text, lexer_delimiters, lexer_state, ReadSoFar}
use Rattle.upon_tag_parser.specs.declared.compile.parse.tag.Tag.{Tag}
use Rattle.upon_tag_parser.specs.TagTokens.{EachTagToken}
use Rattle.upon_tag_parser.specs.WholeTags.{HoldsInline, HoldsTag}
use Rattle.upon_compiler.specs.declared.types.program.Instr.{Instr}
use Rattle.upon_syntax.specs.declared.compile.parse.tag_reader.TagReader.{TagReader}
use Rattle.upon_syntax.specs.TagReaders.{reader_tokens}
use Rattle.upon_syntax.specs.Pieces.{TemplatePiece, ArePieces, InlineLeads, TagLeads}

-- The lexer has read these tokens, and no fault holds before its offset; the last of them is the begin of a tag of this
-- sort, with this span.
pub record AfterBegin (lexer : Lexer) (sort : Sort) (begin : Span) (ls : List Lexeme) : Type 0 where
  pub read : ReadSoFar lexer ls
  pub stage : Stage (lexer_delimiters lexer) (lexer_text lexer) ls (in_tag sort false) (lexer_state lexer).offset
  pub hyphen : Bool
  pub opened : open_tag ls ≡ record { token = begin_token sort; hyphen = hyphen; span = begin } ∷ []

-- The lexer has read on to the tag's end, which may be there; of the tokens between, whitespace left out, something
-- holds. Whether all is clear after the end is left open: a closing tag may close what is not open.
pub record AfterEnd (before after : Lexer) (sort : Sort) (ls : List Lexeme) (end : ℕ)
    (P : List Lexeme → Type 0) : Type 0 where
  pub inner : List Lexeme
  pub each : EachInside inner
  pub path : Bool
  pub offset : ℕ
  pub ends : EndsAt (lexer_delimiters before) (lexer_text before) sort (ls ++ inner) path offset
  pub at : end ≡ ends.to
  pub read : ReadSoFar after (ls ++ (inner ++ lexeme_at (end_token sort) ends.hyphen offset ends.to ∷ []))
  pub tokens : P (without_spaces inner)

-- an error reports the text's first fault, with its picture, or that there was no memory
abbrev pub IsSyntaxError : List DelimiterText → List ℕ → Error → Type 0
IsSyntaxError delimiters s e = (fault_of e ≡ out_of_memory) ⊎ ((span : Span) × (reason : List ℕ)
    × IsFirstFault delimiters s span reason
    × (fault_of e ≡ fault_with_picture s (bare_fault syntax (Some reason) (Some span))))

-- two things hold of the tokens of a tag of this text, and a reader of tags keeps them
pub record KeepsTokens (s : List ℕ) (reader : TagReader) (P Q : List Lexeme → Type 0) (tokens : List Lexeme) : Type 0
  where
    pub holds : P tokens
    pub leads : Q tokens
    pub same : tokens ≡ reader_tokens reader
    pub each : EachTagToken s None tokens

-- If the begin of an inline tag was read before, the tag is read to where this span ends, and the instructions that
-- show its expression are appended; the reader keeps its tokens.
abbrev pub ReadsInlineTag : TagReader → Lexer → Lexer → Span → List Instr → List Instr → Span → Type 0
ReadsInlineTag reader before after begin old new span = (ls : List Lexeme) → AfterBegin before expression begin ls
    → AfterEnd before after expression ls span.n
    (KeepsTokens (lexer_text before) reader (λ tokens. HoldsInline (lexer_text before) tokens old new)
    (InlineLeads (lexer_text before)))

-- If the begin of a block's tag was read before, the tag is read to where this span ends, and the code keeps this of
-- it; the instructions that leave the value of its expression, if it has one, are appended, and the reader keeps its
-- tokens.
abbrev pub ReadsBlockTag : TagReader → Lexer → Lexer → Span → List Instr → List Instr → Tag → Span → Type 0
ReadsBlockTag reader before after begin old new tag span = (ls : List Lexeme) → AfterBegin before block begin ls
    → AfterEnd before after block ls span.n
    (KeepsTokens (lexer_text before) reader (λ tokens. HoldsTag (lexer_text before) tag tokens old new)
    (TagLeads (lexer_text before)))

-- if the begin of a tag of this sort was read, the error reports the text's first fault, or that there was no memory
abbrev pub RefusesTag : Lexer → Sort → Span → Error → Type 0
RefusesTag lexer sort begin e = (ls : List Lexeme) → AfterBegin lexer sort begin ls
    → IsSyntaxError (lexer_delimiters lexer) (lexer_text lexer) e

-- the text is cut whole, and its tokens are these pieces
pub record HasPieces (delimiters : List DelimiterText) (s : List ℕ) (pieces : List TemplatePiece) : Type 0 where
  pub lexemes : List Lexeme
  pub cut : Cut delimiters s outside 0 lexemes outside (length s)
  pub reads : ArePieces s pieces (significant (shown_lexemes s false lexemes)) []
