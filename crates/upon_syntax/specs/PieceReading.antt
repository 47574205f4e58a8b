-- What is known between two pieces of a text, and how a reader goes on from one to the next.
use Rattle.std.specs.Prelude.{◌≡◌, ℕ, ◌<◌, ◌≤◌, List, [], ◌∷◌, ◌++◌, Bool, true, false, length, Option, Some, None}
use Rattle.upon_types.specs.declared.types.Span.{Span}
use Rattle.upon_types.specs.declared.types.token.Token.{Token}
use Rattle.upon_types.specs.declared.error.Error.{Error}
use Rattle.upon_types.specs.declared.types.token.Token.TheVariants.{Raw, EndComment}
use Rattle.upon_language_spec.specs.Search.{DelimiterText}
use Rattle.upon_language_spec.specs.Cut.{Lexeme, Mode, outside, in_comment, Cut}
use Rattle.upon_language_spec.specs.Blocks.{OpenBlock, open_blocks}
use Rattle.upon_language_spec.specs.LaterFaults.{is_comment_begin}
use Rattle.upon_language_spec.specs.Lexing.{LexerState, HasRead, IsGiven}
use Rattle.upon_language_spec.specs.Raw.{IsRaw}
use Rattle.upon_language_spec.specs.Reading.{last_of}
use Rattle.upon_language_spec.specs.Shown.{shown_lexemes}
use Rattle.upon_language_spec.specs.Tokens.{significant}
use Rattle.upon_language_spec.specs.Stages.{AllClear}
use Rattle.upon_language_spec.specs.ClosingTags.{ReadTagsTaken}
use Rattle.upon_lexer.specs.Lexers.{lexer_text, lexer_delimiters, lexer_state}
use Rattle.upon_syntax.specs.declared.compile.parse.piece.Piece.{Piece as CodePiece}
use Rattle.upon_syntax.specs.declared.compile.parse.piece_reader.PieceReader.{PieceReader}
use Rattle.upon_syntax.specs.declared.compile.parse.piece_reader.Next.{Next}
use Rattle.upon_syntax.specs.declared.compile.parse.piece_reader.Next.TheVariants.{OnePiece, Comment, End}
use Rattle.upon_syntax.specs.OpenBlocks.{stack_of, kinds_of}
use Rattle.upon_syntax.specs.TagEnds.{KeepsText}
use Rattle.upon_syntax.specs.TagReading.{HasPieces, IsSyntaxError}
use Rattle.upon_syntax.specs.Pieces.{TemplatePiece, KeepsPiece, HoldsPiece, piece_code, ArePieces, LeaveOpen}
use Rattle.upon_syntax.specs.TagReaders.{reader_tokens}
use Rattle.upon_compiler.specs.Program.{program_view}
use Rattle.upon_compiler.specs.declared.types.program.Instr.{Instr as CodeInstr}

-- the text of a reader
abbrev pub text_of_reader : PieceReader → List ℕ
text_of_reader reader = lexer_text reader.lexer

-- its delimiters
abbrev pub pieces_delimiters : PieceReader → List DelimiterText
pieces_delimiters reader = lexer_delimiters reader.lexer

-- how far it has read
abbrev pub pieces_state : PieceReader → LexerState
pieces_state reader = lexer_state reader.lexer

-- the blocks that are open there
abbrev pub pieces_blocks : PieceReader → List OpenBlock
pieces_blocks reader = stack_of reader.blocks

-- the tokens of the tag that it read last
abbrev pub pieces_tokens : PieceReader → List Lexeme
pieces_tokens reader = reader_tokens reader.tags

-- pieces, one after the other
abbrev pub Pieces : Type 0
Pieces = List TemplatePiece

-- these tokens were read, the offset after them is in this mode, and no fault holds before it
pub record ReadTo (delimiters : List DelimiterText) (s : List ℕ) (left : LexerState) (mode : Mode) (ls : List Lexeme)
    : Type 0 where
  pub read : HasRead delimiters s left ls
  pub is : left.mode ≡ mode
  pub clear : AllClear delimiters s left.offset

-- outside tags, where each closing tag was taken and these blocks are open
pub record BetweenPieces (delimiters : List DelimiterText) (s : List ℕ) (left : LexerState) (stack : List OpenBlock)
    (ls : List Lexeme) : Type 0 where
  pub read_to : ReadTo delimiters s left outside ls
  pub known : ReadTagsTaken s ls
  pub blocks : open_blocks s (significant ls) ≡ stack

-- a token with its hyphen and its span
abbrev pub token_lexeme : Token → Bool → Span → Lexeme
token_lexeme token hyphen span = record { token = token; hyphen = hyphen; span = span }

-- between pieces a token was given with this span
pub record TokenGiven (delimiters : List DelimiterText) (s : List ℕ) (before after : LexerState)
    (stack : List OpenBlock) (ls : List Lexeme) (token : Token) (span : Span) : Type 0 where
  pub between : BetweenPieces delimiters s before stack ls
  pub hyphen : Bool
  pub at : Span
  pub given : IsGiven delimiters s outside before.trims token at span
  pub read : HasRead delimiters s after (ls ++ token_lexeme token hyphen at ∷ [])

-- A reader has gone on over these pieces: the tokens that follow them are shown as they are after them, and whatever
-- pieces those are read as come after these.
pub record ReadsOnPieces (delimiters : List DelimiterText) (s : List ℕ) (before after : LexerState)
    (stack next : List OpenBlock) (ls : List Lexeme) (found : List TemplatePiece) : Type 0 where
  pub more : List Lexeme
  pub further : before.offset < after.offset
  pub between : BetweenPieces delimiters s after next (ls ++ more)
  pub cut : Cut delimiters s outside before.offset more outside after.offset
  pub leaves : LeaveOpen (kinds_of stack) found (kinds_of next)
  pub reads : (rest : List Lexeme) (pieces : List TemplatePiece)
      → Cut delimiters s outside after.offset rest outside (length s)
      → ArePieces s pieces (significant (shown_lexemes s after.trims rest)) []
      → ArePieces s (found ++ pieces) (significant (shown_lexemes s before.trims (more ++ rest))) []

-- A reader has gone on over one piece, of which the code keeps this and, if it is a tag, these tokens, and the
-- instructions of the piece's expression are appended.
pub record PieceRead (delimiters : List DelimiterText) (s : List ℕ) (before after : LexerState)
    (stack next : List OpenBlock) (ls tokens : List Lexeme) (old new : List CodeInstr) (kept : CodePiece) : Type 0
  where
    pub piece : TemplatePiece
    pub reads : ReadsOnPieces delimiters s before after stack next ls (piece ∷ [])
    pub keeps : KeepsPiece kept piece
    pub holds : HoldsPiece s piece tokens
    pub code : program_view new ≡ program_view old ++ piece_code piece

-- the begin of a comment was read last
pub record AfterCommentBegin (delimiters : List DelimiterText) (s : List ℕ) (left : LexerState) (ls : List Lexeme)
    : Type 0 where
  pub read_to : ReadTo delimiters s left in_comment ls
  pub begin : is_comment_begin (last_of ls) ≡ true

-- the raw part of a comment was read last
pub record AfterCommentRaw (delimiters : List DelimiterText) (s : List ℕ) (left : LexerState) (ls : List Lexeme)
    : Type 0 where
  pub read_to : ReadTo delimiters s left in_comment ls
  pub from : ℕ
  pub raw : IsRaw delimiters s from left.offset
  pub no_begin : is_comment_begin (last_of ls) ≡ false

-- the end of a comment was read
pub record PassesEnd (delimiters : List DelimiterText) (s : List ℕ) (after : LexerState) (ls : List Lexeme)
    : Type 0 where
  pub end : Lexeme
  pub is_end : end.token ≡ EndComment
  pub read_to : ReadTo delimiters s after outside (ls ++ end ∷ [])

-- a raw part and the end of the comment were read
pub record PassesComment (delimiters : List DelimiterText) (s : List ℕ) (after : LexerState) (ls : List Lexeme)
    : Type 0 where
  pub raw : Lexeme
  pub is_raw : raw.token ≡ Raw
  pub end : PassesEnd delimiters s after (ls ++ raw ∷ [])

-- The pieces of a text so far: all tokens up to here, and whatever pieces the rest is read as come after these.
pub record PiecesSoFar (delimiters : List DelimiterText) (s : List ℕ) (left : LexerState) (stack : List OpenBlock)
    (found : List TemplatePiece) : Type 0 where
  pub lexemes : List Lexeme
  pub between : BetweenPieces delimiters s left stack lexemes
  pub leaves : LeaveOpen [] found (kinds_of stack)
  pub reads : (rest : List Lexeme) (pieces : List TemplatePiece)
      → Cut delimiters s outside left.offset rest outside (length s)
      → ArePieces s pieces (significant (shown_lexemes s left.trims rest)) []
      → ArePieces s (found ++ pieces) (significant (shown_lexemes s false (lexemes ++ rest))) []

-- The pieces so far, from one offset to a later one: one more, or none for a comment.
pub record GoesFurther (delimiters : List DelimiterText) (s : List ℕ) (before after : LexerState)
    (stack : List OpenBlock) (found : List TemplatePiece) : Type 0 where
  pub further : before.offset < after.offset
  pub within : after.offset ≤ length s
  pub so_far : PiecesSoFar delimiters s after stack found

-- One piece more than these, from one offset to a later one: of it the code keeps this and, if it is a tag, these
-- tokens, and the instructions of its expression are appended.
pub record PieceFound (delimiters : List DelimiterText) (s : List ℕ) (before after : LexerState)
    (stack : List OpenBlock) (found : List TemplatePiece) (tokens : List Lexeme) (old new : List CodeInstr)
    (kept : CodePiece) : Type 0 where
  pub piece : TemplatePiece
  pub gone : GoesFurther delimiters s before after stack (found ++ piece ∷ [])
  pub keeps : KeepsPiece kept piece
  pub holds : HoldsPiece s piece tokens
  pub code : program_view new ≡ program_view old ++ piece_code piece

-- ---- the same, of a reader
-- the reader reads the same text as before, over the same delimiters
abbrev pub KeepsReading : PieceReader → PieceReader → Type 0
KeepsReading reader after = KeepsText reader.lexer after.lexer

-- it is between two pieces, after these tokens
abbrev pub IsBetween : PieceReader → List Lexeme → Type 0
IsBetween reader ls = BetweenPieces (pieces_delimiters reader) (text_of_reader reader) (pieces_state reader)
    (pieces_blocks reader) ls

-- it was given this token, after these
abbrev pub IsGivenTo : PieceReader → LexerState → List Lexeme → Token → Span → Type 0
IsGivenTo reader before ls token span = TokenGiven (pieces_delimiters reader) (text_of_reader reader) before
    (pieces_state reader) (pieces_blocks reader) ls token span

-- it goes on over these pieces, from before a token that it was given
abbrev pub ReaderGoesOn : PieceReader → PieceReader → LexerState → List Lexeme → List TemplatePiece → Type 0
ReaderGoesOn reader after before ls found = ReadsOnPieces (pieces_delimiters reader) (text_of_reader reader) before
    (pieces_state after) (pieces_blocks reader) (pieces_blocks after) ls found

-- it goes on over one piece, of which the code keeps this, and the instructions of the piece's expression are appended
abbrev pub ReadsPiece : PieceReader → PieceReader → LexerState → List Lexeme → List CodeInstr → List CodeInstr
    → CodePiece → Type 0
ReadsPiece reader after before ls old new kept = PieceRead (pieces_delimiters reader) (text_of_reader reader) before
    (pieces_state after) (pieces_blocks reader) (pieces_blocks after) ls (pieces_tokens after) old new kept

-- it goes on over the piece that was read, if one was; over a comment, which leaves the instructions as they were
abbrev pub ReadsFound : PieceReader → PieceReader → LexerState → List Lexeme → List CodeInstr → List CodeInstr
    → Option CodePiece → Type 0
ReadsFound reader after before ls old new None = ReaderGoesOn reader after before ls [] × (new ≡ old)
ReadsFound reader after before ls old new (Some kept) = ReadsPiece reader after before ls old new kept

-- it has read the begin of a comment last
abbrev pub HasBegunComment : PieceReader → List Lexeme → Type 0
HasBegunComment reader ls = AfterCommentBegin (pieces_delimiters reader) (text_of_reader reader) (pieces_state reader)
    ls

-- it has read the raw part of a comment last
abbrev pub IsInComment : PieceReader → List Lexeme → Type 0
IsInComment reader ls = AfterCommentRaw (pieces_delimiters reader) (text_of_reader reader) (pieces_state reader) ls

-- it has then read the comment's end
abbrev pub HasPassedEnd : PieceReader → PieceReader → List Lexeme → Type 0
HasPassedEnd reader after ls = PassesEnd (pieces_delimiters reader) (text_of_reader reader) (pieces_state after) ls

-- it has then read the comment's raw part and end
abbrev pub HasPassedComment : PieceReader → PieceReader → List Lexeme → Type 0
HasPassedComment reader after ls = PassesComment (pieces_delimiters reader) (text_of_reader reader)
    (pieces_state after) ls

-- it has found these pieces so far
abbrev pub HasFound : PieceReader → List TemplatePiece → Type 0
HasFound reader found = PiecesSoFar (pieces_delimiters reader) (text_of_reader reader) (pieces_state reader)
    (pieces_blocks reader) found

-- it has found these pieces after those before
abbrev pub HasGone : PieceReader → PieceReader → List TemplatePiece → Type 0
HasGone reader after found = GoesFurther (pieces_delimiters reader) (text_of_reader reader) (pieces_state reader)
    (pieces_state after) (pieces_blocks after) found

-- it has found one piece after those before, and the instructions of the piece's expression are appended
abbrev pub FindsPiece : PieceReader → PieceReader → List TemplatePiece → List CodeInstr → List CodeInstr → CodePiece
    → Type 0
FindsPiece reader after found old new kept = PieceFound (pieces_delimiters reader) (text_of_reader reader)
    (pieces_state reader) (pieces_state after) (pieces_blocks after) found (pieces_tokens after) old new kept

-- what it says that it found, if these pieces were found before
abbrev pub FindsNext : PieceReader → PieceReader → List TemplatePiece → List CodeInstr → List CodeInstr → Next → Type 0
FindsNext reader after found old new (OnePiece kept) = FindsPiece reader after found old new kept
FindsNext reader after found old new Comment = HasGone reader after found × (new ≡ old)
FindsNext reader after found old new End = HasPieces (pieces_delimiters reader) (text_of_reader reader) found
    × LeaveOpen [] found []

-- the error reports the first fault of its text, or that memory is out
abbrev pub RefusesPieces : PieceReader → Error → Type 0
RefusesPieces reader e = IsSyntaxError (pieces_delimiters reader) (text_of_reader reader) e
