-- A template as a sequence of pieces: raw parts and whole tags, one after the other.
use Rattle.std.specs.Prelude.{◌≡◌, ℕ, List, [], ◌∷◌, Bool, true, false, Option, Some, None, if◌then◌else◌}
use Rattle.upon_types.specs.declared.types.Span.{Span}
use Rattle.upon_types.specs.Expression.{Expression}
use Rattle.upon_types.specs.Tree.{raw, inline_expr}
use Rattle.upon_language_spec.specs.Cut.{Lexeme}
use Rattle.upon_types.specs.BlockKinds.{Block, opened_kind}
use Rattle.upon_language_spec.specs.Blocks.{Closer, else_if, plain_else, end_of, block_takes}
use Rattle.upon_language_spec.specs.Grammar.{IsStatement}
use Rattle.upon_tag_parser.specs.BlockTags.{BlockTag, opening_tag, else_if_tag, else_tag, end_tag, include_tag, IsBlockTag, tag_code, Keeps}
use Rattle.upon_tag_parser.specs.TagTokens.{EachTagToken}
use Rattle.upon_types.specs.declared.types.token.Token.TheVariants.{EndExpr, EndBlock}
use Rattle.upon_language_spec.specs.Parts.{a_base, filters, end_expr, block_word}
use Rattle.upon_language_spec.specs.Wanted.{an_end_expression, an_end_block}
use Rattle.upon_tag_parser.specs.WholeTags.{LeadsToEnd, IsInlineTag, IsTagInside}
use Rattle.upon_machine_spec.specs.Code.{emission_code}
use Rattle.upon_machine_spec.specs.Instr.{Instr}
use Rattle.upon_syntax.specs.declared.compile.parse.piece.Piece.{Piece as CodePiece}
use Rattle.upon_syntax.specs.declared.compile.parse.piece.Piece.TheVariants as code

-- a raw part, an inline tag, or a tag of a block
pub data TemplatePiece : Type 0 where
  raw_piece : Span → TemplatePiece
  inline_piece : Expression → Span → TemplatePiece
  block_piece : BlockTag → TemplatePiece

-- from the first of these tokens up to the rest is this piece
abbrev pub IsPiece : List ℕ → TemplatePiece → List Lexeme → List Lexeme → Type 0
IsPiece s (raw_piece span) before rest = IsStatement s (raw span) before rest
IsPiece s (inline_piece e span) before rest = IsStatement s (inline_expr e span) before rest
IsPiece s (block_piece tag) before rest = IsBlockTag s tag before rest

-- pieces, one after the other
abbrev pub ArePieces : List ℕ → List TemplatePiece → List Lexeme → List Lexeme → Type 0
ArePieces s [] before rest = before ≡ rest
ArePieces s (piece ∷ pieces) before rest = (mid : List Lexeme) × IsPiece s piece before mid
    × ArePieces s pieces mid rest

-- what the code keeps of a piece beside the instructions of its expression
abbrev pub KeepsPiece : CodePiece → TemplatePiece → Type 0
KeepsPiece (code.Raw span) piece = piece ≡ raw_piece span
KeepsPiece (code.InlineExpr span) piece = (e : Expression) × (piece ≡ inline_piece e span)
KeepsPiece (code.Block kept) piece = (tag : BlockTag) × (piece ≡ block_piece tag) × Keeps kept tag

-- the tokens lead to the end of an inline tag
abbrev pub InlineLeads : List ℕ → List Lexeme → Type 0
InlineLeads s tokens = LeadsToEnd s (a_base ∷ filters ∷ end_expr ∷ []) tokens EndExpr an_end_expression

-- to the end of a tag of a block
abbrev pub TagLeads : List ℕ → List Lexeme → Type 0
TagLeads s tokens = LeadsToEnd s (block_word ∷ []) tokens EndBlock an_end_block

-- between the begin and the end of a tag, the tokens are this piece; of a raw part nothing is said
abbrev pub HoldsPiece : List ℕ → TemplatePiece → List Lexeme → Type 0
HoldsPiece s (raw_piece span) tokens = Unit {0}
HoldsPiece s (inline_piece e span) tokens = IsInlineTag s e tokens × InlineLeads s tokens × EachTagToken s None tokens
HoldsPiece s (block_piece tag) tokens = IsTagInside s tag tokens × TagLeads s tokens × EachTagToken s None tokens

-- the instructions of its expression, if it has one; those of an inline tag show the value too
abbrev pub piece_code : TemplatePiece → List Instr
piece_code (raw_piece span) = []
piece_code (inline_piece e span) = emission_code e
piece_code (block_piece tag) = tag_code tag

-- an open block: its kind, and whether its `else` was read
abbrev pub BlockKind : Type 0
BlockKind = Block × Bool

-- the open blocks after a closing tag that the innermost of them takes
abbrev pub kinds_left : Closer → BlockKind → List BlockKind → List BlockKind
kinds_left else_if block blocks = block ∷ blocks
kinds_left plain_else block blocks = (block.0, true) ∷ blocks
kinds_left (end_of kind) block blocks = blocks

-- the open blocks after a closing tag, innermost first; none if the innermost does not take it
abbrev pub after_closing : Closer → List BlockKind → Option (List BlockKind)
after_closing closer [] = None
after_closing closer (block ∷ blocks) =
    if block_takes block.0 block.1 closer then Some (kinds_left closer block blocks) else None

-- the open blocks after a tag, innermost first; none if the tag closes what is not open
abbrev pub blocks_after_tag : BlockTag → List BlockKind → Option (List BlockKind)
blocks_after_tag (opening_tag opening e) blocks = Some ((opened_kind opening, false) ∷ blocks)
blocks_after_tag (else_if_tag negated e) blocks = after_closing else_if blocks
blocks_after_tag else_tag blocks = after_closing plain_else blocks
blocks_after_tag (end_tag kind) blocks = after_closing (end_of kind) blocks
blocks_after_tag (include_tag name globals) blocks = Some blocks

-- the open blocks after a piece
abbrev pub blocks_after : TemplatePiece → List BlockKind → Option (List BlockKind)
blocks_after (block_piece tag) blocks = blocks_after_tag tag blocks
blocks_after piece blocks = Some blocks

-- each closing tag of the pieces is taken, and after them these blocks are open
abbrev pub LeaveOpen : List BlockKind → List TemplatePiece → List BlockKind → Type 0
LeaveOpen blocks [] left = blocks ≡ left
LeaveOpen blocks (piece ∷ pieces) left = (next : List BlockKind) × (blocks_after piece blocks ≡ Some next)
    × LeaveOpen next pieces left
