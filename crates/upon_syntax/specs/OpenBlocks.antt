-- The blocks that the code keeps open, and what a tag does to them.
use Rattle.std.specs.Prelude.{◌≡◌, List, [], ◌∷◌, map, true, false, Option, Some, None}
use Rattle.upon_types.specs.declared.types.Span.{Span}
use Rattle.upon_types.specs.BlockKinds.{Block, opened_kind}
use Rattle.upon_language_spec.specs.Blocks.{OpenBlock, Closer, else_if, plain_else, end_of, takes, by_closer}
use Rattle.upon_tag_parser.specs.BlockTags.{BlockTag, opening_tag, else_if_tag, else_tag, end_tag}
use Rattle.upon_types.specs.BlockKinds.{block_kind}
use Rattle.upon_syntax.specs.Pieces.{BlockKind}
use Rattle.upon_types.specs.declared.types.block.Closing.{Closing}
use Rattle.upon_types.specs.declared.types.block.Closing.TheVariants as closing
use Rattle.upon_syntax.specs.declared.compile.parse.open_blocks.Effect.{Effect}
use Rattle.upon_syntax.specs.declared.compile.parse.open_blocks.Effect.TheVariants.{Opens, Closes, Nothing}
use Rattle.upon_syntax.specs.declared.compile.parse.open_blocks.OpenBlock.{OpenBlock as CodeBlock}
use Rattle.upon_syntax.specs.declared.compile.parse.open_blocks.OpenBlocks.{OpenBlocks}

-- the closing tag that the code's denotes
abbrev pub closer_view : Closing → Closer
closer_view closing.ElseIf = else_if
closer_view closing.Else = plain_else
closer_view (closing.End kind) = end_of (block_kind kind)

-- the open block that the code's denotes
abbrev pub block_of : CodeBlock → OpenBlock
block_of b = record { kind = block_kind b.kind; has_else = b.has_else; span = b.span }

-- the innermost block is last in the code's list, and first here
abbrev pub stack_from : List OpenBlock → List CodeBlock → List OpenBlock
stack_from stack [] = stack
stack_from stack (b ∷ bs) = stack_from (block_of b ∷ stack) bs

-- the code's open blocks, innermost first
abbrev pub stack_of : OpenBlocks → List OpenBlock
stack_of blocks = stack_from [] blocks.blocks.items

-- the innermost of them
abbrev pub innermost_block : List OpenBlock → Option OpenBlock
innermost_block [] = None
innermost_block (o ∷ stack) = Some o

-- the kinds of open blocks, and whether the `else` of each was read
abbrev pub kinds_of : List OpenBlock → List BlockKind
kinds_of stack = map (λ (o : OpenBlock). (o.kind, o.has_else)) stack

-- a block whose tag was read
abbrev pub new_block : Block → Span → OpenBlock
new_block kind span = record { kind = kind; has_else = false; span = span }

-- the kind of block that a tag opens
abbrev pub opened_by : BlockTag → Option Block
opened_by (opening_tag opening e) = Some (opened_kind opening)
opened_by tag = None

-- the closing tag that a tag is
abbrev pub closed_by : BlockTag → Option Closer
closed_by (else_if_tag negated e) = Some else_if
closed_by else_tag = Some plain_else
closed_by (end_tag kind) = Some (end_of kind)
closed_by tag = None

-- the open blocks with one more, if there is one
abbrev pub with_block_opened : Option Block → Span → List OpenBlock → List OpenBlock
with_block_opened None span stack = stack
with_block_opened (Some kind) span stack = new_block kind span ∷ stack

-- the open blocks after a tag with this span
abbrev pub after_tag : BlockTag → Span → List OpenBlock → List OpenBlock
after_tag tag span stack = with_block_opened (opened_by tag) span (by_closer (closed_by tag) stack)

-- what the code says that a tag does to the open blocks
abbrev pub HasEffect : BlockTag → Effect → Type 0
HasEffect tag (Opens kind) = (opened_by tag ≡ Some (block_kind kind)) × (closed_by tag ≡ None)
HasEffect tag (Closes closer) = (opened_by tag ≡ None) × (closed_by tag ≡ Some (closer_view closer))
HasEffect tag Nothing = (opened_by tag ≡ None) × (closed_by tag ≡ None)

-- the closing tag that a tag is, if it is one, is taken
abbrev pub IsTaken : BlockTag → List OpenBlock → Type 0
IsTaken tag stack = (closer : Closer) → closed_by tag ≡ Some closer → takes stack closer ≡ true

-- the tag is this closing tag, and is not taken
abbrev pub IsUntaken : BlockTag → List OpenBlock → Closing → Type 0
IsUntaken tag stack closer = (closed_by tag ≡ Some (closer_view closer)) × (takes stack (closer_view closer) ≡ false)
