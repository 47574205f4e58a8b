-- How the tree of a template grows with each of its pieces.
use Rattle.std.specs.Prelude.{◌≡◌, ℕ, List, [], ◌∷◌, false}
use Rattle.upon_types.specs.Tree.{raw, inline_expr, include}
use Rattle.upon_language_spec.specs.Search.{DelimiterText}
use Rattle.upon_tag_parser.specs.BlockTags.{BlockTag, opening_tag, else_if_tag, else_tag, end_tag, include_tag}
use Rattle.upon_tree.specs.declared.statements.TreeBuilder.{TreeBuilder}
use Rattle.upon_tree.specs.Statements.{TreeSoFar, nothing_read, builder_state, with_statement, block_opened, branch_begun, tree_else_if_begun, tree_block_ended}
use Rattle.upon_syntax.specs.TagReading.{HasPieces}
use Rattle.upon_syntax.specs.Pieces.{TemplatePiece, LeaveOpen, raw_piece, inline_piece, block_piece}

-- with a tag of a block
abbrev pub tree_after_tag : BlockTag → TreeSoFar → TreeSoFar
tree_after_tag (opening_tag opening e) so = block_opened false opening e so
tree_after_tag (else_if_tag negated e) so = tree_else_if_begun negated e so
tree_after_tag else_tag so = branch_begun so
tree_after_tag (end_tag kind) so = tree_block_ended so
tree_after_tag (include_tag name globals) so = with_statement (include name globals) so

-- with a piece
abbrev pub tree_after : TemplatePiece → TreeSoFar → TreeSoFar
tree_after (raw_piece span) so = with_statement (raw span) so
tree_after (inline_piece e span) so = with_statement (inline_expr e span) so
tree_after (block_piece tag) so = tree_after_tag tag so

-- with pieces, one after the other
abbrev pub tree_after_all : List TemplatePiece → TreeSoFar → TreeSoFar
tree_after_all [] so = so
tree_after_all (piece ∷ pieces) so = tree_after_all pieces (tree_after piece so)

-- a builder has the statements of these pieces
abbrev pub HasBuilt : TreeBuilder → List TemplatePiece → Type 0
HasBuilt builder found = builder_state builder ≡ tree_after_all found nothing_read

-- a builder has the statements of the pieces of a text, and each block of them is closed
pub record HasBuiltText (delimiters : List DelimiterText) (s : List ℕ) (builder : TreeBuilder) : Type 0 where
  pub pieces : List TemplatePiece
  pub has : HasPieces delimiters s pieces
  pub closed : LeaveOpen [] pieces []
  pub built : HasBuilt builder pieces
