-- How far the tree of a template was put together: the statements of the innermost block, and the blocks that are open.
use Rattle.std.specs.Prelude.{List, [], ◌∷◌, ◌++◌, map, reverse, Bool, true, Option, Some, None, if◌then◌else◌}
use Rattle.std.specs.Option.{option_map}
use Rattle.upon_types.specs.BlockKinds.{Block, Opening, if_tag, opened_kind, may_have_else}
use Rattle.upon_types.specs.Expression.{Expression}
use Rattle.upon_types.specs.Tree.{Statement, block, Statements, Else, no_else, otherwise}
use Rattle.upon_tag_parser.specs.BlockTags.{opening_of}
use Rattle.upon_tree.specs.Ast.{scope_tree, statement_tree, statements_from}
use Rattle.upon_tree.specs.AstExpression.{expression_tree}
use Rattle.upon_tree.specs.declared.ast.Scope.{Scope}
use Rattle.upon_tree.specs.declared.statements.OpenBlock.{OpenBlock}
use Rattle.upon_tree.specs.declared.statements.TreeBuilder.{TreeBuilder}

-- an open block: what opened it, whether it is the `if` of an `else if`, the statements before it in a branch of the
-- block around it, and the first branch of that, once its other one has begun
pub record BlockSoFar : Type 0 where
  pub opening : Opening
  pub expression : Expression
  pub is_else_if : Bool
  pub around : List Statement
  pub first_around : Option Statements

-- the statements of the innermost block, its first branch, once its other one has begun, and the open blocks, innermost
-- first
pub record TreeSoFar : Type 0 where
  pub statements : List Statement
  pub first : Option Statements
  pub blocks : List BlockSoFar

-- these
abbrev pub so_far : List Statement → Option Statements → List BlockSoFar → TreeSoFar
so_far statements first blocks = record { statements = statements; first = first; blocks = blocks }

-- nothing was read
abbrev pub nothing_read : TreeSoFar
nothing_read = so_far [] None []

-- the statements, one after the other
abbrev pub statements_so_far : TreeSoFar → Statements
statements_so_far t = statements_from t.statements

-- one statement more
abbrev pub with_statement : Statement → TreeSoFar → TreeSoFar
with_statement t so = so_far (so.statements ++ t ∷ []) so.first so.blocks

-- one block more is open
abbrev pub block_opened : Bool → Opening → Expression → TreeSoFar → TreeSoFar
block_opened is_else_if opening e so = so_far [] None (record {
  opening = opening;
  expression = e;
  is_else_if = is_else_if;
  around = so.statements;
  first_around = so.first;
} ∷ so.blocks)

-- the other branch of the innermost block begins
abbrev pub branch_begun : TreeSoFar → TreeSoFar
branch_begun so = so_far [] (Some (statements_from so.statements)) so.blocks

-- it begins with an `if` that ends with it
abbrev pub tree_else_if_begun : Bool → Expression → TreeSoFar → TreeSoFar
tree_else_if_begun negated e so = block_opened true (if_tag negated) e (branch_begun so)

-- the other branch of a block of this kind, if it may have one
abbrev pub other_branch : Block → Statements → Else
other_branch kind last = if may_have_else kind then otherwise last else no_else

-- a block with its branches: the last one, and the first, if it has two
abbrev pub whole_block : Opening → Expression → Option Statements → Statements → Statement
whole_block opening e None last = block opening e last no_else
whole_block opening e (Some first) last = block opening e first (other_branch (opened_kind opening) last)

-- the innermost block ends, and with the `if` of an `else if` the one around it
abbrev pub block_ended_in : List Statement → Option Statements → List BlockSoFar → TreeSoFar
block_ended_in statements first [] = so_far statements first []
block_ended_in statements first (b ∷ blocks) =
    let all : List Statement = b.around ++ whole_block b.opening b.expression first (statements_from statements) ∷ [] in
    if b.is_else_if then block_ended_in all b.first_around blocks else so_far all b.first_around blocks

-- the tree so far after its innermost block ends, and with the `if` of an `else if` the one around it
abbrev pub tree_block_ended : TreeSoFar → TreeSoFar
tree_block_ended so = block_ended_in so.statements so.first so.blocks

-- ---- what the code holds

-- the statements of a branch, if there is one
abbrev pub branch_of : Option Scope → Option Statements
branch_of branch = option_map scope_tree branch

-- an open block
abbrev pub open_block_tree : OpenBlock → BlockSoFar
open_block_tree b = record {
  opening = opening_of b.opening;
  expression = expression_tree b.expr;
  is_else_if = b.is_else_if;
  around = map statement_tree b.around.items;
  first_around = branch_of b.first_around;
}

-- what a builder holds
abbrev pub builder_state : TreeBuilder → TreeSoFar
builder_state builder = so_far (map statement_tree builder.stmts.items) (branch_of builder.first)
    (map open_block_tree (reverse builder.blocks.items))
