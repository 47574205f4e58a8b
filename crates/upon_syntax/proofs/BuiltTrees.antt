-- What is put together of the pieces of a tree is that tree.
use Rattle.std.proofs.Common.{◌≡◌, ℕ, List, [], ◌∷◌, ◌++◌, true, false, Option, Some, None, inl, inr, refl, sym, ap, ◌∙◌, subst, append_assoc, append-nil, if◌then◌else◌}
use Rattle.upon_types.specs.BlockKinds.{Block, if_block, Opening, if_tag, opened_kind, may_have_else, may_have_else_if}
use Rattle.upon_types.specs.Expression.{Expression}
use Rattle.upon_types.specs.Tree.{Statement, raw, inline_expr, include, block, Statements, no_statements, statement_then, Else, no_else, otherwise}
use Rattle.upon_language_spec.proofs.BlockKinds.{only_if}
use Rattle.upon_language_spec.specs.Grammar.{HasTree}
use Rattle.upon_language_spec.specs.Search.{DelimiterText}
use Rattle.upon_language_spec.specs.Shown.{shown_lexemes}
use Rattle.upon_language_spec.specs.Tokens.{significant}
use Rattle.upon_tree.specs.Ast.{statements_from, tree_of}
use Rattle.upon_tree.specs.declared.ast.Template.{Template}
use Rattle.upon_tree.specs.declared.statements.TreeBuilder.{TreeBuilder}
use Rattle.upon_tree.specs.Statements.{builder_state, BlockSoFar, TreeSoFar, so_far, nothing_read, statements_so_far, whole_block, block_ended_in}
use Rattle.upon_syntax.specs.Pieces.{TemplatePiece, LeaveOpen}
use Rattle.upon_syntax.specs.TagReading.{HasPieces}
use Rattle.upon_syntax.specs.TreeTold.{tree_after, tree_after_all, HasBuilt}
use Rattle.upon_syntax.proofs.PieceTrees.{tree_of_pieces}
use Rattle.upon_syntax.proofs.InPieces.{IsInPieces, AreInPieces, IsEndInPieces, IsElseIfInPieces, IsIfAfterElseInPieces}

-- the statements of a tree in a row
abbrev row_of : Statements → List Statement
row_of no_statements = []
row_of (statement_then t ts) = t ∷ row_of ts

from_row : (ts : Statements) → statements_from (row_of ts) ≡ ts
from_row no_statements = refl
from_row (statement_then t ts) = ap (statement_then t) (from_row ts)

-- a block of two branches, of a kind that may have two
whole_both : (opening : Opening) (e : Expression) (body others : Statements) → may_have_else (opened_kind opening) ≡ true → whole_block opening e (Some body) others ≡ block opening e body (otherwise others)
whole_both opening e body others may = ap (λ b. block opening e body (if b then otherwise others else no_else)) may

-- a kind that may have an `else if` may have an `else`
else_tree : (kind : Block) → may_have_else_if kind ≡ true → may_have_else kind ≡ true
else_tree kind may = let F : Block → Type 0 = λ k. may_have_else k ≡ true in subst F (only_if kind may) refl

-- the innermost block ends as this statement
abbrev finished : BlockSoFar → Statement → List BlockSoFar → TreeSoFar
finished b t blocks =
    if b.is_else_if then block_ended_in (b.around ++ t ∷ []) b.first_around blocks else so_far (b.around ++ t ∷ []) b.first_around blocks

-- the innermost block, in a branch of which are these statements, ends
ends_as : (b : BlockSoFar) (row : List Statement) (first : Option Statements) (blocks : List BlockSoFar) (t : Statement) → whole_block b.opening b.expression first (statements_from row) ≡ t → block_ended_in row first (b ∷ blocks) ≡ finished b t blocks
ends_as b row first blocks t e = ap (λ (x : Statement). finished b x blocks) e

mutual
  built_statement : (t : Statement) (before rest : List TemplatePiece) (row : List Statement) (first : Option Statements) (blocks : List BlockSoFar) → IsInPieces t before rest → tree_after_all before (so_far row first blocks) ≡ tree_after_all rest (so_far (row ++ t ∷ []) first blocks)
  built_statement (raw span) before rest row first blocks h = ap (λ ps. tree_after_all ps (so_far row first blocks)) h
  built_statement (inline_expr e span) before rest row first blocks h = ap (λ ps. tree_after_all ps (so_far row first blocks)) h
  built_statement (include word context) before rest row first blocks h = ap (λ ps. tree_after_all ps (so_far row first blocks)) h
  built_statement (block opening e body other) before rest row first blocks (mid, after, is, inside, end) =
      let b : BlockSoFar = record { opening = opening; expression = e; is_else_if = false; around = row; first_around = first } in
      ap (λ ps. tree_after_all ps (so_far row first blocks)) is
      ∙ built_statements body mid after [] None (b ∷ blocks) inside
      ∙ built_end (opened_kind opening) other after rest (row_of body) b blocks refl end
      ∙ ap (λ (x : Statements). tree_after_all rest (so_far (row ++ block opening e x other ∷ []) first blocks)) (from_row body)

  built_statements : (ts : Statements) (before rest : List TemplatePiece) (row : List Statement) (first : Option Statements) (blocks : List BlockSoFar) → AreInPieces ts before rest → tree_after_all before (so_far row first blocks) ≡ tree_after_all rest (so_far (row ++ row_of ts) first blocks)
  built_statements no_statements before rest row first blocks h =
      ap (λ ps. tree_after_all ps (so_far row first blocks)) h ∙ ap (λ r. tree_after_all rest (so_far r first blocks)) (sym (append-nil row))
  built_statements (statement_then t ts) before rest row first blocks (mid, here, others) =
      built_statement t before mid row first blocks here
      ∙ built_statements ts mid rest (row ++ t ∷ []) first blocks others
      ∙ ap (λ r. tree_after_all rest (so_far r first blocks)) (append_assoc row (t ∷ []) (row_of ts))

  -- the end of the innermost block, whose first branch these statements are
  built_end : (kind : Block) (other : Else) (before rest : List TemplatePiece) (row : List Statement) (b : BlockSoFar) (blocks : List BlockSoFar) → opened_kind b.opening ≡ kind → IsEndInPieces kind other before rest → tree_after_all before (so_far row None (b ∷ blocks)) ≡ tree_after_all rest (finished b (block b.opening b.expression (statements_from row) other) blocks)
  built_end kind no_else before rest row b blocks same h =
      ap (λ ps. tree_after_all ps (so_far row None (b ∷ blocks))) h
      ∙ ap (tree_after_all rest) (ends_as b row None blocks (block b.opening b.expression (statements_from row) no_else) refl)
  built_end kind (otherwise body) before rest row b blocks same (inl (mid, after, may, is, inside, end)) =
      let first = statements_from row in
      ap (λ ps. tree_after_all ps (so_far row None (b ∷ blocks))) is
      ∙ built_statements body mid after [] (Some first) (b ∷ blocks) inside
      ∙ ap (λ ps. tree_after_all ps (so_far (row_of body) (Some first) (b ∷ blocks))) end
      ∙ ap (tree_after_all rest) (ends_as b (row_of body) (Some first) blocks (block b.opening b.expression first (otherwise body))
      (whole_both b.opening b.expression first (statements_from (row_of body)) (ap may_have_else same ∙ may) ∙ ap (λ (x : Statements). block b.opening b.expression first (otherwise x)) (from_row body)))
  built_end kind (otherwise body) before rest row b blocks same (inr (may, h)) = built_else_if body before rest row b blocks h (ap may_have_else same ∙ else_tree kind may)

  -- an `else if`
  built_else_if : (ts : Statements) (before rest : List TemplatePiece) (row : List Statement) (b : BlockSoFar) (blocks : List BlockSoFar) → IsElseIfInPieces ts before rest → may_have_else (opened_kind b.opening) ≡ true → tree_after_all before (so_far row None (b ∷ blocks)) ≡ tree_after_all rest (finished b (block b.opening b.expression (statements_from row) (otherwise ts)) blocks)
  built_else_if no_statements before rest row b blocks h may = absurd h
  built_else_if (statement_then t no_statements) before rest row b blocks h may = built_if_after_else t before rest row b blocks h may
  built_else_if (statement_then t (statement_then u ts)) before rest row b blocks h may = absurd h

  built_if_after_else : (t : Statement) (before rest : List TemplatePiece) (row : List Statement) (b : BlockSoFar) (blocks : List BlockSoFar) → IsIfAfterElseInPieces t before rest → may_have_else (opened_kind b.opening) ≡ true → tree_after_all before (so_far row None (b ∷ blocks)) ≡ tree_after_all rest (finished b (block b.opening b.expression (statements_from row) (otherwise (statement_then t no_statements))) blocks)
  built_if_after_else (block (if_tag negated) e body other) before rest row b blocks (mid, after, is, inside, end) may =
      let first = statements_from row in
      let c : BlockSoFar = record { opening = if_tag negated; expression = e; is_else_if = true; around = []; first_around = Some first } in
      let t = block (if_tag negated) e body other in
      ap (λ ps. tree_after_all ps (so_far row None (b ∷ blocks))) is
      ∙ built_statements body mid after [] None (c ∷ b ∷ blocks) inside
      ∙ built_end if_block other after rest (row_of body) c (b ∷ blocks) refl end
      ∙ ap (λ (x : Statements). tree_after_all rest (finished c (block (if_tag negated) e x other) (b ∷ blocks))) (from_row body)
      ∙ ap (tree_after_all rest) (ends_as b (t ∷ []) (Some first) blocks (block b.opening b.expression first (otherwise (statement_then t no_statements)))
      (whole_both b.opening b.expression first (statement_then t no_statements) may))
  built_if_after_else t before rest row b blocks h may = absurd h

-- the whole tree
pub built_tree : (tree : Statements) (pieces : List TemplatePiece) → AreInPieces tree pieces [] → statements_so_far (tree_after_all pieces nothing_read) ≡ tree
built_tree tree pieces h = ap statements_so_far (built_statements tree pieces [] [] None [] h) ∙ from_row tree

-- ---- a builder that is told of the pieces of a text has the text's tree
after_all_append : (found more : List TemplatePiece) (so : TreeSoFar) → tree_after_all (found ++ more) so ≡ tree_after_all more (tree_after_all found so)
after_all_append [] more so = refl
after_all_append (piece ∷ found) more so = after_all_append found more (tree_after piece so)

-- told of one piece more
pub built_more : (found : List TemplatePiece) (piece : TemplatePiece) (old new : TreeBuilder) → HasBuilt old found → builder_state new ≡ tree_after piece (builder_state old) → HasBuilt new (found ++ piece ∷ [])
built_more found piece old new before on = on ∙ ap (tree_after piece) before ∙ sym (after_all_append found (piece ∷ []) nothing_read)

-- told of all
pub tree_of_built : (delimiters : List DelimiterText) (s : List ℕ) (pieces : List TemplatePiece) (builder : TreeBuilder) (template : Template) → HasPieces delimiters s pieces → LeaveOpen [] pieces [] → HasBuilt builder pieces → tree_of template ≡ statements_so_far (builder_state builder) → HasTree delimiters s (tree_of template)
tree_of_built delimiters s pieces builder template has closed built view =
    let (tree, are, in_order) = tree_of_pieces s pieces (significant (shown_lexemes s false has.lexemes)) has.reads closed in
    let same : tree_of template ≡ tree = view ∙ ap statements_so_far built ∙ built_tree tree pieces in_order in
    let F : Statements → Type 0 = λ t. HasTree delimiters s t in
    subst F (sym same) (record { lexemes = has.lexemes; cut = has.cut; reads = are })
