-- The pieces of a tree, in the order in which they are read, and what a compiler is told of them.
use Rattle.std.proofs.Common.{◌≡◌, ◌⊎◌, List, ◌∷◌, true, Some, None, inl, inr, ap}
use Rattle.upon_types.specs.BlockKinds.{Block, if_block, if_tag, opened_kind, may_have_else, may_have_else_if}
use Rattle.upon_types.specs.Tree.{Statement, raw, inline_expr, include, block, Statements, no_statements, statement_then, Else, no_else, otherwise}
use Rattle.upon_tag_parser.specs.BlockTags.{opening_tag, else_if_tag, else_tag, end_tag, include_tag}
use Rattle.upon_compiler.specs.Told.{IsTold, AreTold, IsEndTold, IsElseIfTold, IsIfAfterElseTold}
use Rattle.upon_syntax.specs.Pieces.{TemplatePiece, raw_piece, inline_piece, block_piece}
use Rattle.upon_syntax.specs.Told.{events_of}

abbrev mutual
  -- the pieces up to the rest are those of a statement
  pub IsInPieces : Statement → List TemplatePiece → List TemplatePiece → Type 0
  IsInPieces (raw span) before rest = before ≡ raw_piece span ∷ rest
  IsInPieces (inline_expr e span) before rest = before ≡ inline_piece e span ∷ rest
  IsInPieces (include word context) before rest = before ≡ block_piece (include_tag word context) ∷ rest
  IsInPieces (block opening e body other) before rest = (mid after : List TemplatePiece)
      × (before ≡ block_piece (opening_tag opening e) ∷ mid) × AreInPieces body mid after
      × IsEndInPieces (opened_kind opening) other after rest

  -- those of statements, one after the other
  pub AreInPieces : Statements → List TemplatePiece → List TemplatePiece → Type 0
  AreInPieces no_statements before rest = before ≡ rest
  AreInPieces (statement_then t ts) before rest = (mid : List TemplatePiece) × IsInPieces t before mid
      × AreInPieces ts mid rest

  -- those of the other branch of a block, and its end: an `else if` is an `if` inside it, and one end closes them all
  pub IsEndInPieces : Block → Else → List TemplatePiece → List TemplatePiece → Type 0
  IsEndInPieces kind no_else before rest = before ≡ block_piece (end_tag kind) ∷ rest
  IsEndInPieces kind (otherwise body) before rest =
      ((mid after : List TemplatePiece) × (may_have_else kind ≡ true) × (before ≡ block_piece else_tag ∷ mid)
      × AreInPieces body mid after × (after ≡ block_piece (end_tag kind) ∷ rest))
      ⊎ ((may_have_else_if kind ≡ true) × IsElseIfInPieces body before rest)

  -- those of an `else if`: one `if` is all that the other branch holds
  pub IsElseIfInPieces : Statements → List TemplatePiece → List TemplatePiece → Type 0
  IsElseIfInPieces no_statements before rest = ⊥
  IsElseIfInPieces (statement_then t no_statements) before rest = IsIfAfterElseInPieces t before rest
  IsElseIfInPieces (statement_then t (statement_then u ts)) before rest = ⊥

  -- those of the `if` of an `else if`
  pub IsIfAfterElseInPieces : Statement → List TemplatePiece → List TemplatePiece → Type 0
  IsIfAfterElseInPieces (block (if_tag negated) e body other) before rest = (mid after : List TemplatePiece)
      × (before ≡ block_piece (else_if_tag negated e) ∷ mid) × AreInPieces body mid after
      × IsEndInPieces if_block other after rest
  IsIfAfterElseInPieces _ before rest = ⊥

-- ---- a compiler that is told of the pieces of a tree is told of that tree
mutual
  told_statement : (t : Statement) (before rest : List TemplatePiece) → IsInPieces t before rest → IsTold t (events_of before) (events_of rest)
  told_statement (raw span) before rest h = ap events_of h
  told_statement (inline_expr e span) before rest h = ap events_of h
  told_statement (include word None) before rest h = ap events_of h
  told_statement (include word (Some e)) before rest h = ap events_of h
  told_statement (block opening e body other) before rest (mid, after, is, inside, end) =
      (events_of mid, events_of after, ap events_of is, told_statements body mid after inside, told_end (opened_kind opening) other after rest end)

  pub told_statements : (ts : Statements) (before rest : List TemplatePiece) → AreInPieces ts before rest → AreTold ts (events_of before) (events_of rest)
  told_statements no_statements before rest h = ap events_of h
  told_statements (statement_then t ts) before rest (mid, first, others) =
      (events_of mid, told_statement t before mid first, told_statements ts mid rest others)

  told_end : (kind : Block) (other : Else) (before rest : List TemplatePiece) → IsEndInPieces kind other before rest → IsEndTold kind other (events_of before) (events_of rest)
  told_end kind no_else before rest h = ap events_of h
  told_end kind (otherwise body) before rest (inl (mid, after, may, is, inside, end)) =
      inl (events_of mid, events_of after, may, ap events_of is, told_statements body mid after inside, ap events_of end)
  told_end kind (otherwise body) before rest (inr (may, h)) = inr (may, told_else_if body before rest h)

  told_else_if : (ts : Statements) (before rest : List TemplatePiece) → IsElseIfInPieces ts before rest → IsElseIfTold ts (events_of before) (events_of rest)
  told_else_if no_statements before rest h = absurd h
  told_else_if (statement_then t no_statements) before rest h = told_if_after_else t before rest h
  told_else_if (statement_then t (statement_then u ts)) before rest h = absurd h

  told_if_after_else : (t : Statement) (before rest : List TemplatePiece) → IsIfAfterElseInPieces t before rest → IsIfAfterElseTold t (events_of before) (events_of rest)
  told_if_after_else (block (if_tag negated) e body other) before rest (mid, after, is, inside, end) =
      (events_of mid, events_of after, ap events_of is, told_statements body mid after inside, told_end if_block other after rest end)
  told_if_after_else t before rest h = absurd h
