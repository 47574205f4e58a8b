-- Pieces have a tree: what each piece makes of the statements after it, and of the ends of the open blocks.
use Rattle.std.proofs.Common.{◌≡◌, ℕ, List, [], ◌∷◌, Bool, true, false, None, Some, refl, sym, subst, inl, inr, codes, bytes_eq, if◌then◌else◌}
use Rattle.std.proofs.lemmas.Option.{same_Some}
use Rattle.upon_types.specs.Expression.{Expression}
use Rattle.upon_types.specs.Tree.{Statement, raw, inline_expr, include, block, Statements, no_statements, statement_then, Else, no_else, otherwise}
use Rattle.upon_language_spec.specs.Cut.{Lexeme}
use Rattle.upon_types.specs.BlockKinds.{Block, if_block, Opening, if_tag, opened_kind, end_word, may_have_else, may_have_else_if}
use Rattle.upon_language_spec.specs.Grammar.{IsElseIfTag, IsWordTag, IsOpeningTag, IsStatement, AreStatements, IsBlockEnd}
use Rattle.upon_language_spec.specs.Blocks.{else_if, plain_else, end_of}
use Rattle.upon_language_spec.proofs.BlockKinds.{only_if, same_end}
use Rattle.upon_tag_parser.specs.BlockTags.{BlockTag, opening_tag, else_if_tag, else_tag, end_tag, include_tag, IsBlockTag}
use Rattle.upon_syntax.proofs.InPieces.{IsInPieces, AreInPieces, IsEndInPieces}
use Rattle.upon_syntax.specs.Pieces.{TemplatePiece, raw_piece, inline_piece, block_piece, IsPiece, ArePieces, BlockKind, after_closing, blocks_after_tag, blocks_after, LeaveOpen}

-- the tokens up to the rest, and the pieces up to those that are left, are the end of an open block: its end tag, and before that
-- its other branch, if it has one that is to come
abbrev EndsBlock : List ℕ → BlockKind → Else → List Lexeme → List Lexeme → List TemplatePiece → List TemplatePiece → Type 0
EndsBlock s (kind, false) other before rest told left = IsBlockEnd s kind other before rest × IsEndInPieces kind other told left
EndsBlock s (kind, true) other before rest told left = IsWordTag s (end_word kind) before rest × (told ≡ block_piece (end_tag kind) ∷ left)

-- inside an open block: statements, the end of the block, and what is after it
record Inside (s : List ℕ) (kind : BlockKind) (IsAfter : List Lexeme → List TemplatePiece → Type 0) (before : List Lexeme) (told : List TemplatePiece) : Type 0 where
  body : Statements
  other : Else
  end : List Lexeme
  after : List Lexeme
  end_told : List TemplatePiece
  after_told : List TemplatePiece
  reads : AreStatements s body before end
  tells : AreInPieces body told end_told
  ends : EndsBlock s kind other end after end_told after_told
  goes_on : IsAfter after after_told

-- statements, and the end of each open block with the statements after it, from the innermost on
abbrev IsTail : List ℕ → List BlockKind → List Lexeme → List TemplatePiece → Type 0
IsTail s [] before told = (tree : Statements) × AreStatements s tree before [] × AreInPieces tree told []
IsTail s (kind ∷ kinds) before told = Inside s kind (IsTail s kinds) before told

-- a statement before a tail
statement_first : (s : List ℕ) (kinds : List BlockKind) (t : Statement) (before mid : List Lexeme) (told left : List TemplatePiece) → IsStatement s t before mid → IsInPieces t told left → IsTail s kinds mid left → IsTail s kinds before told
statement_first s [] t before mid told left is tells r = (statement_then t r.0, (mid, is, r.1), (left, tells, r.2))
statement_first s (kind ∷ kinds) t before mid told left is tells r = record {
  body = statement_then t r.body;
  other = r.other;
  end = r.end;
  after = r.after;
  end_told = r.end_told;
  after_told = r.after_told;
  reads = (mid, is, r.reads);
  tells = (left, tells, r.tells);
  ends = r.ends;
  goes_on = r.goes_on;
}

-- the end of a block before a tail: no statement is between
end_first : (s : List ℕ) (kind : BlockKind) (kinds : List BlockKind) (other : Else) (before after : List Lexeme) (told left : List TemplatePiece) → EndsBlock s kind other before after told left → IsTail s kinds after left → IsTail s (kind ∷ kinds) before told
end_first s kind kinds other before after told left ends r = record {
  body = no_statements;
  other = other;
  end = before;
  after = after;
  end_told = told;
  after_told = left;
  reads = refl;
  tells = refl;
  ends = ends;
  goes_on = r;
}

-- the first tag of a block: the innermost block is a statement of what is around it
opening_first : (s : List ℕ) (kinds : List BlockKind) (tag : Opening) (e : Expression) (before mid : List Lexeme) (told : List TemplatePiece) → IsOpeningTag s tag e before mid → IsTail s ((opened_kind tag, false) ∷ kinds) mid told → IsTail s kinds before (block_piece (opening_tag tag e) ∷ told)
opening_first s kinds tag e before mid told is r =
    statement_first s kinds (block tag e r.body r.other) before r.after (block_piece (opening_tag tag e) ∷ told) r.after_told
    (mid, r.end, is, r.reads, r.ends.0) (told, r.end_told, refl, r.tells, r.ends.1) r.goes_on

-- the tag of an `else if`: the innermost `if` is all that the other branch holds
else_if_first : (s : List ℕ) (kinds : List BlockKind) (negated : Bool) (e : Expression) (before mid : List Lexeme) (told : List TemplatePiece) → IsElseIfTag s negated e before mid → IsTail s ((if_block, false) ∷ kinds) mid told → IsTail s ((if_block, false) ∷ kinds) before (block_piece (else_if_tag negated e) ∷ told)
else_if_first s kinds negated e before mid told is r =
    end_first s (if_block, false) kinds (otherwise (statement_then (block (if_tag negated) e r.body r.other) no_statements)) before r.after (block_piece (else_if_tag negated e) ∷ told) r.after_told
    (inr (refl, (mid, r.end, is, r.reads, r.ends.0)), inr (refl, (told, r.end_told, refl, r.tells, r.ends.1))) r.goes_on

-- the tag of an `else`: the statements are the other branch
else_first : (s : List ℕ) (kind : Block) (kinds : List BlockKind) (before mid : List Lexeme) (told : List TemplatePiece) → may_have_else kind ≡ true → IsWordTag s (codes "else") before mid → IsTail s ((kind, true) ∷ kinds) mid told → IsTail s ((kind, false) ∷ kinds) before (block_piece else_tag ∷ told)
else_first s kind kinds before mid told may is r =
    end_first s (kind, false) kinds (otherwise r.body) before r.after (block_piece else_tag ∷ told) r.after_told
    (inl (mid, r.end, may, is, r.reads, r.ends.0), inl (told, r.end_told, may, refl, r.tells, r.ends.1)) r.goes_on

-- a tail of the same open blocks
same_blocks : (s : List ℕ) (kinds next : List BlockKind) (mid : List Lexeme) (told : List TemplatePiece) → Some kinds ≡ Some next → IsTail s next mid told → IsTail s kinds mid told
same_blocks s kinds next mid told e r =
    let F : List BlockKind → Type 0 = λ v. IsTail s v mid told in subst F (sym (same_Some kinds next e)) r

-- what is left if a test holds
if_taken : (b : Bool) (left next : List BlockKind) → (if b then Some left else None) ≡ Some next → (b ≡ true) × (Some left ≡ Some next)
if_taken true left next h = (refl, h)
if_taken false left next h = absurd cc

else_if_before : (s : List ℕ) (kinds next : List BlockKind) (negated : Bool) (e : Expression) (before mid : List Lexeme) (told : List TemplatePiece) → IsElseIfTag s negated e before mid → after_closing else_if kinds ≡ Some next → IsTail s next mid told → IsTail s kinds before (block_piece (else_if_tag negated e) ∷ told)
else_if_before s [] next negated e before mid told is opens r = absurd cc
else_if_before s ((kind, true) ∷ kinds) next negated e before mid told is opens r = absurd cc
else_if_before s ((kind, false) ∷ kinds) next negated e before mid told is opens r =
    let taken = if_taken (may_have_else_if kind) ((kind, false) ∷ kinds) next opens in
    let same : if_block ≡ kind = only_if kind taken.0 in
    let F : Block → Type 0 = λ k. IsTail s ((k, false) ∷ kinds) before (block_piece (else_if_tag negated e) ∷ told) in
    let G : Block → Type 0 = λ k. IsTail s ((k, false) ∷ kinds) mid told in
    subst F same (else_if_first s kinds negated e before mid told is (subst G (sym same) (same_blocks s ((kind, false) ∷ kinds) next mid told taken.1 r)))

else_before : (s : List ℕ) (kinds next : List BlockKind) (before mid : List Lexeme) (told : List TemplatePiece) → IsWordTag s (codes "else") before mid → after_closing plain_else kinds ≡ Some next → IsTail s next mid told → IsTail s kinds before (block_piece else_tag ∷ told)
else_before s [] next before mid told is opens r = absurd cc
else_before s ((kind, true) ∷ kinds) next before mid told is opens r = absurd cc
else_before s ((kind, false) ∷ kinds) next before mid told is opens r =
    let taken = if_taken (may_have_else kind) ((kind, true) ∷ kinds) next opens in
    else_first s kind kinds before mid told taken.0 is (same_blocks s ((kind, true) ∷ kinds) next mid told taken.1 r)

-- the last tag of a block before a tail: the innermost open block is one that it closes
end_closes : (s : List ℕ) (kind : Block) (has_else : Bool) (kinds : List BlockKind) (before mid : List Lexeme) (told : List TemplatePiece) → IsWordTag s (end_word kind) before mid → IsTail s kinds mid told → IsTail s ((kind, has_else) ∷ kinds) before (block_piece (end_tag kind) ∷ told)
end_closes s kind true kinds before mid told is r = end_first s (kind, true) kinds no_else before mid (block_piece (end_tag kind) ∷ told) told (is, refl) r
end_closes s kind false kinds before mid told is r = end_first s (kind, false) kinds no_else before mid (block_piece (end_tag kind) ∷ told) told (is, refl) r

end_before : (s : List ℕ) (ended : Block) (kinds next : List BlockKind) (before mid : List Lexeme) (told : List TemplatePiece) → IsWordTag s (end_word ended) before mid → after_closing (end_of ended) kinds ≡ Some next → IsTail s next mid told → IsTail s kinds before (block_piece (end_tag ended) ∷ told)
end_before s ended [] next before mid told is opens r = absurd cc
end_before s ended ((kind, has_else) ∷ kinds) next before mid told is opens r =
    let taken = if_taken (bytes_eq (end_word kind) (end_word ended)) kinds next opens in
    let F : Block → Type 0 = λ k. IsTail s ((k, has_else) ∷ kinds) before (block_piece (end_tag ended) ∷ told) in
    subst F (sym (same_end kind ended taken.0)) (end_closes s ended has_else kinds before mid told is (same_blocks s kinds next mid told taken.1 r))

-- one more piece before a tail
tag_before : (s : List ℕ) (tag : BlockTag) (kinds next : List BlockKind) (before mid : List Lexeme) (told : List TemplatePiece) → IsBlockTag s tag before mid → blocks_after_tag tag kinds ≡ Some next → IsTail s next mid told → IsTail s kinds before (block_piece tag ∷ told)
tag_before s (opening_tag opening e) kinds next before mid told is opens r =
    opening_first s kinds opening e before mid told is (same_blocks s ((opened_kind opening, false) ∷ kinds) next mid told opens r)
tag_before s (else_if_tag negated e) kinds next before mid told is opens r =
    else_if_before s kinds next negated e before mid told is opens r
tag_before s else_tag kinds next before mid told is opens r = else_before s kinds next before mid told is opens r
tag_before s (end_tag kind) kinds next before mid told is opens r = end_before s kind kinds next before mid told is opens r
tag_before s (include_tag name None) kinds next before mid told is opens r =
    statement_first s kinds (include name None) before mid (block_piece (include_tag name None) ∷ told) told is refl (same_blocks s kinds next mid told opens r)
tag_before s (include_tag name (Some e)) kinds next before mid told is opens r =
    statement_first s kinds (include name (Some e)) before mid (block_piece (include_tag name (Some e)) ∷ told) told is refl (same_blocks s kinds next mid told opens r)

piece_before : (s : List ℕ) (piece : TemplatePiece) (kinds next : List BlockKind) (before mid : List Lexeme) (told : List TemplatePiece) → IsPiece s piece before mid → blocks_after piece kinds ≡ Some next → IsTail s next mid told → IsTail s kinds before (piece ∷ told)
piece_before s (raw_piece span) kinds next before mid told is opens r =
    statement_first s kinds (raw span) before mid (raw_piece span ∷ told) told is refl (same_blocks s kinds next mid told opens r)
piece_before s (inline_piece e span) kinds next before mid told is opens r =
    statement_first s kinds (inline_expr e span) before mid (inline_piece e span ∷ told) told is refl (same_blocks s kinds next mid told opens r)
piece_before s (block_piece tag) kinds next before mid told is opens r = tag_before s tag kinds next before mid told is opens r

-- pieces that close these open blocks are such a tail
tail_of_pieces : (s : List ℕ) (kinds : List BlockKind) (pieces : List TemplatePiece) (before : List Lexeme) → ArePieces s pieces before [] → LeaveOpen kinds pieces [] → IsTail s kinds before pieces
tail_of_pieces s kinds [] before are leaves =
    let F : List BlockKind → Type 0 = λ v. IsTail s v before [] in subst F (sym leaves) (no_statements, are, refl)
tail_of_pieces s kinds (piece ∷ pieces) before are leaves =
    piece_before s piece kinds leaves.0 before are.0 pieces are.1 leaves.1 (tail_of_pieces s leaves.0 pieces are.0 are.2 leaves.2)

-- pieces with no open block before or after them have a tree, whose pieces they are
pub tree_of_pieces : (s : List ℕ) (pieces : List TemplatePiece) (before : List Lexeme) → ArePieces s pieces before [] → LeaveOpen [] pieces [] → (tree : Statements) × AreStatements s tree before [] × AreInPieces tree pieces []
tree_of_pieces s pieces before are leaves = tail_of_pieces s [] pieces before are leaves
