use Rattle.std.proofs.Common.{◌≡◌, ℕ, List, [], ◌∷◌, ◌++◌, length, true, false, sym, ap, ◌∙◌, subst, arith}
use Rattle.upon_language_spec.specs.Cut.{Lexeme}
use Rattle.upon_language_spec.specs.Search.{DelimiterText}
use Rattle.upon_compiler.specs.Compiler.{compiler_state}
use Rattle.upon_syntax.specs.PieceReading.{text_of_reader, pieces_delimiters, pieces_state, pieces_blocks, pieces_tokens, PiecesSoFar}
use Rattle.upon_syntax.specs.Pieces.{HoldsPiece}
use Rattle.upon_syntax.specs.TagReading.{HasPieces}
use Rattle.upon_syntax.proofs.BuiltTrees.{built_more}
use Rattle.upon_syntax.proofs.NextTokens.{over}
use Rattle.upon_syntax.proofs.Told.{HasTold, found_told, program_of_pieces}
use Rattle.upon_syntax.proofs.compile.parse.program.read_pieces.Goals as goal

pub tell_tree-requires : goal.tell_tree-requires
tell_tree-requires c =
    let (found, so_far, compiled, built) = c.pieces.invariant.found in
    let on = rw c.in-OnePiece.is at c.in_ok-piece.ensures.found found so_far in
    let F : List ℕ → Type 0 = λ s. HoldsPiece s on.piece (pieces_tokens c.next.new.self) in
    let G : List Lexeme → Type 0 = λ ts. HoldsPiece c.args.source.now on.piece ts in
    (on.piece, on.keeps, subst G (sym c.tag_tokens.ensures) (subst F c.pieces.invariant.text on.holds))

pub pieces-smaller-then-is_tree : goal.pieces-smaller-then-is_tree
pieces-smaller-then-is_tree c =
    let (found, so_far, compiled, built) = c.pieces.invariant.found in
    let on = rw c.in-OnePiece.is at c.in_ok-piece.ensures.found found so_far in
    let same : length (text_of_reader c.next.new.self) ≡ length (text_of_reader c.pieces.reader) = ap (λ (s : List ℕ). length s) c.in_ok-piece.ensures.keeps.text in
    omega (arith, same, on.gone.further, on.gone.within)

pub pieces-preserved-then-is_tree : goal.pieces-preserved-then-is_tree
pieces-preserved-then-is_tree c =
    let (found, so_far, compiled, built) = c.pieces.invariant.found in
    let s = text_of_reader c.pieces.reader in
    let reader = c.next.new.self in
    let on = rw c.in-OnePiece.is at c.in_ok-piece.ensures.found found so_far in
    let F : List DelimiterText → List ℕ → Type 0 = λ x y. PiecesSoFar x y (pieces_state reader) (pieces_blocks reader) (found ++ on.piece ∷ []) in
    let G : List ℕ → Type 0 = λ x. HoldsPiece x on.piece (pieces_tokens reader) in
    let H : List Lexeme → Type 0 = λ ts. HoldsPiece c.args.source.now on.piece ts in
    let holds = subst H (sym c.tag_tokens.ensures) (subst G c.pieces.invariant.text on.holds) in
    record {
      text = c.in_ok-piece.ensures.keeps.text ∙ c.pieces.invariant.text;
      delimiters = c.in_ok-piece.ensures.keeps.delimiters ∙ c.pieces.invariant.delimiters;
      empty = c.clear.ensures.items;
      found = (
        found ++ on.piece ∷ [],
        over F (pieces_delimiters c.pieces.reader) (pieces_delimiters reader) s (text_of_reader reader) c.in_ok-piece.ensures.keeps.delimiters c.in_ok-piece.ensures.keeps.text on.gone.so_far,
        λ no_tree. let both : true ≡ false = sym c.if-is_tree.true ∙ no_tree in absurd cc,
        λ _. built_more found on.piece c.pieces.builder c.tell_tree.new.builder (built c.if-is_tree.true) (c.in_ok-tell_tree-in-OnePiece.ensures on.piece on.keeps holds),
      );
    }

pub pieces-smaller-in-Continue-branch-4 : goal.pieces-smaller-in-Continue-branch-4
pieces-smaller-in-Continue-branch-4 c =
    let (found, so_far, compiled, built) = c.pieces.invariant.found in
    let on = rw c.in-OnePiece-2.is at c.in_ok-piece.ensures.found found so_far in
    let same : length (text_of_reader c.next.new.self) ≡ length (text_of_reader c.pieces.reader) = ap (λ (s : List ℕ). length s) c.in_ok-piece.ensures.keeps.text in
    omega (arith, same, on.gone.further, on.gone.within)

pub pieces-preserved-in-Continue-branch-4 : goal.pieces-preserved-in-Continue-branch-4
pieces-preserved-in-Continue-branch-4 c =
    let (found, so_far, compiled, built) = c.pieces.invariant.found in
    let delimiters = pieces_delimiters c.pieces.reader in
    let s = text_of_reader c.pieces.reader in
    let reader = c.next.new.self in
    let old = compiler_state c.pieces.compiler in
    let new = compiler_state c.tell.new.compiler in
    let on = rw c.in-OnePiece.is at c.in_ok-piece.ensures.found found so_far in
    let said = c.in_ok-tell-in-OnePiece-2.ensures in
    let both = found_told delimiters s (pieces_state c.pieces.reader) (pieces_state reader) (pieces_blocks reader) found (pieces_tokens reader) c.pieces.code.items c.next.new.code.items c.tell.new.code.items c.in-OnePiece.piece old new on c.pieces.invariant.empty (compiled c.if-is_tree.false) said.state said.moved in
    let F : List DelimiterText → List ℕ → Type 0 = λ x y. HasTold x y (pieces_state reader) (pieces_blocks reader) new in
    let (more, so_more, told) = over F delimiters (pieces_delimiters reader) s (text_of_reader reader) c.in_ok-piece.ensures.keeps.delimiters c.in_ok-piece.ensures.keeps.text both.1 in
    record {
      text = c.in_ok-piece.ensures.keeps.text ∙ c.pieces.invariant.text;
      delimiters = c.in_ok-piece.ensures.keeps.delimiters ∙ c.pieces.invariant.delimiters;
      empty = both.0;
      found = (more, so_more, λ _. told, λ is_tree. let both : true ≡ false = sym is_tree ∙ c.if-is_tree.false in absurd cc);
    }

pub pieces-smaller : goal.pieces-smaller
pieces-smaller c =
    let (found, so_far, compiled, built) = c.pieces.invariant.found in
    let on = rw c.in-Comment.is at c.in_ok-piece.ensures.found found so_far in
    let same : length (text_of_reader c.next.new.self) ≡ length (text_of_reader c.pieces.reader) = ap (λ (s : List ℕ). length s) c.in_ok-piece.ensures.keeps.text in
    omega (arith, same, on.0.further, on.0.within)

pub pieces-preserved : goal.pieces-preserved
pieces-preserved c =
    let (found, so_far, compiled, built) = c.pieces.invariant.found in
    let on = rw c.in-Comment.is at c.in_ok-piece.ensures.found found so_far in
    let s = text_of_reader c.pieces.reader in
    let reader = c.next.new.self in
    let F : List DelimiterText → List ℕ → Type 0 = λ x y. PiecesSoFar x y (pieces_state reader) (pieces_blocks reader) found in
    record {
      text = c.in_ok-piece.ensures.keeps.text ∙ c.pieces.invariant.text;
      delimiters = c.in_ok-piece.ensures.keeps.delimiters ∙ c.pieces.invariant.delimiters;
      empty = on.1 ∙ c.pieces.invariant.empty;
      found = (found, over F (pieces_delimiters c.pieces.reader) (pieces_delimiters reader) s (text_of_reader reader) c.in_ok-piece.ensures.keeps.delimiters c.in_ok-piece.ensures.keeps.text on.0.so_far, compiled, built);
    }

pub returns-in-End-clause-program : goal.returns-in-End-clause-program
returns-in-End-clause-program c = λ no_tree.
    let (found, so_far, compiled, built) = c.pieces.invariant.found in
    let end = rw c.in-End.is at c.in_ok-piece.ensures.found found so_far in
    let F : List DelimiterText → List ℕ → Type 0 = λ x y. HasPieces x y found in
    let has = over F (pieces_delimiters c.pieces.reader) _ (text_of_reader c.pieces.reader) _ (sym c.pieces.invariant.delimiters) (sym c.pieces.invariant.text) end.0 in
    program_of_pieces _ _ found c.finish.result.items (compiler_state c.pieces.compiler) has end.1 (compiled no_tree) c.finish.ensures

pub returns-in-End-clause-tree : goal.returns-in-End-clause-tree
returns-in-End-clause-tree c = λ is_tree.
    let (found, so_far, compiled, built) = c.pieces.invariant.found in
    let end = rw c.in-End.is at c.in_ok-piece.ensures.found found so_far in
    let F : List DelimiterText → List ℕ → Type 0 = λ x y. HasPieces x y found in
    let has = over F (pieces_delimiters c.pieces.reader) _ (text_of_reader c.pieces.reader) _ (sym c.pieces.invariant.delimiters) (sym c.pieces.invariant.text) end.0 in
    record { pieces = found; has = has; closed = end.1; built = built is_tree }
