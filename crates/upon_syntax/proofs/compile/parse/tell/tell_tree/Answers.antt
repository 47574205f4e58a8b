use Rattle.std.proofs.Common.{◌≡◌, sym, ap, ◌∙◌, subst}
use Rattle.std.specs.Result.{OnOk}
use Rattle.upon_types.specs.Expression.{Expression}
use Rattle.upon_types.specs.Tree.{inline_expr}
use Rattle.upon_tag_parser.specs.TagTokens.{lexemes_of}
use Rattle.upon_tree.specs.Opened.{tree_reader_text}
use Rattle.upon_tree.specs.Statements.{TreeSoFar, builder_state, with_statement}
use Rattle.upon_syntax.specs.Pieces.{TemplatePiece, HoldsPiece}
use Rattle.upon_syntax.specs.TreeTold.{tree_after}
use Rattle.upon_syntax.proofs.TagExpressions.{in_inline}
use Rattle.upon_syntax.proofs.compile.parse.tell.tell_tree.Goals as goal

pub expression_after-requires : goal.expression_after-requires
expression_after-requires c =
    let (told, keeps, holds) = c.requires in
    let s = tree_reader_text c.args.trees.now in
    let (e, is) = rw c.in-InlineExpr.is at keeps in
    let F : TemplatePiece → Type 0 = λ t. HoldsPiece s t (lexemes_of c.args.tokens.now) in
    (e, in_inline s e c.in-InlineExpr.span (lexemes_of c.args.tokens.now) (subst F is holds))

pub returns-in_ok-expression_after-in-InlineExpr : goal.returns-in_ok-expression_after-in-InlineExpr
returns-in_ok-expression_after-in-InlineExpr c = λ told keeps holds.
    let s = tree_reader_text c.args.trees.now in
    let so = builder_state c.args.builder.now in
    let (e, is) = rw c.in-InlineExpr.is at keeps in
    let F : TemplatePiece → Type 0 = λ t. HoldsPiece s t (lexemes_of c.args.tokens.now) in
    let G : TreeSoFar → Type 0 = λ t. OnOk c.inline_expr.result (builder_state c.inline_expr.new.self ≡ t) in
    let x = in_inline s e c.in-InlineExpr.span (lexemes_of c.args.tokens.now) (subst F is holds) in
    subst G (ap (λ (f : Expression). with_statement (inline_expr f c.in-InlineExpr.span) so) (c.in_ok-expression_after-in-InlineExpr.ensures e x) ∙ ap (λ (t : TemplatePiece). tree_after t so) (sym is)) c.inline_expr.ensures
