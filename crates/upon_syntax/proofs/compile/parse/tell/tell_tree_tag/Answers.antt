use Rattle.std.proofs.Common.{◌≡◌, Some, false, refl, sym, ap, ◌∙◌, subst}
use Rattle.std.specs.Result.{OnOk}
use Rattle.upon_types.specs.AstPath.{string_of, loop_vars_of}
use Rattle.upon_types.specs.BlockKinds.{for_tag}
use Rattle.upon_types.specs.Expression.{Expression}
use Rattle.upon_types.specs.Tree.{include}
use Rattle.upon_tag_parser.specs.BlockTags.{BlockTag, else_if_tag, include_tag}
use Rattle.upon_tag_parser.specs.TagTokens.{lexemes_of}
use Rattle.upon_tree.specs.AstExpression.{expression_tree}
use Rattle.upon_tree.specs.Opened.{tree_reader_text}
use Rattle.upon_tree.specs.Statements.{TreeSoFar, builder_state, block_opened, tree_else_if_begun, with_statement}
use Rattle.upon_syntax.specs.TreeTold.{tree_after_tag}
use Rattle.upon_syntax.proofs.TagExpressions.{counted_in, told_opening}
use Rattle.upon_syntax.proofs.compile.parse.tell.tell_tree_tag.Goals as goal

pub expression_after-requires : goal.expression_after-requires
expression_after-requires c =
    let (told, keeps, holds) = c.requires in
    let (e, is) = rw c.in-If.is at keeps in
    (e, counted_in (tree_reader_text c.args.trees.now) _ told _ e (lexemes_of c.args.tokens.now) is refl (c.tokens_before_expression-count.ensures told keeps) holds)

pub expression_after-requires-in-ElseIf : goal.expression_after-requires-in-ElseIf
expression_after-requires-in-ElseIf c =
    let (told, keeps, holds) = c.requires in
    let (e, is) = rw c.in-ElseIf.is at keeps in
    (e, counted_in (tree_reader_text c.args.trees.now) _ told (else_if_tag c.in-ElseIf.not e) e (lexemes_of c.args.tokens.now) is refl (c.tokens_before_expression-count.ensures told keeps) holds)

pub expression_after-requires-in-For : goal.expression_after-requires-in-For
expression_after-requires-in-For c =
    let (told, keeps, holds) = c.requires in
    let (e, is, span) = rw c.in-For.is at keeps in
    (e, counted_in (tree_reader_text c.args.trees.now) _ told _ e (lexemes_of c.args.tokens.now) is refl (c.tokens_before_expression-count.ensures told keeps) holds)

pub expression_after-requires-in-With : goal.expression_after-requires-in-With
expression_after-requires-in-With c =
    let (told, keeps, holds) = c.requires in
    let (e, is) = rw c.in-With.is at keeps in
    (e, counted_in (tree_reader_text c.args.trees.now) _ told _ e (lexemes_of c.args.tokens.now) is refl (c.tokens_before_expression-count.ensures told keeps) holds)

pub expression_after-requires-in-IncludeWith : goal.expression_after-requires-in-IncludeWith
expression_after-requires-in-IncludeWith c =
    let (told, keeps, holds) = c.requires in
    let (e, is) = rw c.in-IncludeWith.is at keeps in
    (e, counted_in (tree_reader_text c.args.trees.now) _ told (include_tag (string_of c.in-IncludeWith.name) (Some e)) e (lexemes_of c.args.tokens.now) is refl (c.tokens_before_expression-count.ensures told keeps) holds)

pub returns-in_ok-expression_after-in-If : goal.returns-in_ok-expression_after-in-If
returns-in_ok-expression_after-in-If c = λ told keeps holds.
    let so = builder_state c.args.builder.now in
    let (e, is) = rw c.in-If.is at keeps in
    let x = counted_in (tree_reader_text c.args.trees.now) _ told _ e (lexemes_of c.args.tokens.now) is refl (c.tokens_before_expression-count.ensures told keeps) holds in
    let F : TreeSoFar → Type 0 = λ t. OnOk c.begin.result (builder_state c.begin.new.self ≡ t) in
    subst F (told_opening told _ e _ so is (c.in_ok-expression_after-in-If.ensures e x)) c.begin.ensures

pub returns-in_ok-expression_after-in-ElseIf : goal.returns-in_ok-expression_after-in-ElseIf
returns-in_ok-expression_after-in-ElseIf c = λ told keeps holds.
    let so = builder_state c.args.builder.now in
    let (e, is) = rw c.in-ElseIf.is at keeps in
    let x = counted_in (tree_reader_text c.args.trees.now) _ told (else_if_tag c.in-ElseIf.not e) e (lexemes_of c.args.tokens.now) is refl (c.tokens_before_expression-count.ensures told keeps) holds in
    let F : TreeSoFar → Type 0 = λ t. OnOk c.else_if.result (builder_state c.else_if.new.self ≡ t) in
    subst F (ap (λ (f : Expression). tree_else_if_begun c.in-ElseIf.not f so) (c.in_ok-expression_after-in-ElseIf.ensures e x) ∙ ap (λ (t : BlockTag). tree_after_tag t so) (sym is)) c.else_if.ensures

pub returns-in_ok-iterable-in-For : goal.returns-in_ok-iterable-in-For
returns-in_ok-iterable-in-For c = λ told keeps holds.
    let so = builder_state c.args.builder.now in
    let (e, is, span) = rw c.in-For.is at keeps in
    let x = counted_in (tree_reader_text c.args.trees.now) _ told _ e (lexemes_of c.args.tokens.now) is refl (c.tokens_before_expression-count.ensures told keeps) holds in
    let F : TreeSoFar → Type 0 = λ t. OnOk c.begin-in-For.result (builder_state c.begin-in-For.new.self ≡ t) in
    subst F (ap (λ v. block_opened false (for_tag (loop_vars_of v)) (expression_tree c.in_ok-iterable-in-For.iterable) so) c.into_inner.ensures ∙ told_opening told _ e _ so is (c.in_ok-iterable-in-For.ensures e x)) c.begin-in-For.ensures

pub returns-in_ok-expression_after-in-With : goal.returns-in_ok-expression_after-in-With
returns-in_ok-expression_after-in-With c = λ told keeps holds.
    let so = builder_state c.args.builder.now in
    let (e, is) = rw c.in-With.is at keeps in
    let x = counted_in (tree_reader_text c.args.trees.now) _ told _ e (lexemes_of c.args.tokens.now) is refl (c.tokens_before_expression-count.ensures told keeps) holds in
    let F : TreeSoFar → Type 0 = λ t. OnOk c.begin-in-With.result (builder_state c.begin-in-With.new.self ≡ t) in
    subst F (told_opening told _ e _ so is (c.in_ok-expression_after-in-With.ensures e x)) c.begin-in-With.ensures

pub returns-in_ok-globals-in-IncludeWith : goal.returns-in_ok-globals-in-IncludeWith
returns-in_ok-globals-in-IncludeWith c = λ told keeps holds.
    let so = builder_state c.args.builder.now in
    let (e, is) = rw c.in-IncludeWith.is at keeps in
    let x = counted_in (tree_reader_text c.args.trees.now) _ told (include_tag (string_of c.in-IncludeWith.name) (Some e)) e (lexemes_of c.args.tokens.now) is refl (c.tokens_before_expression-count.ensures told keeps) holds in
    let F : TreeSoFar → Type 0 = λ t. OnOk c.include-in-IncludeWith.result (builder_state c.include-in-IncludeWith.new.self ≡ t) in
    subst F (ap (λ (f : Expression). with_statement (include (string_of c.in-IncludeWith.name) (Some f)) so) (c.in_ok-globals-in-IncludeWith.ensures e x) ∙ ap (λ (t : BlockTag). tree_after_tag t so) (sym is)) c.include-in-IncludeWith.ensures
