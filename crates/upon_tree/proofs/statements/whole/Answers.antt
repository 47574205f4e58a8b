use Rattle.std.proofs.Common.{◌≡◌, ◌∙◌, ◌⊎◌, inl, inr, Option, Some, None, ap, refl}
use Rattle.upon_types.specs.declared.types.ast.path.Ident.{Ident}
use Rattle.upon_types.specs.AstPath.{ident_of}
use Rattle.upon_types.specs.Tree.{with}
use Rattle.upon_tree.specs.Ast.{scope_tree}
use Rattle.upon_tree.specs.AstExpression.{expression_tree}
use Rattle.upon_tree.specs.declared.ast.Scope.{Scope}
use Rattle.upon_tree.specs.declared.ast.expression.Expr.{Expr}
use Rattle.upon_tree.proofs.Trees.{view-With, with_tree-out}
use Rattle.upon_tag_parser.specs.BlockTags.{opening_of}
use Rattle.upon_tag_parser.specs.declared.compile.parse.kind.Opening.{Opening}
use Rattle.upon_tag_parser.specs.declared.compile.parse.kind.Opening.TheVariants as opens
use Rattle.upon_tree.specs.Statements.{whole_block, branch_of}
use Rattle.upon_tree.proofs.statements.whole.Goals as goal
use Rattle.upon_tree.proofs.statements.whole.Goals.{in-None, in-Some}

-- the one branch of a `with` is the last, or the first of two
with_whole : (opening : Opening) (e : Expr) (name : Ident) (first : Option Scope) (last body : Scope) → opening ≡ opens.With name → ((first ≡ None) × (body ≡ last)) ⊎ ((s : Scope) × (first ≡ Some s) × (body ≡ s)) → with (expression_tree e) (ident_of name) (scope_tree body) ≡ whole_block (opening_of opening) (expression_tree e) (branch_of first) (scope_tree last)
with_whole opening e name first last body is (inl (none, same)) = rw (is, none, same) refl
with_whole opening e name first last body is (inr (s, some, same)) = rw (is, some, same) refl

pub returns-in-With : goal.returns-in-With
returns-in-With c =
    let body = c.match-first.body.0 in
    let cases : ((c.args.first ≡ None) × (body ≡ c.args.last)) ⊎ ((s : Scope) × (c.args.first ≡ Some s) × (body ≡ s)) = elim c.match-first.branch [
      | in-None w ↦ inl (w.in-None.is, ap (λ x. x.0) w.body-is)
      | in-Some w ↦ inr (w.in-Some.first, w.in-Some.is, ap (λ x. x.0) w.body-is)
    ] in
    view-With _ ∙ with_tree-out _ ∙ with_whole c.args.opening c.args.expr c.in-With.name c.args.first c.args.last body c.in-With.is cases
