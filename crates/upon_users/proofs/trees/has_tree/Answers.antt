use Rattle.std.proofs.Common.{ℕ, List, sym, ap, ◌∙◌, subst}
use Rattle.upon_types.specs.Error.{kind_of}
use Rattle.upon_language_spec.specs.Grammar.{HasTree}
use Rattle.upon_language_spec.specs.Search.{DelimiterText}
use Rattle.upon_syntax.specs.Parsed.{syntax_of}
use Rattle.upon_users.proofs.trees.has_tree.Goals as goal

pub returns-in-Syntax-clause-no_tree : goal.returns-in-Syntax-clause-no_tree
returns-in-Syntax-clause-no_tree c = λ _ tree has.
    let F : List DelimiterText → Type 0 = λ d. HasTree d c.args.source.now tree in
    let G : List ℕ → Type 0 = λ s. HasTree (syntax_of c.new.result) s tree in
    let there = subst G (sym c.new.ensures.source) (subst F (sym c.new.ensures.syntax) has) in
    c.in-Err.ensures.no_tree (sym c.kind.ensures.fault ∙ ap kind_of c.in-Syntax.is) tree there
