use Rattle.std.proofs.Common.{sym, ap, subst}
use Rattle.upon_language_spec.specs.Grammar.{HasTree}
use Rattle.upon_users.proofs.Hello.{hello_text, tree, hello_tree, hello_sent}
use Rattle.upon_users.proofs.built.hello_to.Goals as goal

pub returns : goal.returns
returns g c =
    let has = subst (λ d. HasTree d hello_text tree) (sym (ap (λ t. t.syntax) c.new-engine.ensures)) hello_tree in
    hello_sent _ c.args.name.now _ c.render_text_to.result _ _ c.new-engine.ensures c.in_ok-context.ensures (c.render_text_to.ensures.means tree has)
