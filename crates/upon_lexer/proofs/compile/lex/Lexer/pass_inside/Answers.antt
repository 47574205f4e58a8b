use Rattle.std.proofs.Common.{rules, ◌≡◌}
use Rattle.upon_lexer.specs.declared.compile.roles.Sort.TheVariants.{Comment}
use Rattle.upon_lexer.proofs.OpenModes.{inside_of}
use Rattle.upon_lexer.proofs.compile.lex.Lexer.pass_inside.Goals as goal

pub inside-requires-clause-mode : goal.inside-requires-clause-mode
inside-requires-clause-mode c =
    let no_comment : c.in_ok-tag.tag.sort ≡ Comment → ⊥ = search rules in
    inside_of c.args.self.now.tag c.in_ok-tag.tag c.in_ok-tag.was no_comment
