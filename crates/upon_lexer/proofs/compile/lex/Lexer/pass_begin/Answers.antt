use Rattle.std.proofs.Common.{refl, ap, ◌∙◌}
use Rattle.upon_lexer.specs.OpenTags.{mode_of}
use Rattle.upon_lexer.specs.Roles.{sort_of}
use Rattle.upon_language_spec.specs.Delimiters.{has_hyphen}
use Rattle.upon_lexer.specs.Lexers.{lexer_text, lexer_delimiters, lexer_state}
use Rattle.upon_language_spec.specs.Tokens.{is_space}
use Rattle.upon_language_spec.proofs.NoTreeWithFault.NextToken.{begin_is_no_space}
use Rattle.upon_lexer.proofs.Passing.{begin_next, begin_given, begin_state}
use Rattle.upon_lexer.proofs.compile.lex.Lexer.pass_begin.Goals as goal

pub returns-clause-passed : goal.returns-clause-passed
returns-clause-passed c =
    let delimiters = lexer_delimiters c.args.self.now in
    let s = lexer_text c.args.self.now in
    let left = lexer_state c.args.self.now in
    let sort = sort_of c.in-Begin.sort in
    let token = c.begin_token-token.result in
    let is = c.begin_token-token.ensures in
    record {
      found = record { token = token; hyphen = has_hyphen c.args.kind; span = c.args.span };
      of_token = refl;
      next = begin_next delimiters s left c.args.kind sort token c.args.span is (ap mode_of c.requires.outside) c.requires.best.best c.requires.best.start c.in-Begin.ensures;
      of_span = begin_given delimiters s left c.args.kind sort token c.args.span is;
      state = begin_state delimiters s left c.args.kind sort token c.args.span is _ refl c.pass_token.ensures.mode c.pass_token.ensures.begin refl refl c.requires.not_over;
      counts = ap is_space is ∙ begin_is_no_space sort;
      not_over = c.requires.not_over;
    }
