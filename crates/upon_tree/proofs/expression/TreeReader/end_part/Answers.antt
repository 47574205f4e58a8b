use Rattle.std.proofs.lemmas.Result.{err_from_is_err_and}
use Rattle.upon_tag_parser.proofs.Stuck.{handed_on}
use Rattle.upon_tag_parser.specs.TagParsing.{IsRefused}
use Rattle.upon_tag_parser.specs.TagTokens.{lexemes_of}
use Rattle.upon_tree.specs.Opened.{EndTreeStuck}
use Rattle.upon_tag_parser.specs.declared.compile.parse.want.Want.TheVariants as want
use Rattle.upon_types.specs.declared.types.token.Token.TheVariants as token
use Rattle.upon_tree.proofs.Filters as steps
use Rattle.upon_tree.proofs.expression.TreeReader.end_part.Goals as goal

pub returns-in-None-clause-step : goal.returns-in-None-clause-step
returns-in-None-clause-step c whole from start begins h =
    steps.whole_ends c.args.self.now.parser.source.now whole c.args.expr from start (lexemes_of c.args.tokens.now) (rw c.in-None.is at begins) h

pub returns-in_err-closing-in-Some-clause-stuck : goal.returns-in_err-closing-in-Some-clause-stuck
returns-in_err-closing-in-Some-clause-stuck c =
    handed_on c.from_residual.result c.in_err-closing-in-Some.field-0.0 (IsRefused token.CloseParen want.CloseParen c.args.tokens.now) (EndTreeStuck c.args.self.now.parser.source.now c.args.opening c.args.expr (lexemes_of c.args.tokens.now))
    (err_from_is_err_and c.from_residual.result c.from_residual.ensures.1)
    (λ w left refused whole from start begins h. steps.paren_open_stuck c.args.self.now.parser.source.now c.args.expr whole c.in-Some.opening from start c.args.tokens.now left w (rw c.in-Some.is at begins) h refused)
    c.in_err-closing-in-Some.ensures.stuck

pub returns-in_ok-paren_base-in-Some-clause-step : goal.returns-in_ok-paren_base-in-Some-clause-step
returns-in_ok-paren_base-in-Some-clause-step c whole from start begins h =
    steps.paren_closes c.args.self.now.parser.source.now c.args.expr c.in_ok-paren_base-in-Some.field-0 whole c.in-Some.opening c.in_ok-closing-in-Some.closing from start (lexemes_of c.args.tokens.now) (lexemes_of c.in_ok-closing-in-Some.rest.now) (rw c.in-Some.is at begins) h c.in_ok-closing-in-Some.ensures.token c.in_ok-paren_base-in-Some.ensures
