use Rattle.std.proofs.Common.{◌+◌, refl}
use Rattle.std.proofs.lemmas.Result.{err_from_is_err_and}
use Rattle.upon_types.specs.declared.types.token.Token.TheVariants.{CloseParen}
use Rattle.upon_compiler.specs.Program.{program_view}
use Rattle.upon_language_spec.specs.Tokens.{from_to}
use Rattle.upon_tag_parser.specs.declared.compile.parse.want.Want.TheVariants as want
use Rattle.upon_tag_parser.specs.declared.compile.parse.brackets.Open.TheVariants as opened
use Rattle.upon_tag_parser.specs.TagParsing.{IsRefused}
use Rattle.upon_tag_parser.specs.Brackets.{place_of, OpenStuck}
use Rattle.upon_tag_parser.proofs.Stuck.{handed_on}
use Rattle.upon_tag_parser.proofs.Steps.Calls.{argument_comma, argument_closes, argument_stuck}
use Rattle.upon_tag_parser.proofs.compile.parse.path.TagParser.after_argument.Goals as goal

pub returns-in-Some-clause-step : goal.returns-in-Some-clause-step
returns-in-Some-clause-step c span whole from given =
    argument_comma c.args.self.now.source.now c.args.call whole span from (place_of c.args.tokens.now c.args.code.now.items) given (record { name = c.args.call.name; count = c.args.call.count + 1 }) (place_of c.in-Some.rest.now c.args.code.now.items) c.in-Some.field-0-0 c.in-Some.ensures.token refl refl refl

pub returns-in_err-closing-clause-stuck : goal.returns-in_err-closing-clause-stuck
returns-in_err-closing-clause-stuck c =
    handed_on c.from_residual.result c.in_err-closing.field-0.0 (IsRefused CloseParen want.CloseParen c.args.tokens.now) (OpenStuck c.args.self.now.source.now (opened.Call c.args.call) (place_of c.args.tokens.now c.args.code.now.items))
    (err_from_is_err_and c.from_residual.result c.from_residual.ensures.1)
    (λ w left refused span whole from given. argument_stuck c.args.self.now.source.now c.args.call whole span from (program_view c.args.code.now.items) c.args.tokens.now left w given c.in_default.ensures.token refused)
    c.in_err-closing.ensures.stuck

pub returns-clause-step : goal.returns-clause-step
returns-clause-step c span whole from given =
    argument_closes c.args.self.now.source.now c.args.call whole span from (place_of c.args.tokens.now c.args.code.now.items) given (place_of c.in_ok-closing.rest.now c.append.new.code.items) (c.args.call.count + 1) (from_to c.args.call.name.span c.in_ok-closing.closing) c.in_ok-closing.closing c.in_default.ensures.token c.in_ok-closing.ensures.token refl refl c.in_ok-append.ensures
