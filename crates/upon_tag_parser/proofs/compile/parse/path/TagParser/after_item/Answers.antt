use Rattle.std.proofs.Common.{refl, arith}
use Rattle.std.proofs.lemmas.Grind.{common_steps}
use Rattle.std.proofs.lemmas.Result.{err_from_is_err_and}
use Rattle.upon_types.specs.declared.types.token.Token.TheVariants.{CloseBracket}
use Rattle.upon_compiler.specs.Program.{program_view}
use Rattle.upon_tag_parser.specs.declared.compile.parse.want.Want.TheVariants as want
use Rattle.upon_tag_parser.specs.declared.compile.parse.brackets.Open.TheVariants as opened
use Rattle.upon_tag_parser.specs.TagTokens.{lexemes_of}
use Rattle.upon_tag_parser.specs.TagParsing.{IsRefused}
use Rattle.upon_tag_parser.specs.Brackets.{place_of, OpenStuck}
use Rattle.upon_tag_parser.proofs.TagTokens.{rest_then}
use Rattle.upon_tag_parser.proofs.Stuck.{handed_on}
use Rattle.upon_tag_parser.proofs.Steps.Lists.{item_comma, item_closes, item_stuck}
use Rattle.upon_tag_parser.proofs.compile.parse.path.TagParser.after_item.Goals as goal

pub returns-in-Some-clause-step : goal.returns-in-Some-clause-step
returns-in-Some-clause-step c span whole from given =
    c.start_item.ensures.step whole from (item_comma c.args.self.now.source.now c.args.start whole span from (place_of c.args.tokens.now c.args.code.now.items) given (place_of c.in-Some.rest.now c.append.new.code.items) c.in-Some.field-0-0 c.in-Some.ensures.token c.in_ok-append.ensures)

pub returns-in-Some-clause-rest : goal.returns-in-Some-clause-rest
returns-in-Some-clause-rest c =
    rest_then (lexemes_of c.args.tokens.now) (lexemes_of c.in-Some.rest.now) (lexemes_of c.start_item.result.1.now) (c.in-Some.ensures.rest refl) c.start_item.ensures.rest

pub returns-in_err-closing-clause-stuck : goal.returns-in_err-closing-clause-stuck
returns-in_err-closing-clause-stuck c =
    handed_on c.from_residual-in_err-closing.result c.in_err-closing.field-0.0 (IsRefused CloseBracket want.CloseBracket c.args.tokens.now) (OpenStuck c.args.self.now.source.now (opened.List c.args.start) (place_of c.args.tokens.now c.args.code.now.items))
    (err_from_is_err_and c.from_residual-in_err-closing.result c.from_residual-in_err-closing.ensures.1)
    (λ w left refused span whole from given. item_stuck c.args.self.now.source.now c.args.start whole span from (program_view c.args.code.now.items) c.args.tokens.now left w given c.in_default.ensures.token refused)
    c.in_err-closing.ensures.stuck

pub returns-clause-step : goal.returns-clause-step
returns-clause-step c span whole from given =
    item_closes c.args.self.now.source.now c.args.start whole span from (place_of c.args.tokens.now c.args.code.now.items) given (place_of c.in_ok-closing.rest.now c.close_list.new.code.items) (program_view c.append.new.code.items) c.in_ok-closing.closing c.close_list.result c.in_ok-closing.ensures.token c.in_ok-append.ensures c.close_list.ensures.code c.close_list.ensures.span

-- the search finds no proof of these, and takes long
pub start_item-requires : goal.start_item-requires
start_item-requires = grind (arith, common_steps)

pub close_list-requires : goal.close_list-requires
close_list-requires = grind (arith, common_steps)

pub returns-clause-shorter : goal.returns-clause-shorter
returns-clause-shorter = grind (arith, common_steps)
