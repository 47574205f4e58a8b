use Rattle.std.proofs.Common.{refl}
use Rattle.std.proofs.lemmas.Result.{err_from_is_err_and}
use Rattle.upon_tag_parser.proofs.Stuck.{handed_on}
use Rattle.upon_tag_parser.proofs.TagTokens.{rest_then}
use Rattle.upon_tag_parser.specs.TagParsing.{IsRefused}
use Rattle.upon_tag_parser.specs.TagTokens.{lexemes_of}
use Rattle.upon_tree.specs.Opened.{OpenTreeStuck}
use Rattle.upon_tree.specs.declared.opened.Open.TheVariants as opened
use Rattle.upon_tag_parser.specs.declared.compile.parse.want.Want.TheVariants as want
use Rattle.upon_types.specs.declared.types.token.Token.TheVariants as token
use Rattle.upon_tree.proofs.Lists as lists
use Rattle.upon_tree.proofs.expression.TreeReader.after_item.Goals as goal

pub returns-in-Some-clause-step : goal.returns-in-Some-clause-step
returns-in-Some-clause-step c whole from given =
    c.start_item.ensures.step whole from (lists.item_comma c.args.self.now.parser.source.now c.args.list (record { items = c.push.new.self; opening = c.args.list.opening }) c.args.item whole from (lexemes_of c.args.tokens.now) given refl c.in_ok-push.ensures.items (lexemes_of c.in-Some.rest.now) c.in-Some.field-0-0 c.in-Some.ensures.token)

pub returns-in-Some-clause-rest : goal.returns-in-Some-clause-rest
returns-in-Some-clause-rest c =
    rest_then (lexemes_of c.args.tokens.now) (lexemes_of c.in-Some.rest.now) (lexemes_of c.start_item.result.1.now) (c.in-Some.ensures.rest refl) c.start_item.ensures.rest

pub returns-in_err-closing-clause-stuck : goal.returns-in_err-closing-clause-stuck
returns-in_err-closing-clause-stuck c =
    handed_on c.from_residual-in_err-closing.result c.in_err-closing.field-0.0 (IsRefused token.CloseBracket want.CloseBracket c.args.tokens.now) (OpenTreeStuck c.args.self.now.parser.source.now (opened.List c.args.list) c.args.item (lexemes_of c.args.tokens.now))
    (err_from_is_err_and c.from_residual-in_err-closing.result c.from_residual-in_err-closing.ensures.1)
    (λ w left refused whole from given. lists.item_stuck c.args.self.now.parser.source.now c.args.list c.args.item whole from c.args.tokens.now left w given c.in_default.ensures.token refused)
    c.in_err-closing.ensures.stuck

pub returns-clause-step : goal.returns-clause-step
returns-clause-step c whole from given =
    lists.item_closes c.args.self.now.parser.source.now c.args.list (record { items = c.push.new.self; opening = c.args.list.opening }) c.args.item whole from (lexemes_of c.args.tokens.now) given refl c.in_ok-push.ensures.items c.closed_list.result (lexemes_of c.in_ok-closing.rest.now) c.in_ok-closing.closing c.in_ok-closing.ensures.token c.closed_list.ensures
