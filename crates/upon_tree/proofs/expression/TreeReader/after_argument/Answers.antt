use Rattle.upon_types.specs.Expression.{call}
use Rattle.std.proofs.Common.{refl, ◌∙◌, ap}
use Rattle.std.proofs.lemmas.Result.{err_from_is_err_and}
use Rattle.upon_language_spec.specs.Tokens.{from_to}
use Rattle.upon_tag_parser.proofs.Stuck.{handed_on}
use Rattle.upon_tag_parser.specs.TagParsing.{IsRefused}
use Rattle.upon_tag_parser.specs.TagTokens.{lexemes_of}
use Rattle.upon_tree.specs.Opened.{OpenTreeStuck}
use Rattle.upon_types.specs.AstPath.{ident_of}
use Rattle.upon_tree.specs.declared.opened.Open.TheVariants as opened
use Rattle.upon_tag_parser.specs.declared.compile.parse.want.Want.TheVariants as want
use Rattle.upon_types.specs.declared.types.token.Token.TheVariants as token
use Rattle.upon_tree.proofs.Calls as calls
use Rattle.upon_types.specs.declared.types.Span.{Span}
use Rattle.upon_tree.proofs.expression.TreeReader.after_argument.Goals as goal

pub returns-in-Some-clause-step : goal.returns-in-Some-clause-step
returns-in-Some-clause-step c whole from given =
    calls.argument_comma c.args.self.now.parser.source.now c.args.call c.push.new.self.items c.args.argument whole from (lexemes_of c.args.tokens.now) given c.in_ok-push.ensures.items (record { name = c.args.call.name; values = c.push.new.self }) (lexemes_of c.in-Some.rest.now) c.in-Some.field-0-0 c.in-Some.ensures.token refl refl

pub returns-in_err-closing-clause-stuck : goal.returns-in_err-closing-clause-stuck
returns-in_err-closing-clause-stuck c =
    handed_on c.from_residual-in_err-closing.result c.in_err-closing.field-0.0 (IsRefused token.CloseParen want.CloseParen c.args.tokens.now) (OpenTreeStuck c.args.self.now.parser.source.now (opened.Call c.args.call) c.args.argument (lexemes_of c.args.tokens.now))
    (err_from_is_err_and c.from_residual-in_err-closing.result c.from_residual-in_err-closing.ensures.1)
    (λ w left refused whole from given. calls.argument_stuck c.args.self.now.parser.source.now c.args.call c.args.argument whole from c.args.tokens.now left w given c.in_default.ensures.token refused)
    c.in_err-closing.ensures.stuck

pub returns-clause-step : goal.returns-clause-step
returns-clause-step c whole from given =
    let at : Span = record { m = c.args.call.name.span.m; n = c.span-n.result.n } in
    calls.argument_closes c.args.self.now.parser.source.now c.args.call c.push.new.self.items c.args.argument whole from (lexemes_of c.args.tokens.now) given c.in_ok-push.ensures.items c.call_base-base.result (lexemes_of c.in_ok-closing.rest.now) at c.in_ok-closing.closing c.in_default.ensures.token c.in_ok-closing.ensures.token (ap (λ (x : Span). record { m = c.args.call.name.span.m; n = x.n }) c.span-n.ensures) (c.call_base-base.ensures ∙ ap (λ x. call (ident_of c.args.call.name) x (from_to c.args.call.name.span c.in_ok-closing.closing)) c.arguments_at-args.ensures)
