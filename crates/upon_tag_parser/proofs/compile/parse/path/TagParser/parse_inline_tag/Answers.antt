use Rattle.std.proofs.Common.{◌∙◌, List, [], ◌∷◌, ◌++◌, true, ap, subst}
use Rattle.std.proofs.lemmas.Result.{err_from_is_err_and}
use Rattle.upon_compiler.specs.Program.{program_view}
use Rattle.upon_language_spec.specs.Parts.{a_base, filters, end_expr}
use Rattle.upon_tag_parser.specs.declared.compile.parse.want.Want.TheVariants as want
use Rattle.upon_tag_parser.specs.TagTokens.{lexemes_of}
use Rattle.upon_tag_parser.specs.TagParsing.{IsStuck}
use Rattle.upon_tag_parser.specs.Brackets.{StuckFrom}
use Rattle.upon_tag_parser.proofs.TagTokens.{tokens_rest}
use Rattle.upon_tag_parser.proofs.Stuck.{handed_on}
use Rattle.upon_types.specs.declared.types.token.Token.TheVariants.{EndExpr}
use Rattle.upon_language_spec.specs.Expressions.{IsExpression}
use Rattle.upon_language_spec.specs.Wanted.{an_end_expression}
use Rattle.upon_language_spec.specs.OpenParts.{ending_parts}
use Rattle.upon_language_spec.proofs.Wanted.ExpressionsLead.{base_takes}
use Rattle.upon_lexer.specs.declared.literal.Lexed.{Lexed}
use Rattle.upon_tag_parser.specs.Shown.{shown}
use Rattle.upon_tag_parser.specs.WholeTags.{IsTooLong}
use Rattle.upon_tag_parser.proofs.BaseStarts.{base_starts}
use Rattle.upon_tag_parser.proofs.Endings.{expression_ends}
use Rattle.upon_tag_parser.proofs.Shown.{expression_shown}
use Rattle.upon_tag_parser.proofs.Tags.{ends_here, too_long_stuck, inline_inside}
use Rattle.upon_tag_parser.proofs.compile.parse.path.TagParser.parse_inline_tag.Goals as goal

pub returns-in_err-rest-clause-stuck : goal.returns-in_err-rest-clause-stuck
returns-in_err-rest-clause-stuck c =
    handed_on c.from_residual.result c.in_err-rest.field-0.0 (StuckFrom c.args.self.now.source.now true (lexemes_of c.args.tokens.now)) (IsStuck c.args.self.now.source.now (a_base ∷ filters ∷ end_expr ∷ []) c.args.tokens.now)
    (err_from_is_err_and c.from_residual.result c.from_residual.ensures.1)
    (λ w left h. h (a_base ∷ filters ∷ end_expr ∷ []) (end_expr ∷ []) (base_starts c.args.self.now.source.now (filters ∷ end_expr ∷ []) (lexemes_of c.args.tokens.now)))
    c.in_err-rest.ensures.stuck

pub returns-in_err-expect_end-clause-stuck : goal.returns-in_err-expect_end-clause-stuck
returns-in_err-expect_end-clause-stuck c =
    let x = c.in_ok-rest.ensures.expression in
    let known = tokens_rest c.args.self.now.source.now c.args.tokens.now c.in_ok-rest.rest.now c.requires.tokens c.in_ok-rest.ensures.rest in
    handed_on c.from_residual-in_err-expect_end.result c.in_err-expect_end.field-0.0 (IsTooLong want.EndExpr c.in_ok-rest.rest.now) (IsStuck c.args.self.now.source.now (a_base ∷ filters ∷ end_expr ∷ []) c.args.tokens.now)
    (err_from_is_err_and c.from_residual-in_err-expect_end.result c.from_residual-in_err-expect_end.ensures.1)
    (λ w left h. too_long_stuck c.args.self.now.source.now (a_base ∷ filters ∷ end_expr ∷ []) (ending_parts x.reads.part.ending ++ filters ∷ end_expr ∷ []) c.args.tokens.now c.in_ok-rest.rest.now EndExpr want.EndExpr w left (x.reads.part.leads (a_base ∷ filters ∷ end_expr ∷ []) (end_expr ∷ []) (base_takes (filters ∷ end_expr ∷ []))) (expression_ends c.args.self.now.source.now x.reads.part.ending (lexemes_of c.in_ok-rest.rest.now) x.reads.part.quiet x.reads.no_more) known h)
    c.in_err-expect_end.ensures.stuck

pub returns-clause-leads : goal.returns-clause-leads
returns-clause-leads c =
    let x = c.in_ok-rest.ensures.expression in
    ends_here c.args.self.now.source.now (a_base ∷ filters ∷ end_expr ∷ []) (ending_parts x.reads.part.ending ++ filters ∷ end_expr ∷ []) (lexemes_of c.args.tokens.now) (lexemes_of c.in_ok-rest.rest.now) EndExpr an_end_expression (x.reads.part.leads (a_base ∷ filters ∷ end_expr ∷ []) (end_expr ∷ []) (base_takes (filters ∷ end_expr ∷ []))) (expression_ends c.args.self.now.source.now x.reads.part.ending (lexemes_of c.in_ok-rest.rest.now) x.reads.part.quiet x.reads.no_more) (ap lexemes_of c.in_ok-expect_end.ensures.end)

pub returns-clause-tag : goal.returns-clause-tag
returns-clause-tag c =
    let x = c.in_ok-rest.ensures.expression in
    let ts = (lexemes_of c.args.tokens.now) in
    record {
      tree = x.tree;
      inside = inline_inside c.args.self.now.source.now x.tree ts (subst (λ (rest : List Lexed). IsExpression c.args.self.now.source.now x.tree ts (lexemes_of rest)) c.in_ok-expect_end.ensures.end x.reads.part.reads);
      code = c.in_ok-show.ensures ∙ ap shown x.code ∙ expression_shown (program_view c.args.code.now.items) x.tree;
    }
