use Rattle.std.proofs.Common.{refl, sym, subst}
use Rattle.upon_tag_parser.proofs.TagTokens.{rest_then}
use Rattle.upon_tag_parser.specs.TagParsing.{ReadsBase}
use Rattle.upon_tag_parser.specs.TagTokens.{lexemes_of}
use Rattle.upon_types.specs.Expression.{Base}
use Rattle.upon_tag_parser.proofs.Bases as bases
use Rattle.upon_tree.proofs.expression.TreeReader.start_name.Goals as goal

pub returns-in_ok-path-in-None-clause-step : goal.returns-in_ok-path-in-None-clause-step
returns-in_ok-path-in-None-clause-step c whole before g =
    let path = c.in_ok-path-in-None.path in
    let F : Base → Type 0 = λ x. ReadsBase c.args.self.now.parser.source.now x before (lexemes_of c.in_ok-path-in-None.left.now) in
    subst F (sym c.path_base.ensures) (c.in_ok-path-in-None.ensures.path before (bases.name_goes c.args.self.now.parser.source.now c.in_ok-name.name c.args.span before (lexemes_of c.args.tokens.now) c.in_ok-name.ensures.text c.in_ok-name.ensures.span g) c.in-None.ensures.token)

pub returns-in-Some-clause-step : goal.returns-in-Some-clause-step
returns-in-Some-clause-step c whole before g =
    c.start_call.ensures.step whole before (lexemes_of c.args.tokens.now) (bases.name_goes c.args.self.now.parser.source.now c.in_ok-name.name c.args.span before (lexemes_of c.args.tokens.now) c.in_ok-name.ensures.text c.in_ok-name.ensures.span g) (c.in-Some.field-0-0, c.in-Some.ensures.token)

pub returns-in-Some-clause-rest : goal.returns-in-Some-clause-rest
returns-in-Some-clause-rest c =
    rest_then (lexemes_of c.args.tokens.now) (lexemes_of c.in-Some.rest.now) _ (c.in-Some.ensures.rest refl) c.start_call.ensures.rest
