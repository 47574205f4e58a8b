use Rattle.std.proofs.Common.{refl}
use Rattle.upon_types.specs.AstPath.{first_member, rest_members}
use Rattle.upon_types.specs.Expression.{var}
use Rattle.upon_tag_parser.specs.TagTokens.{lexemes_of}
use Rattle.upon_tag_parser.proofs.TagTokens.{rest_then}
use Rattle.upon_tag_parser.proofs.Bases.{name_goes}
use Rattle.upon_tag_parser.proofs.compile.parse.path.TagParser.start_name.Goals as goal

pub returns-in_ok-span-in-None-clause-step : goal.returns-in_ok-span-in-None-clause-step
returns-in_ok-span-in-None-clause-step c whole before g =
    let path = c.in_ok-path-in-None.path in
    record {
      tree = var (first_member path) (rest_members path);
      reads = c.in_ok-path-in-None.ensures.path before (name_goes c.args.self.now.source.now c.in_ok-name.name c.args.span before (lexemes_of c.args.tokens.now) c.in_ok-name.ensures.text c.in_ok-name.ensures.span g) c.in-None.ensures.token;
      code = c.in_ok-span-in-None.ensures.code;
      is_at = c.in_ok-span-in-None.ensures.span;
    }

pub returns-in_ok-start_call-in-Some-clause-step : goal.returns-in_ok-start_call-in-Some-clause-step
returns-in_ok-start_call-in-Some-clause-step c whole before g =
    c.in_ok-start_call-in-Some.ensures.step whole before (lexemes_of c.args.tokens.now) (name_goes c.args.self.now.source.now c.in_ok-name.name c.args.span before (lexemes_of c.args.tokens.now) c.in_ok-name.ensures.text c.in_ok-name.ensures.span g) (c.in-Some.field-0-0, c.in-Some.ensures.token)

pub returns-in_ok-start_call-in-Some-clause-rest : goal.returns-in_ok-start_call-in-Some-clause-rest
returns-in_ok-start_call-in-Some-clause-rest c =
    rest_then (lexemes_of c.args.tokens.now) (lexemes_of c.in-Some.rest.now) _ (c.in-Some.ensures.rest refl) c.in_ok-start_call-in-Some.ensures.rest
