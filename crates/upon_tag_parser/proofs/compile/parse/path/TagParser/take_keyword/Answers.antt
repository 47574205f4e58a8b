use Rattle.std.proofs.Common.{rules, ap, ◌≡◌}
use Rattle.upon_types.specs.declared.types.token.Token.TheVariants.{Keyword}
use Rattle.upon_tag_parser.specs.TagTokens.{is_minus}
use Rattle.upon_tag_parser.proofs.TagTokens.{rest_next}
use Rattle.upon_tag_parser.proofs.compile.parse.path.TagParser.take_keyword.Goals as goal

pub returns-then-eq-2-clause-rest : goal.returns-then-eq-2-clause-rest
returns-then-eq-2-clause-rest c = let e : c.in-Some.first.token ≡ Keyword = search rules in rest_next c.in-Some.first c.in-Some.rest.now c.args.tokens.now c.in-Some.ensures (ap is_minus e)
