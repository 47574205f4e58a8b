use Rattle.std.proofs.Common.{rules, ap, ◌∙◌, ◌≡◌}
use Rattle.upon_tag_parser.specs.TagTokens.{is_minus}
use Rattle.upon_tag_parser.proofs.TagTokens.{rest_next}
use Rattle.upon_tag_parser.proofs.compile.parse.path.take.Goals as goal

pub returns-then-eq-clause-rest : goal.returns-then-eq-clause-rest
returns-then-eq-clause-rest c m = let e : c.in-Some.first.token ≡ c.args.token = search rules in rest_next c.in-Some.first c.in-Some.rest.now c.args.tokens.now c.in-Some.ensures (ap is_minus e ∙ m)
