use Rattle.std.proofs.Common.{arith}
use Rattle.std.proofs.lemmas.Grind.{common_steps}
use Rattle.upon_tag_parser.specs.TagTokens.{lexemes_of}
use Rattle.upon_tag_parser.proofs.TagTokens.{string_escapes}
use Rattle.upon_tag_parser.proofs.compile.parse.path.TagParser.parse_literal.Goals as goal

pub string_at-requires-clause-escapes : goal.string_at-requires-clause-escapes
string_at-requires-clause-escapes c = string_escapes c.args.self.now.source.now c.args.tokens.now c.in-Some-take.span (lexemes_of c.in-Some-take.rest.now) c.requires.tokens c.in-Some-take.ensures.token

-- the search finds no proof of these, and takes long
pub returns-in-Some-take_keyword-clause-shorter : goal.returns-in-Some-take_keyword-clause-shorter
returns-in-Some-take_keyword-clause-shorter = grind (arith, common_steps)

pub returns-in-Some-take-clause-shorter : goal.returns-in-Some-take-clause-shorter
returns-in-Some-take-clause-shorter = grind (arith, common_steps)
