use Rattle.upon_tag_parser.specs.TagTokens.{lexemes_of}
use Rattle.upon_tag_parser.proofs.TagTokens.{string_escapes}
use Rattle.upon_tag_parser.proofs.compile.parse.path.TagParser.parse_string.Goals as goal

pub string_at-requires-clause-escapes : goal.string_at-requires-clause-escapes
string_at-requires-clause-escapes c = string_escapes c.args.self.now.source.now c.args.tokens.now c.in_ok-span.span (lexemes_of c.in_ok-span.rest.now) c.requires.tokens c.in_ok-span.ensures.token
