use Rattle.upon_tag_parser.specs.TagTokens.{lexemes_of}
use Rattle.upon_tree.proofs.Calls as calls
use Rattle.upon_tree.proofs.expression.TreeReader.start_call.Goals as goal

pub returns-in-None-clause-step : goal.returns-in-None-clause-step
returns-in-None-clause-step c whole before paren named opens =
    calls.call_begun c.args.self.now.parser.source.now (record { name = c.args.name; values = c.new-values.result }) before paren (lexemes_of c.args.tokens.now) c.new-values.ensures.items named opens c.in-None.ensures.token

pub returns-in-Some-clause-step : goal.returns-in-Some-clause-step
returns-in-Some-clause-step c whole before paren named opens =
    calls.call_empty c.args.self.now.parser.source.now c.args.name c.call_without_arguments.result before paren (lexemes_of c.args.tokens.now) (lexemes_of c.in-Some.rest.now) c.in-Some.closing named opens c.in-Some.ensures.token c.call_without_arguments.ensures
