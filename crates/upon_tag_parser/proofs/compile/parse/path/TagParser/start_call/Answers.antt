use Rattle.std.proofs.Common.{refl}
use Rattle.upon_types.specs.AstPath.{ident_of}
use Rattle.upon_language_spec.specs.Tokens.{from_to}
use Rattle.upon_tag_parser.specs.Brackets.{place_of}
use Rattle.upon_tag_parser.proofs.Steps.Calls.{call_begun, call_empty}
use Rattle.upon_tag_parser.proofs.compile.parse.path.TagParser.start_call.Goals as goal

pub returns-in-None-clause-step : goal.returns-in-None-clause-step
returns-in-None-clause-step c whole before paren named opens =
    call_begun c.args.self.now.source.now (record { name = c.args.name; count = 0 }) before paren (place_of c.args.tokens.now c.args.code.now.items) refl named opens c.in-None.ensures.token

pub returns-in_ok-append-in-Some-clause-step : goal.returns-in_ok-append-in-Some-clause-step
returns-in_ok-append-in-Some-clause-step c whole before paren named opens =
    call_empty c.args.self.now.source.now (ident_of c.args.name) before paren (place_of c.args.tokens.now c.args.code.now.items) (place_of c.in-Some.rest.now c.append.new.code.items) (from_to c.args.name.span c.in-Some.closing) c.in-Some.closing named opens c.in-Some.ensures.token refl c.in_ok-append-in-Some.ensures
