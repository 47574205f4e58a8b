use Rattle.std.proofs.Common.{Bool, List}
use Rattle.upon_language_spec.specs.Cut.{Lexeme}
use Rattle.upon_language_spec.specs.Tokens.{Goes}
use Rattle.upon_tag_parser.proofs.Stuck.{ok_map}
use Rattle.upon_tag_parser.specs.TagTokens.{lexemes_of}
use Rattle.upon_tree.specs.Opened.{IsTreeStep, MapTreeGoesOn}
use Rattle.upon_types.specs.declared.types.token.Token.TheVariants as token
use Rattle.upon_tree.proofs.Maps as maps
use Rattle.upon_tree.specs.declared.opened.Entries.{Entries}
use Rattle.upon_tree.proofs.expression.TreeReader.start_map.Goals as goal

pub returns-clause-step : goal.returns-clause-step
returns-clause-step c =
    let read : Entries = record { entries = c.new-entries.result; opening = c.args.opening } in
    ok_map c.start_entry.result
    (λ r. MapTreeGoesOn c.args.self.now.parser.source.now read (lexemes_of c.args.tokens.now) r.0 (lexemes_of r.1.now))
    (λ r. (whole : Bool) (before : List Lexeme) → Goes token.OpenBrace c.args.opening before (lexemes_of c.args.tokens.now) → IsTreeStep c.args.self.now.parser.source.now whole r.0 before (lexemes_of r.1.now))
    (λ r f whole before g. f whole before (maps.map_begun c.args.self.now.parser.source.now read before (lexemes_of c.args.tokens.now) g c.new-entries.ensures.items))
    c.start_entry.ensures.step
