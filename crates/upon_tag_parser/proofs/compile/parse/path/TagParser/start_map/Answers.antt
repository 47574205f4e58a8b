use Rattle.std.proofs.Common.{◌∙◌, List, Bool, sym}
use Rattle.std.proofs.lemmas.List.{length-map}
use Rattle.upon_types.specs.declared.types.token.Token.TheVariants.{OpenBrace}
use Rattle.upon_compiler.specs.Program.{instr_of}
use Rattle.upon_language_spec.specs.Cut.{Lexeme}
use Rattle.upon_language_spec.specs.Tokens.{Goes}
use Rattle.upon_tag_parser.specs.declared.compile.parse.brackets.Beginning.{Beginning}
use Rattle.upon_tag_parser.specs.TagTokens.{lexemes_of}
use Rattle.upon_tag_parser.specs.Brackets.{place, place_of, IsStep, MapGoesOn}
use Rattle.upon_tag_parser.proofs.Stuck.{ok_map}
use Rattle.upon_tag_parser.proofs.Steps.Maps.{map_begun}
use Rattle.upon_tag_parser.proofs.compile.parse.path.TagParser.start_map.Goals as goal

pub returns-clause-step : goal.returns-clause-step
returns-clause-step c =
    let from = λ (before : List Lexeme). place before c.args.code.now.items in
    let here = place_of c.args.tokens.now c.append.new.code.items in
    let start : Beginning = record { at = c.len-at.result; opening = c.args.opening } in
    let new = c.start_entry.new.code.items in
    ok_map c.start_entry.result
    (λ r. MapGoesOn c.args.self.now.source.now start here r.0 (place_of r.1.now new))
    (λ r. (whole : Bool) (before : List Lexeme) → Goes OpenBrace c.args.opening before (lexemes_of c.args.tokens.now) → IsStep c.args.self.now.source.now whole r.0 (from before) (place_of r.1.now new))
    (λ r f whole before g. f whole (from before) (map_begun c.args.self.now.source.now start (from before) here g (c.len-at.ensures ∙ c.args.code.now.ok.0 ∙ sym (length-map c.args.code.now.items instr_of)) c.in_ok-append.ensures))
    c.start_entry.ensures.step
