use Rattle.std.proofs.Common.{◌∷◌, refl, arith}
use Rattle.std.proofs.lemmas.Grind.{common_steps}
use Rattle.std.proofs.lemmas.Result.{err_from_is_err_and}
use Rattle.upon_types.specs.declared.types.token.Token.TheVariants.{CloseBrace}
use Rattle.upon_compiler.specs.Program.{program_view}
use Rattle.upon_language_spec.specs.Parts.{map_start}
use Rattle.upon_tag_parser.specs.declared.compile.parse.want.Want.TheVariants as want
use Rattle.upon_tag_parser.specs.declared.compile.parse.brackets.Open.TheVariants as opened
use Rattle.upon_tag_parser.specs.TagParsing.{IsRefused}
use Rattle.upon_tag_parser.specs.Brackets.{place_of, MapGoesOn, OpenGoesOn, OpenStuck}
use Rattle.upon_tag_parser.proofs.Stuck.{stuck_same, handed_on, ok_map}
use Rattle.upon_tag_parser.proofs.Stops.{StopsAt, rest_on}
use Rattle.upon_tag_parser.proofs.Steps.Maps.{map_around_stuck, entry_comma, entry_closes, entry_stuck}
use Rattle.upon_tag_parser.proofs.compile.parse.path.TagParser.after_entry.Goals as goal

pub returns-in-Some-clause-step : goal.returns-in-Some-clause-step
returns-in-Some-clause-step c =
    let next = place_of c.in-Some.rest.now c.append.new.code.items in
    let new = c.start_entry.new.code.items in
    ok_map c.start_entry.result
    (λ r. MapGoesOn c.args.self.now.source.now c.args.start next r.0 (place_of r.1.now new))
    (λ r. OpenGoesOn c.args.self.now.source.now (opened.Map c.args.start c.args.key) (place_of c.args.tokens.now c.args.code.now.items) r.0 (place_of r.1.now new))
    (λ r f span whole from given. f whole from (entry_comma c.args.self.now.source.now c.args.start c.args.key whole span from (place_of c.args.tokens.now c.args.code.now.items) given (place_of c.in-Some.rest.now c.append.new.code.items) c.in-Some.field-0-0 c.in-Some.ensures.token c.in_ok-append.ensures))
    c.start_entry.ensures.step

pub returns-in-Some-clause-rest : goal.returns-in-Some-clause-rest
returns-in-Some-clause-rest c =
    rest_on c.start_entry.result c.in-Some.rest.now c.args.tokens.now (c.in-Some.ensures.rest refl) c.start_entry.ensures.rest

pub returns-in-Some-clause-stuck : goal.returns-in-Some-clause-stuck
returns-in-Some-clause-stuck c =
    let next = place_of c.in-Some.rest.now c.append.new.code.items in
    stuck_same c.start_entry.result (StopsAt (λ ps. map_start ∷ ps) c.args.self.now.source.now c.in-Some.rest.now) (OpenStuck c.args.self.now.source.now (opened.Map c.args.start c.args.key) (place_of c.args.tokens.now c.args.code.now.items))
    (λ w left h span whole from given. map_around_stuck c.args.self.now.source.now c.args.start whole from next w left (entry_comma c.args.self.now.source.now c.args.start c.args.key whole span from (place_of c.args.tokens.now c.args.code.now.items) given (place_of c.in-Some.rest.now c.append.new.code.items) c.in-Some.field-0-0 c.in-Some.ensures.token c.in_ok-append.ensures) h)
    c.start_entry.ensures.stuck

pub returns-in_err-closing-clause-stuck : goal.returns-in_err-closing-clause-stuck
returns-in_err-closing-clause-stuck c =
    handed_on c.from_residual-in_err-closing.result c.in_err-closing.field-0.0 (IsRefused CloseBrace want.CloseBrace c.args.tokens.now) (OpenStuck c.args.self.now.source.now (opened.Map c.args.start c.args.key) (place_of c.args.tokens.now c.args.code.now.items))
    (err_from_is_err_and c.from_residual-in_err-closing.result c.from_residual-in_err-closing.ensures.1)
    (λ w left refused span whole from given. entry_stuck c.args.self.now.source.now c.args.start c.args.key whole span from (program_view c.args.code.now.items) c.args.tokens.now left w given c.in_default.ensures.token refused)
    c.in_err-closing.ensures.stuck

pub returns-clause-step : goal.returns-clause-step
returns-clause-step c span whole from given =
    entry_closes c.args.self.now.source.now c.args.start c.args.key whole span from (place_of c.args.tokens.now c.args.code.now.items) given (place_of c.in_ok-closing.rest.now c.close_map.new.code.items) (program_view c.append.new.code.items) c.in_ok-closing.closing c.close_map.result c.in_ok-closing.ensures.token c.in_ok-append.ensures c.close_map.ensures.code c.close_map.ensures.span

-- the search finds no proof of these, and takes long
pub start_entry-requires-clause-number : goal.start_entry-requires-clause-number
start_entry-requires-clause-number = grind (arith, common_steps)

pub close_map-requires : goal.close_map-requires
close_map-requires = grind (arith, common_steps)

pub returns-clause-shorter : goal.returns-clause-shorter
returns-clause-shorter = grind (arith, common_steps)
