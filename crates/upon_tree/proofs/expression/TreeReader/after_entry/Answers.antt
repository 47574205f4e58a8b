use Rattle.std.proofs.Common.{refl, ◌∷◌}
use Rattle.std.proofs.lemmas.Result.{err_from_is_err_and}
use Rattle.upon_language_spec.specs.Parts.{map_start}
use Rattle.upon_tag_parser.proofs.Stops.{StopsAt, rest_on}
use Rattle.upon_tag_parser.proofs.Stuck.{handed_on, stuck_same, ok_map}
use Rattle.upon_tag_parser.specs.TagParsing.{IsRefused}
use Rattle.upon_tag_parser.specs.TagTokens.{lexemes_of}
use Rattle.upon_tree.specs.Opened.{OpenTreeGoesOn, OpenTreeStuck, MapTreeGoesOn}
use Rattle.upon_tree.specs.declared.opened.Open.TheVariants as opened
use Rattle.upon_tag_parser.specs.declared.compile.parse.want.Want.TheVariants as want
use Rattle.upon_types.specs.declared.types.token.Token.TheVariants as token
use Rattle.upon_tree.proofs.Maps as maps
use Rattle.upon_tree.specs.declared.opened.Entries.{Entries}
use Rattle.upon_tree.proofs.expression.TreeReader.after_entry.Goals as goal

pub returns-in-Some-clause-step : goal.returns-in-Some-clause-step
returns-in-Some-clause-step c =
    let next : Entries = (record { entries = c.push.new.self; opening = c.args.map.opening }) in
    ok_map c.start_entry.result
    (λ r. MapTreeGoesOn c.args.self.now.parser.source.now next (lexemes_of c.in-Some.rest.now) r.0 (lexemes_of r.1.now))
    (λ r. OpenTreeGoesOn c.args.self.now.parser.source.now (opened.Map c.args.map c.args.key) c.args.value (lexemes_of c.args.tokens.now) r.0 (lexemes_of r.1.now))
    (λ r f whole from given. f whole from (maps.entry_comma c.args.self.now.parser.source.now c.args.map next c.args.key c.args.value whole from (lexemes_of c.args.tokens.now) given refl c.in_ok-push.ensures.items (lexemes_of c.in-Some.rest.now) c.in-Some.field-0-0 c.in-Some.ensures.token))
    c.start_entry.ensures.step

pub returns-in-Some-clause-rest : goal.returns-in-Some-clause-rest
returns-in-Some-clause-rest c =
    rest_on c.start_entry.result c.in-Some.rest.now c.args.tokens.now (c.in-Some.ensures.rest refl) c.start_entry.ensures.rest

pub returns-in-Some-clause-stuck : goal.returns-in-Some-clause-stuck
returns-in-Some-clause-stuck c =
    let next : Entries = (record { entries = c.push.new.self; opening = c.args.map.opening }) in
    stuck_same c.start_entry.result (StopsAt (λ ps. map_start ∷ ps) c.args.self.now.parser.source.now c.in-Some.rest.now) (OpenTreeStuck c.args.self.now.parser.source.now (opened.Map c.args.map c.args.key) c.args.value (lexemes_of c.args.tokens.now))
    (λ w left h whole from given. maps.map_around_stuck c.args.self.now.parser.source.now next whole from (lexemes_of c.in-Some.rest.now) w left (maps.entry_comma c.args.self.now.parser.source.now c.args.map next c.args.key c.args.value whole from (lexemes_of c.args.tokens.now) given refl c.in_ok-push.ensures.items (lexemes_of c.in-Some.rest.now) c.in-Some.field-0-0 c.in-Some.ensures.token) h)
    c.start_entry.ensures.stuck

pub returns-in_err-closing-clause-stuck : goal.returns-in_err-closing-clause-stuck
returns-in_err-closing-clause-stuck c =
    handed_on c.from_residual-in_err-closing.result c.in_err-closing.field-0.0 (IsRefused token.CloseBrace want.CloseBrace c.args.tokens.now) (OpenTreeStuck c.args.self.now.parser.source.now (opened.Map c.args.map c.args.key) c.args.value (lexemes_of c.args.tokens.now))
    (err_from_is_err_and c.from_residual-in_err-closing.result c.from_residual-in_err-closing.ensures.1)
    (λ w left refused whole from given. maps.entry_stuck c.args.self.now.parser.source.now c.args.map c.args.key c.args.value whole from c.args.tokens.now left w given c.in_default.ensures.token refused)
    c.in_err-closing.ensures.stuck

pub returns-clause-step : goal.returns-clause-step
returns-clause-step c whole from given =
    maps.entry_closes c.args.self.now.parser.source.now c.args.map (record { entries = c.push.new.self; opening = c.args.map.opening }) c.args.key c.args.value whole from (lexemes_of c.args.tokens.now) given refl c.in_ok-push.ensures.items c.closed_map.result (lexemes_of c.in_ok-closing.rest.now) c.in_ok-closing.closing c.in_ok-closing.ensures.token c.closed_map.ensures
