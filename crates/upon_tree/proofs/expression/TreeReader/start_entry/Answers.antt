use Rattle.std.proofs.Common.{refl, ◌∷◌}
use Rattle.std.proofs.lemmas.Result.{err_from_is_err_and}
use Rattle.upon_language_spec.specs.Parts.{map_start}
use Rattle.upon_tag_parser.proofs.Stops.{StopsAt}
use Rattle.upon_tag_parser.proofs.Stuck.{handed_on}
use Rattle.upon_tag_parser.proofs.TagTokens.{rest_then}
use Rattle.upon_tag_parser.specs.TagParsing.{IsRefused}
use Rattle.upon_tag_parser.specs.TagTokens.{lexemes_of}
use Rattle.upon_types.specs.AstPath.{string_of}
use Rattle.upon_tag_parser.specs.declared.compile.parse.want.Want.TheVariants as want
use Rattle.upon_types.specs.declared.types.token.Token.TheVariants as token
use Rattle.upon_tree.proofs.Maps as maps
use Rattle.upon_tag_parser.proofs.Maps as keys
use Rattle.upon_tree.proofs.expression.TreeReader.start_entry.Goals as goal

pub returns-in-Some-clause-step : goal.returns-in-Some-clause-step
returns-in-Some-clause-step c whole from h =
    maps.map_closes c.args.self.now.parser.source.now c.args.map c.closed_map.result from (lexemes_of c.args.tokens.now) (lexemes_of c.in-Some.rest.now) c.in-Some.closing h c.in-Some.ensures.token c.closed_map.ensures

pub returns-in_err-key-clause-stuck : goal.returns-in_err-key-clause-stuck
returns-in_err-key-clause-stuck c =
    handed_on c.from_residual.result c.in_err-key.field-0.0 (IsRefused token.String want.Text c.args.tokens.now) (StopsAt (λ ps. map_start ∷ ps) c.args.self.now.parser.source.now c.args.tokens.now)
    (err_from_is_err_and c.from_residual.result c.from_residual.ensures.1)
    (λ w left refused ps. keys.key_stuck c.args.self.now.parser.source.now c.args.tokens.now left w c.in_default.ensures.token refused ps)
    c.in_err-key.ensures.stuck

pub returns-in_err-left-clause-stuck : goal.returns-in_err-left-clause-stuck
returns-in_err-left-clause-stuck c =
    handed_on c.from_residual-in_err-left.result c.in_err-left.field-0.0 (IsRefused token.Colon want.Colon c.in_ok-key.rest.now) (StopsAt (λ ps. map_start ∷ ps) c.args.self.now.parser.source.now c.args.tokens.now)
    (err_from_is_err_and c.from_residual-in_err-left.result c.from_residual-in_err-left.ensures.1)
    (λ w left refused ps. keys.colon_stuck c.args.self.now.parser.source.now (string_of c.in_ok-key.key) (lexemes_of c.args.tokens.now) c.in_ok-key.rest.now left w c.in_ok-key.ensures.string refused ps)
    c.in_err-left.ensures.stuck

pub returns-clause-step : goal.returns-clause-step
returns-clause-step c whole from h =
    record {
      mid = lexemes_of c.args.tokens.now;
      before = h;
      not_closed = c.in_default.ensures.token;
      colon = lexemes_of c.in_ok-key.rest.now;
      reads_key = c.in_ok-key.ensures.string;
      reads_colon = (c.in_ok-left.field-0-0, c.in_ok-left.ensures.token);
    }

pub returns-clause-rest : goal.returns-clause-rest
returns-clause-rest c =
    rest_then (lexemes_of c.args.tokens.now) (lexemes_of c.in_ok-key.rest.now) (lexemes_of c.in_ok-left.left.now) c.in_ok-key.ensures.rest (c.in_ok-left.ensures.rest refl)
