use Rattle.std.proofs.Common.{List, ◌∷◌, refl}
use Rattle.std.proofs.lemmas.Result.{err_from_is_err_and}
use Rattle.upon_types.specs.declared.types.token.Token.TheVariants.{Ident as Identifier}
use Rattle.upon_types.specs.AstPath.{ident_of}
use Rattle.upon_language_spec.specs.Parts.{Part, loop_name, loop_rest, loop_value}
use Rattle.upon_language_spec.proofs.Wanted.ExpressionsLead.{leads_then, leads_token}
use Rattle.upon_tag_parser.specs.declared.compile.parse.want.Want.TheVariants as want
use Rattle.upon_tag_parser.specs.TagTokens.{lexemes_of}
use Rattle.upon_tag_parser.specs.Wants.{wanted_of}
use Rattle.upon_tag_parser.specs.TagParsing.{IsStuck, IsRefused}
use Rattle.upon_tag_parser.proofs.TagTokens.{rest_then}
use Rattle.upon_tag_parser.proofs.Stuck.{handed_on, stuck_then, refused_here}
use Rattle.upon_tag_parser.proofs.Tags.{item_reads, key_value_reads, loop_name_refused, loop_value_refused}
use Rattle.upon_tag_parser.proofs.compile.parse.path.TagParser.parse_loop_vars.Goals as goal

pub returns-in_err-key-clause-stuck : goal.returns-in_err-key-clause-stuck
returns-in_err-key-clause-stuck c =
    let s = c.args.self.now.source.now in
    let tokens = c.args.tokens.now in
    handed_on c.from_residual.result c.in_err-key.field-0.0 (IsRefused Identifier want.Name tokens) (λ w left. (parts : List Part) → IsStuck s (loop_name ∷ parts) tokens w left)
    (err_from_is_err_and c.from_residual.result c.from_residual.ensures.1)
    (λ w left r parts. refused_here s (loop_name ∷ parts) Identifier want.Name tokens w left r (loop_name_refused s parts (lexemes_of tokens) r.none) refl) c.in_err-key.ensures.stuck

pub returns-in_err-value-in-Some-clause-stuck : goal.returns-in_err-value-in-Some-clause-stuck
returns-in_err-value-in-Some-clause-stuck c =
    let s = c.args.self.now.source.now in
    let tokens = c.args.tokens.now in
    let rest = c.in-Some.rest.now in
    handed_on c.from_residual-in_err-value-in-Some.result c.in_err-value-in-Some.field-0.0 (IsRefused Identifier want.Name rest) (λ w left. (parts : List Part) → IsStuck s (loop_name ∷ parts) tokens w left)
    (err_from_is_err_and c.from_residual-in_err-value-in-Some.result c.from_residual-in_err-value-in-Some.ensures.1)
    (λ w left r parts. stuck_then s (loop_name ∷ parts) (loop_value ∷ parts) (lexemes_of tokens) (lexemes_of rest) (lexemes_of left) (wanted_of w)
    (leads_then s (leads_token s (_, c.in_ok-key.ensures.name.0) (λ k. refl)) (leads_token s {a = loop_rest ∷ parts} (_, c.in-Some.ensures.token) (λ k. refl)))
    (refused_here s (loop_value ∷ parts) Identifier want.Name rest w left r (loop_value_refused s parts (lexemes_of rest) r.none) refl)) c.in_err-value-in-Some.ensures.stuck

pub returns-in-None-clause-vars : goal.returns-in-None-clause-vars
returns-in-None-clause-vars c = item_reads c.args.self.now.source.now (ident_of c.in_ok-key.key) (lexemes_of c.args.tokens.now) (lexemes_of c.in_ok-key.rest.now) c.in_ok-key.ensures.name c.in-None.ensures.token

pub returns-in_ok-value-in-Some-clause-vars : goal.returns-in_ok-value-in-Some-clause-vars
returns-in_ok-value-in-Some-clause-vars c = key_value_reads c.args.self.now.source.now (ident_of c.in_ok-key.key) (ident_of c.in_ok-value-in-Some.value) (record { m = c.in_ok-key.key.span.m; n = c.in_ok-value-in-Some.value.span.n }) (lexemes_of c.args.tokens.now) (lexemes_of c.in_ok-key.rest.now) (lexemes_of c.in-Some.rest.now) (lexemes_of c.in_ok-value-in-Some.left.now) c.in_ok-key.ensures.name (_, c.in-Some.ensures.token) c.in_ok-value-in-Some.ensures.name refl

pub returns-in_ok-value-in-Some-clause-rest : goal.returns-in_ok-value-in-Some-clause-rest
returns-in_ok-value-in-Some-clause-rest c = rest_then (lexemes_of c.args.tokens.now) (lexemes_of c.in_ok-key.rest.now) (lexemes_of c.in_ok-value-in-Some.left.now) c.in_ok-key.ensures.rest (rest_then (lexemes_of c.in_ok-key.rest.now) (lexemes_of c.in-Some.rest.now) (lexemes_of c.in_ok-value-in-Some.left.now) (c.in-Some.ensures.rest refl) c.in_ok-value-in-Some.ensures.rest)
