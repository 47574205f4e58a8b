use Rattle.std.proofs.Common.{List, arith}
use Rattle.std.proofs.lemmas.Grind.{common_steps}
use Rattle.std.proofs.lemmas.Result.{err_from_is_err_and}
use Rattle.upon_types.specs.declared.types.token.Token.TheVariants.{Number}
use Rattle.upon_language_spec.specs.Parts.{Part}
use Rattle.upon_language_spec.specs.PartTails.{TakesBase}
use Rattle.upon_tag_parser.specs.declared.compile.parse.want.Want.TheVariants as want
use Rattle.upon_tag_parser.specs.TagParsing.{IsStuck, IsRefused}
use Rattle.upon_tag_parser.proofs.TagTokens.{rest_signed}
use Rattle.upon_tag_parser.proofs.Stuck.{handed_on, signed_stuck}
use Rattle.upon_tag_parser.proofs.compile.parse.path.TagParser.parse_number.Goals as goal

pub returns-in_err-span-clause-stuck : goal.returns-in_err-span-clause-stuck
returns-in_err-span-clause-stuck c =
    let s = c.args.self.now.source.now in
    let tokens = c.args.tokens.now in
    let rest = c.in-Some.rest.now in
    handed_on c.from_residual.result c.in_err-span.field-0.0 (IsRefused Number want.Number rest) (λ w left. (from parts : List Part) → TakesBase from parts → IsStuck s from tokens w left)
    (err_from_is_err_and c.from_residual.result c.from_residual.ensures.1)
    (λ w left r from parts takes. signed_stuck s from parts c.in-Some.sign tokens rest w left takes c.in-Some.ensures.sign c.in-Some.ensures.rest r) c.in_err-span.ensures.stuck

pub returns-in-Some-clause-rest : goal.returns-in-Some-clause-rest
returns-in-Some-clause-rest c = rest_signed c.in-Some.sign c.in_ok-span.span c.in-Some.rest.now c.in_ok-span.left.now c.args.tokens.now c.in-Some.ensures.rest c.in_ok-span.ensures.token

-- the search finds no proof of these, and takes long
pub returns-in-Some-clause-shorter : goal.returns-in-Some-clause-shorter
returns-in-Some-clause-shorter = grind (arith, common_steps)

pub returns-in-Some-take-clause-shorter : goal.returns-in-Some-take-clause-shorter
returns-in-Some-take-clause-shorter = grind (arith, common_steps)
