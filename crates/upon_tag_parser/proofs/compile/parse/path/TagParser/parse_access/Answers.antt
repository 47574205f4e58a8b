use Rattle.std.proofs.Common.{List, ◌∷◌}
use Rattle.std.proofs.lemmas.Result.{err_from_is_err_and}
use Rattle.upon_types.specs.declared.types.token.Token.TheVariants.{Index}
use Rattle.upon_language_spec.specs.Parts.{Part, a_member}
use Rattle.upon_tag_parser.specs.declared.compile.parse.want.Want.TheVariants.{NameOrIndex}
use Rattle.upon_tag_parser.specs.TagParsing.{IsStuck, IsRefused}
use Rattle.upon_tag_parser.proofs.Stuck.{handed_on, access_stuck}
use Rattle.upon_tag_parser.proofs.compile.parse.path.TagParser.parse_access.Goals as goal

pub returns-in_err-span-clause-stuck : goal.returns-in_err-span-clause-stuck
returns-in_err-span-clause-stuck c =
    let s = c.args.self.now.source.now in
    let tokens = c.args.tokens.now in
    handed_on c.from_residual-in_err-span.result c.in_err-span.field-0.0 (IsRefused Index NameOrIndex tokens) (λ w left. (parts : List Part) → IsStuck s (a_member ∷ parts) tokens w left)
    (err_from_is_err_and c.from_residual-in_err-span.result c.from_residual-in_err-span.ensures.1)
    (λ w left r parts. access_stuck s parts tokens w left c.in_default.ensures.token r) c.in_err-span.ensures.stuck
