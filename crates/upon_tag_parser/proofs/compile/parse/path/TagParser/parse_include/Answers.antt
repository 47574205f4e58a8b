use Rattle.std.proofs.Common.{[], ◌∷◌, true, None, Some, refl, sym}
use Rattle.std.proofs.lemmas.Result.{err_from_is_err_and}
use Rattle.upon_types.specs.declared.types.token.Token.TheVariants.{String as Quoted}
use Rattle.upon_types.specs.AstPath.{string_of}
use Rattle.upon_compiler.specs.Program.{program_view}
use Rattle.upon_language_spec.specs.Parts.{a_base, filters, end_block, include_name, include_rest}
use Rattle.upon_tag_parser.specs.declared.compile.parse.want.Want.TheVariants as want
use Rattle.upon_tag_parser.specs.TagTokens.{lexemes_of}
use Rattle.upon_tag_parser.specs.Wants.{wanted_of}
use Rattle.upon_tag_parser.specs.TagParsing.{IsStuck, IsRefused}
use Rattle.upon_tag_parser.specs.Brackets.{StuckFrom}
use Rattle.upon_tag_parser.proofs.TagTokens.{rest_then}
use Rattle.upon_tag_parser.proofs.Stuck.{handed_on}
use Rattle.std.proofs.Common.{codes, append-nil}
use Rattle.upon_language_spec.proofs.Wanted.ExpressionsLead.{leads_then, leads_key, leads_token}
use Rattle.upon_tag_parser.specs.BlockTags.{include_tag}
use Rattle.upon_tag_parser.proofs.Stuck.{stuck_then, refused_here}
use Rattle.upon_tag_parser.proofs.BaseStarts.{base_starts}
use Rattle.upon_tag_parser.proofs.Tags.{include_reads, include_with_reads, include_name_refused}
use Rattle.upon_tag_parser.proofs.compile.parse.path.TagParser.parse_include.Goals as goal

pub returns-in_err-name-clause-stuck : goal.returns-in_err-name-clause-stuck
returns-in_err-name-clause-stuck c =
    handed_on c.from_residual.result c.in_err-name.field-0.0 (IsRefused Quoted want.Text c.args.tokens.now) (IsStuck c.args.self.now.source.now (include_name ∷ []) c.args.tokens.now)
    (err_from_is_err_and c.from_residual.result c.from_residual.ensures.1)
    (λ w left r. refused_here c.args.self.now.source.now (include_name ∷ []) Quoted want.Text c.args.tokens.now w left r (include_name_refused c.args.self.now.source.now (lexemes_of c.args.tokens.now) r.none) refl)
    c.in_err-name.ensures.stuck

pub returns-in_err-left-in-Some-clause-stuck : goal.returns-in_err-left-in-Some-clause-stuck
returns-in_err-left-in-Some-clause-stuck c =
    handed_on c.from_residual-in_err-left-in-Some.result c.in_err-left-in-Some.field-0.0 (StuckFrom c.args.self.now.source.now true (lexemes_of c.in-Some.rest.now)) (IsStuck c.args.self.now.source.now (include_name ∷ []) c.args.tokens.now)
    (err_from_is_err_and c.from_residual-in_err-left-in-Some.result c.from_residual-in_err-left-in-Some.ensures.1)
    (λ w left h. stuck_then c.args.self.now.source.now (include_name ∷ []) (a_base ∷ filters ∷ end_block ∷ []) (lexemes_of c.args.tokens.now) (lexemes_of c.in-Some.rest.now) (lexemes_of left) (wanted_of w)
    (leads_then c.args.self.now.source.now (leads_token c.args.self.now.source.now (_, c.in_ok-name.ensures.string.0) (λ k. refl)) (leads_key c.args.self.now.source.now {a = include_rest ∷ []} (codes "with") c.in-Some.ensures.word refl))
    (h (a_base ∷ filters ∷ end_block ∷ []) (end_block ∷ []) (base_starts c.args.self.now.source.now (filters ∷ end_block ∷ []) (lexemes_of c.in-Some.rest.now))))
    c.in_err-left-in-Some.ensures.stuck

pub returns-in-None-clause-tag : goal.returns-in-None-clause-tag
returns-in-None-clause-tag c before g =
    let name = string_of c.in_ok-name.name in
    record {
      tree = include_tag name None;
      reads = include_reads c.args.self.now.source.now name before (lexemes_of c.args.tokens.now) (lexemes_of c.in_ok-name.rest.now) g c.in_ok-name.ensures.string c.in-None.ensures.word;
      keeps = refl;
      code = sym (append-nil (program_view c.args.code.now.items));
    }

pub returns-in_ok-left-in-Some-clause-tag : goal.returns-in_ok-left-in-Some-clause-tag
returns-in_ok-left-in-Some-clause-tag c before g =
    let x = c.in_ok-left-in-Some.ensures.expression in
    let name = string_of c.in_ok-name.name in
    record {
      tree = include_tag name (Some x.tree);
      reads = include_with_reads c.args.self.now.source.now name x.tree before (lexemes_of c.args.tokens.now) (lexemes_of c.in_ok-name.rest.now) (lexemes_of c.in-Some.rest.now) (lexemes_of c.in_ok-left-in-Some.left.now) g c.in_ok-name.ensures.string (_, c.in-Some.ensures.word) x.reads;
      keeps = (x.tree, refl);
      code = x.code;
    }

pub returns-in_ok-left-in-Some-clause-rest : goal.returns-in_ok-left-in-Some-clause-rest
returns-in_ok-left-in-Some-clause-rest c =
    rest_then (lexemes_of c.args.tokens.now) (lexemes_of c.in_ok-name.rest.now) (lexemes_of c.in_ok-left-in-Some.left.now) c.in_ok-name.ensures.rest (rest_then (lexemes_of c.in_ok-name.rest.now) (lexemes_of c.in-Some.rest.now) (lexemes_of c.in_ok-left-in-Some.left.now) c.in-Some.ensures.rest c.in_ok-left-in-Some.ensures.rest)
