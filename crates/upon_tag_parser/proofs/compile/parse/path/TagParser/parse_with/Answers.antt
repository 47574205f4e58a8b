use Rattle.std.proofs.Common.{[], ◌∷◌, true, refl}
use Rattle.std.proofs.lemmas.Result.{err_from_is_err_and}
use Rattle.upon_types.specs.declared.types.token.Token.TheVariants.{Ident as Identifier}
use Rattle.upon_types.specs.AstPath.{ident_of}
use Rattle.upon_language_spec.specs.Parts.{a_base, filters, end_block, as_word, as_name}
use Rattle.upon_tag_parser.specs.declared.compile.parse.want.Want.TheVariants as want
use Rattle.upon_tag_parser.specs.TagTokens.{lexemes_of}
use Rattle.upon_tag_parser.specs.Wants.{wanted_of}
use Rattle.upon_tag_parser.specs.TagParsing.{IsStuck, IsRefused}
use Rattle.upon_tag_parser.specs.Brackets.{StuckFrom}
use Rattle.upon_tag_parser.proofs.TagTokens.{rest_then, tokens_rest}
use Rattle.upon_tag_parser.proofs.Stuck.{handed_on}
use Rattle.upon_tag_parser.specs.BlockTags.{opening_tag}
use Rattle.upon_types.specs.BlockKinds.{with_tag}
use Rattle.upon_tag_parser.proofs.Stuck.{stuck_then, refused_here}
use Rattle.upon_tag_parser.proofs.BaseStarts.{base_starts}
use Rattle.upon_tag_parser.proofs.Tags.{with_reads, as_leads, as_stuck, as_name_refused}
use Rattle.upon_tag_parser.proofs.compile.parse.path.TagParser.parse_with.Goals as goal

pub returns-in_err-rest-clause-stuck : goal.returns-in_err-rest-clause-stuck
returns-in_err-rest-clause-stuck c =
    handed_on c.from_residual.result c.in_err-rest.field-0.0 (StuckFrom c.args.self.now.source.now true (lexemes_of c.args.tokens.now)) (IsStuck c.args.self.now.source.now (a_base ∷ filters ∷ as_word ∷ end_block ∷ []) c.args.tokens.now)
    (err_from_is_err_and c.from_residual.result c.from_residual.ensures.1)
    (λ w left h. h (a_base ∷ filters ∷ as_word ∷ end_block ∷ []) (as_word ∷ end_block ∷ []) (base_starts c.args.self.now.source.now (filters ∷ as_word ∷ end_block ∷ []) (lexemes_of c.args.tokens.now)))
    c.in_err-rest.ensures.stuck

pub take_keyword-requires : goal.take_keyword-requires
take_keyword-requires c =
    record { tokens = tokens_rest c.args.self.now.source.now c.args.tokens.now c.in_ok-rest.rest.now c.requires.tokens c.in_ok-rest.ensures.rest }

pub parse_ident-requires : goal.parse_ident-requires
parse_ident-requires c =
    record { tokens = tokens_rest c.args.self.now.source.now c.args.tokens.now c.in-Some.rest.now c.requires.tokens (rest_then (lexemes_of c.args.tokens.now) (lexemes_of c.in_ok-rest.rest.now) (lexemes_of c.in-Some.rest.now) c.in_ok-rest.ensures.rest c.in-Some.ensures.rest) }

pub returns-in_err-name-in-Some-clause-stuck : goal.returns-in_err-name-in-Some-clause-stuck
returns-in_err-name-in-Some-clause-stuck c =
    handed_on c.from_residual-in_err-name-in-Some.result c.in_err-name-in-Some.field-0.0 (IsRefused Identifier want.Name c.in-Some.rest.now) (IsStuck c.args.self.now.source.now (a_base ∷ filters ∷ as_word ∷ end_block ∷ []) c.args.tokens.now)
    (err_from_is_err_and c.from_residual-in_err-name-in-Some.result c.from_residual-in_err-name-in-Some.ensures.1)
    (λ w left r. stuck_then c.args.self.now.source.now (a_base ∷ filters ∷ as_word ∷ end_block ∷ []) (as_name ∷ end_block ∷ []) (lexemes_of c.args.tokens.now) (lexemes_of c.in-Some.rest.now) (lexemes_of left) (wanted_of w)
    (as_leads c.args.self.now.source.now c.in_ok-rest.ensures.expression.tree (lexemes_of c.args.tokens.now) (lexemes_of c.in_ok-rest.rest.now) (lexemes_of c.in-Some.rest.now) c.in_ok-rest.ensures.expression.reads (_, c.in-Some.ensures.word))
    (refused_here c.args.self.now.source.now (as_name ∷ end_block ∷ []) Identifier want.Name c.in-Some.rest.now w left r (as_name_refused c.args.self.now.source.now (end_block ∷ []) (lexemes_of c.in-Some.rest.now) r.none) refl))
    c.in_err-name-in-Some.ensures.stuck

pub returns-in-None-clause-stuck : goal.returns-in-None-clause-stuck
returns-in-None-clause-stuck c =
    as_stuck c.args.self.now.source.now c.in_ok-rest.ensures.expression.tree (lexemes_of c.args.tokens.now) (lexemes_of c.in_ok-rest.rest.now) c.in_ok-rest.ensures.expression.reads c.in-None.ensures.word

pub returns-in_ok-name-in-Some-clause-tag : goal.returns-in_ok-name-in-Some-clause-tag
returns-in_ok-name-in-Some-clause-tag c before g =
    let x = c.in_ok-rest.ensures.expression in
    let name = ident_of c.in_ok-name-in-Some.name in
    record {
      tree = opening_tag (with_tag name) x.tree;
      reads = with_reads c.args.self.now.source.now x.tree name before (lexemes_of c.args.tokens.now) (lexemes_of c.in_ok-rest.rest.now) (lexemes_of c.in-Some.rest.now) (lexemes_of c.in_ok-name-in-Some.left.now) g x.reads (_, c.in-Some.ensures.word) c.in_ok-name-in-Some.ensures.name;
      keeps = (x.tree, refl);
      code = x.code;
    }

pub returns-in_ok-name-in-Some-clause-rest : goal.returns-in_ok-name-in-Some-clause-rest
returns-in_ok-name-in-Some-clause-rest c =
    rest_then (lexemes_of c.args.tokens.now) (lexemes_of c.in_ok-rest.rest.now) (lexemes_of c.in_ok-name-in-Some.left.now) c.in_ok-rest.ensures.rest (rest_then (lexemes_of c.in_ok-rest.rest.now) (lexemes_of c.in-Some.rest.now) (lexemes_of c.in_ok-name-in-Some.left.now) c.in-Some.ensures.rest c.in_ok-name-in-Some.ensures.rest)
