use Rattle.std.proofs.Common.{List, [], ◌∷◌, ap, subst}
use Rattle.std.proofs.lemmas.Result.{err_from_is_err_and}
use Rattle.upon_language_spec.specs.Parts.{block_word}
use Rattle.upon_tag_parser.specs.declared.compile.parse.want.Want.TheVariants as want
use Rattle.upon_tag_parser.specs.TagTokens.{lexemes_of}
use Rattle.upon_tag_parser.specs.TagParsing.{IsStuck}
use Rattle.upon_tag_parser.proofs.TagTokens.{tokens_rest}
use Rattle.upon_tag_parser.proofs.Stuck.{handed_on}
use Rattle.upon_types.specs.declared.types.token.Token.TheVariants.{EndBlock}
use Rattle.upon_language_spec.specs.Wanted.{an_end_block}
use Rattle.upon_lexer.specs.declared.literal.Lexed.{Lexed}
use Rattle.upon_tag_parser.specs.WholeTags.{IsTagBody, IsTooLong}
use Rattle.upon_tag_parser.proofs.Tags.{ends_here, too_long_stuck, tag_inside}
use Rattle.upon_tag_parser.proofs.compile.parse.path.TagParser.parse_block_tag.Goals as goal

pub returns-in_err-expect_end-clause-stuck : goal.returns-in_err-expect_end-clause-stuck
returns-in_err-expect_end-clause-stuck c =
    let x = c.in_ok-tag.ensures.tag in
    let known = tokens_rest c.args.self.now.source.now c.args.tokens.now c.in_ok-tag.rest.now c.requires.tokens c.in_ok-tag.ensures.rest in
    handed_on c.from_residual-in_err-expect_end.result c.in_err-expect_end.field-0.0 (IsTooLong want.EndBlock c.in_ok-tag.rest.now) (IsStuck c.args.self.now.source.now (block_word ∷ []) c.args.tokens.now)
    (err_from_is_err_and c.from_residual-in_err-expect_end.result c.from_residual-in_err-expect_end.ensures.1)
    (λ w left h. too_long_stuck c.args.self.now.source.now (block_word ∷ []) x.reads.to c.args.tokens.now c.in_ok-tag.rest.now EndBlock want.EndBlock w left x.reads.leads x.reads.ending known h)
    c.in_err-expect_end.ensures.stuck

pub returns-clause-leads : goal.returns-clause-leads
returns-clause-leads c =
    let x = c.in_ok-tag.ensures.tag in
    ends_here c.args.self.now.source.now (block_word ∷ []) x.reads.to (lexemes_of c.args.tokens.now) (lexemes_of c.in_ok-tag.rest.now) EndBlock an_end_block x.reads.leads x.reads.ending (ap lexemes_of c.in_ok-expect_end.ensures.end)

pub returns-clause-tag : goal.returns-clause-tag
returns-clause-tag c =
    let x = c.in_ok-tag.ensures.tag in
    let ts = (lexemes_of c.args.tokens.now) in
    record {
      tree = x.tree;
      inside = tag_inside c.args.self.now.source.now x.tree ts (subst (λ (rest : List Lexed). IsTagBody c.args.self.now.source.now x.tree ts (lexemes_of rest)) c.in_ok-expect_end.ensures.end x.reads.reads);
      keeps = x.keeps;
      code = x.code;
    }
