use Rattle.std.proofs.Common.{[], ◌∷◌, refl, sym, ap, ◌∙◌}
use Rattle.upon_types.specs.BlockKinds.{end_word, kind_with}
use Rattle.upon_language_spec.specs.Parts.{block_word}
use Rattle.upon_language_spec.specs.Wanted.{a_block_word}
use Rattle.upon_tag_parser.specs.BlockTags.{end_tag}
use Rattle.upon_types.specs.BlockKinds.{block_kind}
use Rattle.upon_tag_parser.specs.TagTokens.{lexemes_of}
use Rattle.upon_tag_parser.proofs.Stuck.{stuck_here}
use Rattle.upon_tag_parser.proofs.Tags.{end_reads, ends_no_block, block_word_refused}
use Rattle.upon_tag_parser.proofs.compile.parse.path.TagParser.parse_closing_tag.Goals as goal

pub returns-in_default-clause-stuck : goal.returns-in_default-clause-stuck
returns-in_default-clause-stuck c none =
    let s = c.args.self.now.source.now in
    let ts = lexemes_of c.args.tokens.now in
    stuck_here s (block_word ∷ []) ts a_block_word (block_word_refused s ts none (λ kind span rest g. c.in_default.ensures.token span rest g.0)) refl

pub returns-in-None-clause-stuck : goal.returns-in-None-clause-stuck
returns-in-None-clause-stuck c none =
    let s = c.args.self.now.source.now in
    let ts = lexemes_of c.args.tokens.now in
    let no_end = ends_no_block s ts (lexemes_of c.in-Some.rest.now) c.in-Some.span c.in-Some.ensures.token (ap (kind_with end_word) (sym c.slice.ensures) ∙ c.in-None.ensures) in
    stuck_here s (block_word ∷ []) ts a_block_word (block_word_refused s ts none no_end) refl

pub returns-in-Some-ended_by-clause-tag : goal.returns-in-Some-ended_by-clause-tag
returns-in-Some-ended_by-clause-tag c =
    let kind = block_kind c.in-Some-ended_by.kind in
    let word = sym c.slice.ensures ∙ c.in-Some-ended_by.ensures in
    record { tree = end_tag kind; reads = end_reads c.args.self.now.source.now kind (lexemes_of c.args.tokens.now) (lexemes_of c.in-Some.rest.now) (_, (c.in-Some.ensures.token, word)); keeps = refl; code = refl }
