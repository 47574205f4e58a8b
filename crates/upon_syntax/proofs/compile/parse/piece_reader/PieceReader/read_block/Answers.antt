use Rattle.std.proofs.Common.{ℕ, List, [], ◌∷◌, ◌++◌, refl, sym, subst, codes}
use Rattle.std.specs.Str.{IsUtf8}
use Rattle.std.proofs.lemmas.Str.{IsUtf8-had}
use Rattle.upon_types.specs.declared.types.token.Token.TheVariants.{BeginBlock}
use Rattle.upon_types.specs.Span.{LiesIn}
use Rattle.upon_language_spec.specs.Blocks.{closer_words}
use Rattle.upon_language_spec.specs.Wanted.{in_quotes}
use Rattle.upon_language_spec.proofs.SpansLieIn.Characters.{had_utf8}
use Rattle.upon_lexer.specs.Lexers.{lexer_text}
use Rattle.upon_types.specs.declared.types.block.Closing.{Closing}
use Rattle.upon_syntax.specs.OpenBlocks.{closer_view, stack_of}
use Rattle.upon_syntax.specs.PieceReading.{text_of_reader, pieces_delimiters, pieces_blocks, token_lexeme}
use Rattle.upon_language_spec.specs.Cut.{Lexeme}
use Rattle.upon_language_spec.specs.Delimiters.{block}
use Rattle.upon_language_spec.specs.Tokens.{without_spaces}
use Rattle.upon_tag_parser.specs.WholeTags.{HoldsTag, IsTagInside}
use Rattle.upon_syntax.specs.Pieces.{block_piece, TagLeads}
use Rattle.upon_syntax.proofs.KeptTokens.{held, each_kept, kept_holds}
use Rattle.upon_syntax.specs.TagReading.{IsSyntaxError}
use Rattle.upon_syntax.proofs.BlockFaults.{first_lies_in}
use Rattle.upon_syntax.proofs.NextTokens.{handed_on, said_at}
use Rattle.upon_syntax.proofs.TagEnds.{after_begin_block, block_step, untaken_first}
use Rattle.upon_syntax.proofs.compile.parse.piece_reader.PieceReader.read_block.Goals as goal

abbrev reason : Closing → List ℕ
reason closer = codes "unexpected " ++ (in_quotes (closer_words (closer_view closer)) ++ codes " block")

pub returns-in_err-tag-clause-fault : goal.returns-in_err-tag-clause-fault
returns-in_err-tag-clause-fault c =
    let self = c.args.self.now in
    let x = c.requires.given.2 in
    let fault = c.in_err-tag.ensures.fault (c.requires.given.1 ++ token_lexeme BeginBlock x.hyphen x.at ∷ []) (after_begin_block self.lexer self.lexer.searcher.now.syntax.has_texts c.requires.given.0 (pieces_blocks self) c.requires.given.1 c.args.begin x) in
    handed_on (IsSyntaxError (pieces_delimiters self) (text_of_reader self)) c.in_err-tag.field-0.0 c.from_residual.result c.from_residual.ensures.1 fault

pub unexpected-requires : goal.unexpected-requires
unexpected-requires c =
    let self = c.args.self.now in
    let lexer = self.lexer in
    let texts = lexer.searcher.now.syntax.has_texts in
    let stack = pieces_blocks self in
    let text = subst IsUtf8 (sym self.same_text) (IsUtf8-had self.source.now self.is_text) in
    let x = c.requires.given.2 in
    let kept = c.in_ok-tag.ensures.tag (c.requires.given.1 ++ token_lexeme BeginBlock x.hyphen x.at ∷ []) (after_begin_block lexer texts c.requires.given.0 stack c.requires.given.1 c.args.begin x) in
    let a = held lexer c.read_block.new.lexer block (c.requires.given.1 ++ token_lexeme BeginBlock x.hyphen x.at ∷ []) c.in_ok-tag.span.n (text_of_reader self) c.read_block.new.self (λ tokens. HoldsTag (text_of_reader self) c.in_ok-tag.tag tokens c.args.code.now.items c.read_block.new.code.items) (TagLeads (text_of_reader self)) kept in
    let passed = rw c.in-Some.is at c.in-Ok.ensures in
    let refused = passed a.tokens.tree a.tokens.keeps in
    let first = untaken_first lexer texts c.requires.given.0 stack c.requires.given.1 c.args.begin c.read_block.new.lexer c.in_ok-tag.ensures.keeps.delimiters c.in_ok-tag.ensures.keeps.text (had_utf8 (pieces_delimiters self) lexer.searcher.now.syntax.has_utf8) text x c.in_ok-tag.tag c.in_ok-tag.span c.args.code.now.items c.read_block.new.code.items a c.in_ok-tag.ensures.start (closer_view c.in-Some.closer) refused.0 refused.1 in
    let F : List ℕ → Type 0 = λ s. LiesIn s c.in_ok-tag.span in
    subst F (sym c.in_ok-tag.ensures.keeps.text) (first_lies_in (pieces_delimiters self) (text_of_reader self) c.in_ok-tag.span (reason c.in-Some.closer) texts lexer.searcher.now.syntax.has_utf8 text first)

pub returns-in-None-clause-tag : goal.returns-in-None-clause-tag
returns-in-None-clause-tag c = λ before ls x.
    let self = c.args.self.now in
    let lexer = self.lexer in
    let texts = lexer.searcher.now.syntax.has_texts in
    let stack = pieces_blocks self in
    let text = subst IsUtf8 (sym self.same_text) (IsUtf8-had self.source.now self.is_text) in
    let kept = c.in_ok-tag.ensures.tag (ls ++ token_lexeme BeginBlock x.hyphen x.at ∷ []) (after_begin_block lexer texts before stack ls c.args.begin x) in
    let a = held lexer c.read_block.new.lexer block (ls ++ token_lexeme BeginBlock x.hyphen x.at ∷ []) c.in_ok-tag.span.n (text_of_reader self) c.read_block.new.self (λ tokens. HoldsTag (text_of_reader self) c.in_ok-tag.tag tokens c.args.code.now.items c.read_block.new.code.items) (TagLeads (text_of_reader self)) kept in
    let passed = rw c.in-None.is at c.in-Ok.ensures in
    let taken = passed a.tokens.tree a.tokens.keeps in
    let on = block_step lexer texts before stack ls c.args.begin c.read_block.new.lexer c.in_ok-tag.ensures.keeps.delimiters c.in_ok-tag.ensures.keeps.text (had_utf8 (pieces_delimiters self) lexer.searcher.now.syntax.has_utf8) text x c.in_ok-tag.tag c.in_ok-tag.span c.args.code.now.items c.read_block.new.code.items a c.in_ok-tag.ensures.start (stack_of c.pass.new.self) taken.0 taken.1 in
    let tags = c.read_block.new.self in
    let P : List Lexeme → Type 0 = λ tokens. HoldsTag (text_of_reader self) c.in_ok-tag.tag tokens c.args.code.now.items c.read_block.new.code.items in
    let holds = kept_holds (text_of_reader self) tags P (TagLeads (text_of_reader self)) (λ tokens. IsTagInside (text_of_reader self) a.tokens.tree tokens) (without_spaces a.inner) kept.tokens a.tokens.inside in
    record { piece = block_piece a.tokens.tree; reads = on; keeps = (a.tokens.tree, refl, a.tokens.keeps); holds = (holds, kept_holds (text_of_reader self) tags P (TagLeads (text_of_reader self)) (TagLeads (text_of_reader self)) (without_spaces a.inner) kept.tokens kept.tokens.leads, each_kept (text_of_reader self) tags P (TagLeads (text_of_reader self)) (without_spaces a.inner) kept.tokens); code = a.tokens.code }

pub returns-in-Some-clause-fault : goal.returns-in-Some-clause-fault
returns-in-Some-clause-fault c =
    let self = c.args.self.now in
    let lexer = self.lexer in
    let texts = lexer.searcher.now.syntax.has_texts in
    let stack = pieces_blocks self in
    let text = subst IsUtf8 (sym self.same_text) (IsUtf8-had self.source.now self.is_text) in
    let x = c.requires.given.2 in
    let kept = c.in_ok-tag.ensures.tag (c.requires.given.1 ++ token_lexeme BeginBlock x.hyphen x.at ∷ []) (after_begin_block lexer texts c.requires.given.0 stack c.requires.given.1 c.args.begin x) in
    let a = held lexer c.read_block.new.lexer block (c.requires.given.1 ++ token_lexeme BeginBlock x.hyphen x.at ∷ []) c.in_ok-tag.span.n (text_of_reader self) c.read_block.new.self (λ tokens. HoldsTag (text_of_reader self) c.in_ok-tag.tag tokens c.args.code.now.items c.read_block.new.code.items) (TagLeads (text_of_reader self)) kept in
    let passed = rw c.in-Some.is at c.in-Ok.ensures in
    let refused = passed a.tokens.tree a.tokens.keeps in
    let first = untaken_first lexer texts c.requires.given.0 stack c.requires.given.1 c.args.begin c.read_block.new.lexer c.in_ok-tag.ensures.keeps.delimiters c.in_ok-tag.ensures.keeps.text (had_utf8 (pieces_delimiters self) lexer.searcher.now.syntax.has_utf8) text x c.in_ok-tag.tag c.in_ok-tag.span c.args.code.now.items c.read_block.new.code.items a c.in_ok-tag.ensures.start (closer_view c.in-Some.closer) refused.0 refused.1 in
    said_at (pieces_delimiters self) (text_of_reader self) (lexer_text c.read_block.new.lexer) c.in_ok-tag.span c.in_ok-tag.span (reason c.in-Some.closer) c.unexpected.result c.in_ok-tag.ensures.keeps.text refl first c.unexpected.ensures
