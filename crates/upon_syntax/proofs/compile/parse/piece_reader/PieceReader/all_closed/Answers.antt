use Rattle.std.proofs.Common.{ℕ, List, sym, subst, codes, ◌++◌}
use Rattle.std.specs.Str.{IsUtf8}
use Rattle.std.proofs.lemmas.Str.{IsUtf8-had}
use Rattle.upon_types.specs.BlockKinds.{block_word}
use Rattle.upon_language_spec.specs.Wanted.{in_quotes}
use Rattle.upon_types.specs.declared.types.block.BlockKind.{BlockKind}
use Rattle.upon_types.specs.BlockKinds.{block_kind}
use Rattle.upon_syntax.specs.OpenBlocks.{block_of}
use Rattle.upon_syntax.specs.PieceReading.{text_of_reader, pieces_delimiters, pieces_state, pieces_blocks}
use Rattle.upon_syntax.proofs.BlockFaults.{first_lies_in, none_open, unclosed_first}
use Rattle.upon_syntax.proofs.NextTokens.{said_first}
use Rattle.upon_syntax.proofs.compile.parse.piece_reader.PieceReader.all_closed.Goals as goal

abbrev reason : BlockKind → List ℕ
reason kind = codes "unclosed " ++ (in_quotes (block_word (block_kind kind)) ++ codes " block")

pub unclosed-requires : goal.unclosed-requires
unclosed-requires c =
    let self = c.args.self.now in
    let text = subst IsUtf8 (sym self.same_text) (IsUtf8-had self.source.now self.is_text) in
    first_lies_in (pieces_delimiters self) (text_of_reader self) c.in-Some.block.span (reason c.in-Some.block.kind) self.lexer.searcher.now.syntax.has_texts self.lexer.searcher.now.syntax.has_utf8 text (unclosed_first (pieces_delimiters self) (text_of_reader self) self.lexer.searcher.now.syntax.has_texts (pieces_state self) (pieces_blocks self) c.requires.between.0 (block_of c.in-Some.block) c.requires.between.1 c.requires.eof (sym c.in-Some.ensures))

pub returns-in-None-clause-closed : goal.returns-in-None-clause-closed
returns-in-None-clause-closed c = none_open (pieces_blocks c.args.self.now) (sym c.in-None.ensures)

pub returns-in-Some-clause-fault : goal.returns-in-Some-clause-fault
returns-in-Some-clause-fault c =
    let self = c.args.self.now in
    said_first (pieces_delimiters self) (text_of_reader self) c.in-Some.block.span (reason c.in-Some.block.kind) c.unclosed.result (unclosed_first (pieces_delimiters self) (text_of_reader self) self.lexer.searcher.now.syntax.has_texts (pieces_state self) (pieces_blocks self) c.requires.between.0 (block_of c.in-Some.block) c.requires.between.1 c.requires.eof (sym c.in-Some.ensures)) c.unclosed.ensures
