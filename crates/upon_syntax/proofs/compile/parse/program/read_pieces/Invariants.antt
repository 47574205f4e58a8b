use Rattle.std.proofs.Common.{◌≡◌, ◌-◌, List, [], length, true, false}
use Rattle.upon_delimiters.specs.Searcher.{searcher_delimiters}
use Rattle.upon_compiler.specs.After.{after_all}
use Rattle.upon_compiler.specs.Compiler.{compiler_state, nothing}
use Rattle.upon_syntax.specs.PieceReading.{text_of_reader, pieces_delimiters, pieces_state, HasFound}
use Rattle.upon_syntax.specs.Pieces.{TemplatePiece}
use Rattle.upon_syntax.specs.Told.{events_of}
use Rattle.upon_syntax.specs.TreeTold.{HasBuilt}
use Rattle.upon_syntax.proofs.compile.parse.program.read_pieces.Given as goal

abbrev pub invariant-pieces : goal.invariant-pieces
invariant-pieces l = record {
  text : text_of_reader l.reader ≡ l.fn.source;
  delimiters : pieces_delimiters l.reader ≡ searcher_delimiters l.fn.searcher;
  empty : l.code.items ≡ [];
  found : (found : List TemplatePiece) × HasFound l.reader found
      × (l.fn.is_tree ≡ false → compiler_state l.compiler ≡ after_all (events_of found) nothing)
      × (l.fn.is_tree ≡ true → HasBuilt l.builder found);
}

abbrev pub decreases-pieces : goal.decreases-pieces
decreases-pieces l = length (text_of_reader l.reader) - (pieces_state l.reader).offset
