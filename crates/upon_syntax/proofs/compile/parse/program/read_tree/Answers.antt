use Rattle.std.proofs.Common.{refl}
use Rattle.upon_syntax.proofs.BuiltTrees.{tree_of_built}
use Rattle.upon_syntax.proofs.compile.parse.program.read_tree.Goals as goal

pub returns-clause-tree : goal.returns-clause-tree
returns-clause-tree c =
    let b = c.in_ok-read_pieces.ensures.tree refl in
    tree_of_built _ _ b.pieces c.read_pieces.new.builder c.finish.result b.has b.closed b.built c.finish.ensures
