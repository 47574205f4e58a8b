use Rattle.std.proofs.Common.{ap, ◌∙◌}
use Rattle.upon_language_spec.proofs.OneTree.Tree.{one_whole_tree}
use Rattle.upon_machine_spec.specs.Code.{program_of}
use Rattle.upon_tree.specs.Ast.{tree_of}
use Rattle.upon_syntax.proofs.laws_of_trees.one_program.Goals as goal

pub returns : goal.returns
returns c = λ delimiters s code template texts is has. is.program ∙ ap program_of (one_whole_tree delimiters s is.tree (tree_of template) texts is.has_tree has)
