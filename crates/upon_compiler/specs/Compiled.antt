-- What a compiled template keeps: its text has one tree, and the instructions are that tree's program.
use Rattle.std.specs.Prelude.{◌≡◌, ℕ, List}
use Rattle.std.proofs.Math.Logic.{∥∥₁_elim}
use mathlib.Core.HProp.{IsProp-prop}
use Rattle.upon_types.specs.Tree.{Statements}
use Rattle.upon_types.specs.TreeSpans.{TreeLiesIn}
use Rattle.upon_language_spec.specs.Grammar.{HasTree}
use Rattle.upon_language_spec.specs.Search.{DelimiterText}
use Rattle.upon_machine_spec.specs.Code.{program_of}
use Rattle.upon_compiler.specs.Program.{program_view}
use Rattle.upon_compiler.specs.declared.types.program.Instr.{Instr}

-- the tree is the text's only one, the instructions are its program, and its spans lie in the text
pub record IsCompiled (delimiters : List DelimiterText) (s : List ℕ) (instrs : List Instr)
    (tree : Statements) : Type 0 where
  pub has_tree : HasTree delimiters s tree
  pub only_tree : (other : Statements) → HasTree delimiters s other → other ≡ tree
  pub program : program_view instrs ≡ program_of tree
  pub spans : TreeLiesIn s tree

-- a tree that is
abbrev pub CompiledTree : List DelimiterText → List ℕ → List Instr → Type 0
CompiledTree delimiters s instrs = (tree : Statements) × ∥ IsCompiled delimiters s instrs tree ∥₁

-- there is one such tree, and at most one
abbrev pub HasProgram : List DelimiterText → List ℕ → List Instr → Type 0
HasProgram delimiters s instrs =
    ∥ (IsProp (CompiledTree delimiters s instrs) × CompiledTree delimiters s instrs) ∥₁

-- the tree, out of the fact that there is one, and at most one
abbrev pub the_tree : (delimiters : List DelimiterText) (s : List ℕ) (instrs : List Instr)
    → HasProgram delimiters s instrs → CompiledTree delimiters s instrs
the_tree delimiters s instrs h = ∥∥₁_elim h (∥∥₁_elim h IsProp-prop (λ k. k.0)) (λ k. k.1)
