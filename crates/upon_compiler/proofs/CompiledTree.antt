-- The tree of a compiled template, out of the fact that there is one.
use Rattle.std.proofs.Common.{◌≡◌, ℕ, List, sym, subst}
use Rattle.std.specs.Str.{IsUtf8}
use Rattle.std.proofs.Math.Logic.{∥∥₁_elim, ∥∥₁_map}
use Rattle.upon_types.specs.Tree.{Statements}
use Rattle.upon_types.specs.TreeSpans.{TreeLiesIn}
use Rattle.upon_types.proofs.OnlyOne.{only_one}
use Rattle.upon_types.proofs.Sets.{Statements-one_path}
use Rattle.upon_language_spec.specs.Grammar.{HasTree}
use Rattle.upon_language_spec.specs.LiesIn.{HasUtf8}
use Rattle.upon_language_spec.specs.Search.{DelimiterText, HasTexts}
use Rattle.upon_language_spec.proofs.Spans.Trees.{tree_lies_in}
use Rattle.upon_language_spec.proofs.SpansLieIn.Characters.{had_utf8}
use Rattle.upon_language_spec.proofs.OneTree.Tree.{one_whole_tree}
use Rattle.upon_machine_spec.specs.Code.{program_of}
use Rattle.upon_compiler.specs.Program.{program_view}
use Rattle.upon_compiler.specs.declared.types.program.Instr.{Instr}
use Rattle.upon_compiler.specs.Compiled.{HasProgram, IsCompiled, the_tree}
use Rattle.upon_machine_spec.proofs.Sets.{Instrs-one_path}
use Rattle.upon_compiler.proofs.TreeSpans.{TreeLiesIn-prop, tree_spans}

module _ (delimiters : List DelimiterText) (s : List ℕ) (instrs : List Instr) (h : HasProgram delimiters s instrs) where
  abbrev pub kept : Statements
  kept = (the_tree delimiters s instrs h).0

  -- each tree that the text has is this one
  pub only : (tree : Statements) → HasTree delimiters s tree → tree ≡ kept
  only tree has = ∥∥₁_elim (the_tree delimiters s instrs h).1 (Statements-one_path tree kept) (λ k. k.only_tree tree has)

  pub only_tree : (tree : Statements) → HasTree delimiters s tree → (other : Statements) → HasTree delimiters s other → other ≡ kept
  only_tree tree has other k = only other k

  -- where the text has a tree, it has this one
  pub has_tree : (tree : Statements) → HasTree delimiters s tree → HasTree delimiters s kept
  has_tree tree has = subst (HasTree delimiters s) (only tree has) has

  pub had_tree : ∥ HasTree delimiters s kept ∥₁
  had_tree = ∥∥₁_map (the_tree delimiters s instrs h).1 (λ k. k.has_tree)

  -- the instructions are its program
  pub program : program_view instrs ≡ program_of kept
  program = ∥∥₁_elim (the_tree delimiters s instrs h).1 (Instrs-one_path (program_view instrs) (program_of kept)) (λ k. k.program)

  -- its spans lie in the text
  pub spans : TreeLiesIn s kept
  spans = ∥∥₁_elim (the_tree delimiters s instrs h).1 (TreeLiesIn-prop s kept) (λ k. k.spans)

module _ (d e : List DelimiterText) (same : d ≡ e) where
  -- the fact of a template, from a tree that its text has and that tree's program: the text has no other
  pub is_compiled : (s u : List ℕ) (instrs : List Instr) (tree : Statements) → s ≡ u → HasTree d s tree → program_view instrs ≡ program_of tree
      → HasTexts e → ∥ HasUtf8 e ∥₁ → IsUtf8 s → HasProgram e u instrs
  is_compiled s u instrs tree su has code texts utf8 text =
      let k : HasTree e u tree = subst (λ x. HasTree e x tree) su (subst (λ x. HasTree x s tree) same has) in
      let compiled : IsCompiled e u instrs tree = record {
        has_tree = k;
        only_tree = λ other h. one_whole_tree e u other tree texts h k;
        program = code;
        spans = tree_spans u tree (tree_lies_in e u tree texts (had_utf8 e utf8) (subst IsUtf8 su text) k);
      } in
      ∣ (only_one Statements-one_path (IsCompiled e u instrs) (λ a b one other. other.only_tree a one.has_tree), (tree, ∣ compiled ∣₁)) ∣₁

  -- the tree that is kept is the text's
  pub kept_has : (s u : List ℕ) (instrs : List Instr) (h : HasProgram e u instrs) (tree : Statements) → s ≡ u → HasTree d s tree → HasTree d u (kept e u instrs h)
  kept_has s u instrs h tree su has =
      subst (λ x. HasTree x u (kept e u instrs h)) (sym same) (has_tree e u instrs h tree (subst (λ x. HasTree x u tree) same (subst (λ x. HasTree d x tree) su has)))

  pub kept_only : (u : List ℕ) (instrs : List Instr) (h : HasProgram e u instrs) (tree : Statements) → HasTree d u tree → tree ≡ kept e u instrs h
  kept_only u instrs h tree has = only e u instrs h tree (subst (λ x. HasTree x u tree) same has)
