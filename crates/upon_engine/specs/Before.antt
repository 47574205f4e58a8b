-- What the calls that make a template keep of the language before `for .. else`.
use Rattle.std.specs.Prelude.{◌≡◌, ℕ, List}
use Rattle.upon_types.specs.Tree.{Statements}
use Rattle.upon_language_spec.specs.Search.{DelimiterText}
use Rattle.upon_before_spec.specs.Grammar.{HasTree as HadTree}
use Rattle.upon_before_spec.specs.Now.{statements_now}
use Rattle.upon_before_spec.specs.Tree.{Statements as StatementsBefore}

-- if the text had a tree, this is that tree
abbrev pub KeepsOldTree : List DelimiterText → List ℕ → Statements → Type 0
KeepsOldTree delimiters s now = (tree : StatementsBefore) → HadTree delimiters s tree → now ≡ statements_now tree

-- the text had no tree
abbrev pub HadNoTree : List DelimiterText → List ℕ → Type 0
HadNoTree delimiters s = (tree : StatementsBefore) → HadTree delimiters s tree → ⊥
