-- What a template denotes.
use Rattle.std.specs.Prelude.{ℕ, List}
use Rattle.std.specs.Cow.{cow_str_bytes}
use Rattle.upon_types.specs.Tree.{Statements}
use Rattle.upon_language_spec.specs.Search.{DelimiterText}
use Rattle.upon_delimiters.specs.Syntax.{syntax_delimiters}
use Rattle.upon_meaning_spec.specs.Engine.{Template}
use Rattle.upon_compiler.specs.Compiled.{the_tree}
use Rattle.upon_engine.specs.declared.template.Template.{Template as Held}

-- the text that a template was compiled from
abbrev pub template_source : Held → List ℕ
template_source t = cow_str_bytes t.source

-- the delimiters that it was compiled under
abbrev pub template_syntax : Held → List DelimiterText
template_syntax t = syntax_delimiters t.syntax

-- the text's only tree
abbrev pub template_tree : Held → Statements
template_tree t = (the_tree (syntax_delimiters t.syntax) (cow_str_bytes t.source) t.instrs.items t.is_compiled).0

-- the text and the tree
abbrev pub template_of : Held → Template
template_of t = record { source = template_source t; tree = template_tree t }
