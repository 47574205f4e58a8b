-- The delimiters that a list of the code's entries denotes.
use Rattle.std.specs.Prelude.{ℕ, List, map, string_bytes}
use Rattle.upon_types.specs.declared.types.Delimiter.{Delimiter}
use Rattle.upon_language_spec.specs.DefaultDelimiters.{default_delimiters}
use Rattle.upon_language_spec.specs.Search.{DelimiterText}
use Rattle.upon_delimiters.specs.Grown.{nodes_of}
use Rattle.upon_delimiters.specs.declared.syntax.Nodes.{Nodes}
use Rattle.upon_delimiters.specs.declared.syntax.Nodes.TheVariants.{Default as DefaultNodes, Built as BuiltNodes}
use Rattle.upon_delimiters.specs.declared.syntax.trie.Node.{Node}
use Rattle.upon_delimiters.specs.declared.syntax.Entry.{Entry}
use Rattle.upon_delimiters.specs.declared.syntax.Entries.{Entries}
use Rattle.upon_delimiters.specs.declared.syntax.Entries.TheVariants.{Default, Built}

-- a delimiter of this kind with this text
abbrev pub delimiter : Delimiter → List ℕ → DelimiterText
delimiter kind text = record { kind = kind; text = text }

-- the delimiter that an entry denotes
abbrev pub delimiter_text_of : Entry → DelimiterText
delimiter_text_of e = delimiter e.kind (string_bytes e.text)

-- those of the default syntax, or those that were built
abbrev pub entries_list : Entries → List DelimiterText
entries_list Default = default_delimiters
entries_list (Built entries) = map delimiter_text_of entries.items

-- the nodes of the default syntax's trie, or those that were built
abbrev pub nodes_list : Nodes → List Node
nodes_list DefaultNodes = nodes_of default_delimiters
nodes_list (BuiltNodes nodes) = nodes.items
