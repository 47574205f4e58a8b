-- The default syntax itself.
use Rattle.std.specs.Prelude.{◌≡◌}
use Rattle.upon_delimiters.specs.declared.syntax.Entries.TheVariants.{Default}
use Rattle.upon_delimiters.specs.declared.syntax.Nodes.TheVariants.{Default as DefaultNodes}
use Rattle.upon_delimiters.specs.declared.syntax.Syntax.{Syntax}

-- it was not built, and takes no memory
abbrev pub IsDefault : Syntax → Type 0
IsDefault syntax = (syntax.entries ≡ Default) × (syntax.nodes ≡ DefaultNodes)
