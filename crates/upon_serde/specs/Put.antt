-- Entries that are put into a map one after the other.
use Rattle.std.specs.Prelude.{List, [], ◌∷◌, String, string_bytes}
use Rattle.std.specs.declared.alloc.Global.{Global}
use Rattle.upon_types.specs.View.{view}
use Rattle.upon_types.specs.declared.value.Value.{Value}
use Rattle.upon_serde.specs.declared.entries.Entries.{Entries}
use Rattle.upon_serde.specs.declared.entries.Entries.TheVariants.{Map, Row}
use Rattle.upon_serde.specs.Data.{Pairs, with_pair}
use Rattle.upon_serde.specs.Reads.{entry_pairs}

-- the pairs with entries put in, one after the other
abbrev pub pairs_put : List (String Global × Value) → Pairs → Pairs
pairs_put [] pairs = pairs
pairs_put (e ∷ es) pairs = pairs_put es (with_pair (string_bytes e.0) (view e.1) pairs)

-- the pairs that entries make
abbrev pub pairs_so_far : Entries → Pairs
pairs_so_far (Map map) = entry_pairs map.entries
pairs_so_far (Row row) = pairs_put row.items []
