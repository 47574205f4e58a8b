-- The entries of a map, as one more is put in its place.
use Rattle.std.specs.Prelude.{ℕ, List}
use Rattle.std.specs.Cmp.Lexicographic.{slice_cmp}
use Rattle.std.specs.Ordering.{nat_cmp}
use Rattle.std.specs.declared.cmp.Ordering.{Ordering}
use Rattle.std.specs.declared.cmp.Ordering.TheVariants.{Less, Equal, Greater}
use Rattle.upon_types.specs.Val.{Val, Entries, no_entries, entry_then}

-- one of three lists of entries, by an order
abbrev pub by_order : Ordering → Entries → Entries → Entries → Entries
by_order Less before same behind = before
by_order Equal before same behind = same
by_order Greater before same behind = behind

-- in the order of the keys' bytes; of equal keys the last value counts
abbrev pub with_entry : List ℕ → Val → Entries → Entries
with_entry key v no_entries = entry_then key v no_entries
with_entry key v (entry_then k w es) =
    by_order (slice_cmp nat_cmp key k) (entry_then key v (entry_then k w es)) (entry_then k v es)
    (entry_then k w (with_entry key v es))
