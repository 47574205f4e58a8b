use Rattle.std.proofs.Common.{◌≡◌, length, option_map}
use denote.Shadow.{shadow}
use denote.Text.{Utf8}
use Rattle.upon_types.specs.Val.{Val}
use Rattle.upon_types.specs.View.{entries_view}
use Rattle.upon_data.specs.AtPath.{rebuilt}
use Rattle.upon_data.specs.Entries.{keys_of, with_member}
use Rattle.upon_data.proofs.at_path.go_in.Given as goal

-- to set a value at the path in the entries is to set it at what is left of the path in those that were gone into
abbrev pub invariant-loop-key : goal.invariant-loop-key
invariant-loop-key l = record {
  text : shadow (Utf8 l.rest);
  sets : (v : Val) → with_member (keys_of l.fn.path) v (entries_view l.fn.entries.entries)
      ≡ option_map (rebuilt l.around.items) (with_member (keys_of l.rest) v (entries_view l.entries.entries));
  whole : rebuilt l.around.items (entries_view l.entries.entries) ≡ entries_view l.fn.entries.entries;
}

abbrev pub decreases-loop-key : goal.decreases-loop-key
decreases-loop-key l = length l.rest
