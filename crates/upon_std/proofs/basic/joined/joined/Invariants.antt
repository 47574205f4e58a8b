use Rattle.std.proofs.Common.{◌≡◌, [], map, drop, string_bytes}
use Rattle.upon_types.specs.View.{view}
use Rattle.upon_std.specs.Basic.Joined.{before_piece, prefixed, joined_from}
use Rattle.upon_std.proofs.basic.joined.joined.Given as goal

-- the text so far, and after it what is made of the items that are left, is the whole
abbrev pub invariant-loop-item : goal.invariant-loop-item
invariant-loop-item l =
    prefixed (string_bytes l.text) (joined_from (before_piece l.is_first l.separator) l.separator (map view (drop l.item-index l.items)))
    ≡ joined_from [] l.separator (map view l.items)
