-- What values are sorted and grouped by.
use Rattle.std.specs.Prelude.{Option, option_map, unwrap_or}
use denote.Ref.{Bor}
use Rattle.upon_types.specs.Val.{Val, none_val}
use Rattle.upon_types.specs.View.{view}
use Rattle.upon_types.specs.declared.value.Value.{Value}
use Rattle.upon_std.specs.Basic.Items.{value_at_key}
use Rattle.upon_std.specs.declared.ordering.keys.Key.{Key}
use Rattle.upon_std.specs.declared.ordering.keys.Key.TheVariants.{Item, At}

-- what a value is sorted or grouped by
abbrev pub key_val : Key → Val → Val
key_val Item v = v
key_val (At name) v = value_at_key name.now v

-- what a value that is lent denotes, or none if there is none
abbrev pub lent_val : Option (Bor Value) → Val
lent_val found = unwrap_or (option_map (λ v. view v.now) found) none_val
