-- That each turn of the loop that drops a value makes what is left less.
use Rattle.std.proofs.Common.{◌≡◌, ◌+◌, ◌<◌, ◌≤◌, Option, Some, None, Result, Ok, Err, IfOk, IfErr, IfSome, arith}
use Rattle.upon_types.specs.Weight.{bulk}
use Rattle.upon_types.specs.declared.value.Value.{Value}
use Rattle.upon_types.proofs.Weights.{measure, measure-smaller_hand, measure-smaller_both, positive}

-- a list or a map was entered, or what was above comes back
abbrev pub Entered : Value → Value → Result (Value × Value) Value → Type 0
Entered value above (Ok entered) =
    (bulk entered.0 + bulk entered.1 ≤ bulk value + bulk above) × (bulk entered.0 < bulk value)
Entered value above (Err back) = back ≡ above

pub entered_so : (value above : Value) (result : Result (Value × Value) Value)
    → IfOk result (λ entered. bulk entered.0 + bulk entered.1 ≤ bulk value + bulk above)
    → IfOk result (λ entered. bulk entered.0 < bulk value) → IfErr result (λ back. back ≡ above) → Entered value above result
entered_so value above (Ok entered) all less back = (all, less)
entered_so value above (Err b) all less back = back

-- what comes next is less than what there was
abbrev pub Less : Value → Value → Option (Value × Value) → Type 0
Less value above None = Unit {0}
Less value above (Some next) = measure (bulk next.0) (bulk next.1) < measure (bulk value) (bulk above)

pub entered_less : (value above : Value) (entered : Value × Value) → Entered value above (Ok entered) → Less value above (Some entered)
entered_less value above entered so = measure-smaller_hand _ _ _ _ so.0 so.1

pub left_less : (value above : Value) (left : Option (Value × Value))
    → IfSome left (λ l. bulk l.0 + bulk l.1 ≤ bulk above) → Less value above left
left_less value above None some = tt
left_less value above (Some l) some = measure-smaller_both _ _ _ _ (omega (arith, some, positive value))
