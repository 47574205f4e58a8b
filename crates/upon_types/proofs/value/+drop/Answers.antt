use Rattle.std.proofs.Common.{◌≡◌, ◌+◌, ◌≤◌, ◌∙◌, IfSome, refl, ap, sym, subst, arith, rules}
use denote.Param.Weighed.{most}
use Rattle.upon_types.specs.Val.{Entries, map_val}
use Rattle.upon_types.specs.View.{view}
use Rattle.upon_types.specs.Weight.{bulk}
use Rattle.upon_types.proofs.value.Value.TheLaws.{the_size}
use Rattle.upon_types.proofs.Depths.{all_bare_depth, some_holder_depth, left_depth, most_last, depth-Map}
use Rattle.upon_types.proofs.Dropping.{Entered, Less, entered_less, entered_so, left_less}
use Rattle.upon_types.proofs.value.+drop.Goals as goal
use Rattle.upon_types.proofs.value.+drop.Goals.{Value::take_apart-in-Map+then-are_bare, Value::take_apart-in-Map+else-are_bare, Value::take_apart-in_default, Value::take_apart-in-Ok, Value::take_apart-in-Err}

pub Value::drop-take_apart-requires : goal.Value::drop-take_apart-requires
Value::drop-take_apart-requires t c =
    (omega (arith, c.decreases, some_holder_depth _ (c.are_shallow.ensures c.if-are_shallow.false), depth-Map c.in-Map.entries, ap the_size c.in-Map.is), tt)

pub drop_items-take_apart-requires : goal.drop_items-take_apart-requires
drop_items-take_apart-requires t c =
    let entries = c.in-Ok.entries in
    let item = c.in-Some-shed.ensures.whole entries c.in-Ok.ensures.entries ∙ c.in-Ok.ensures.entries in
    let last = most_last c.pop.new.self.items c.in-Some.item in
    let deep = some_holder_depth _ (c.are_shallow.ensures c.if-are_shallow.false) in
    (omega (arith, c.decreases, c.loop-item.invariant, ap (most the_size) c.in-Some.ensures.items, last, deep, depth-Map entries, ap the_size item), tt)

pub drop_items-take_apart-requires-in-Err : goal.drop_items-take_apart-requires-in-Err
drop_items-take_apart-requires-in-Err t c =
    let item = c.in-Some.item in
    let left = c.in-Some-shed.left in
    let back = c.in-Err.ensures.back in
    let other : (es : Entries) → view left ≡ map_val es → ⊥ = λ es is. c.in-Err.ensures.other es (ap view back ∙ is) in
    let deep = left_depth item left c.in-Some-shed.ensures.left other in
    (omega (arith, c.decreases, c.loop-item.invariant, ap (most the_size) c.in-Some.ensures.items, most_last c.pop.new.self.items item, deep), tt)

pub Value::take_apart-drop-requires : goal.Value::take_apart-drop-requires
Value::take_apart-drop-requires t c κs =
    (((omega (arith, c.decreases, all_bare_depth _ (sym c.are_bare.ensures ∙ c.if-are_bare.true)), tt), tt), search rules)

pub Value::take_apart-loop-self-smaller : goal.Value::take_apart-loop-self-smaller
Value::take_apart-loop-self-smaller t c =
    let value = c.loop-self.self in
    let above = c.loop-self.above in
    let entered : Entered value above c.match-self.entered = elim c.match-self.branch [
      | Value::take_apart-in-Map+then-are_bare w ↦ subst (Entered value above) (sym w.entered-is) refl
      | Value::take_apart-in-Map+else-are_bare w ↦ subst (Entered value above) (sym w.entered-is)
          (subst (λ v. Entered v above w.enter.result) (sym w.in-Map.is)
          (entered_so _ above w.enter.result w.enter.ensures.all w.enter.ensures.less w.enter.ensures.back))
      | Value::take_apart-in_default w ↦ subst (Entered value above) (sym w.entered-is)
          (entered_so value above w.enter-entered.result w.enter-entered.ensures.all w.enter-entered.ensures.less w.enter-entered.ensures.back)
    ] in
    let less : Less value above c.match-entered.next = elim c.match-entered.branch [
      | Value::take_apart-in-Ok w ↦ subst (Less value above) (sym w.next-is) (entered_less value above _ (subst (Entered value above) w.in-Ok.is entered))
      | Value::take_apart-in-Err w ↦ subst (Less value above) (sym w.next-is)
          (left_less value above w.leave-next.result (subst (λ a. IfSome w.leave-next.result (λ l. bulk l.0 + bulk l.1 ≤ bulk a)) (subst (Entered value above) w.in-Err.is entered) w.leave-next.ensures))
    ] in
    subst (Less value above) c.in-Some.is less
