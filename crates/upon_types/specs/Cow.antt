-- What is borrowed or owned: the value that a `ValueCow` denotes, and which texts are borrowed.
use Rattle.std.specs.Prelude.{Bool, true, false}
use Rattle.std.specs.declared.borrow.CowStr.{CowStr}
use Rattle.std.specs.declared.borrow.CowStr.TheVariants as text
use Rattle.upon_types.specs.Val.{Val}
use Rattle.upon_types.specs.View.{view}
use Rattle.upon_types.specs.declared.value.cow.ValueCow.{ValueCow}
use Rattle.upon_types.specs.declared.value.cow.ValueCow.TheVariants.{Borrowed, Owned}

-- the value after the reference, or the value itself
abbrev pub cow_view : ValueCow → Val
cow_view (Borrowed v) = view v.now
cow_view (Owned v) = view v

-- whether a text is borrowed, so that a value keeps a copy of it
abbrev pub is_borrowed : {Z : Type 0} → CowStr Z → Bool
is_borrowed (text.Borrowed r) = true
is_borrowed (text.Owned s) = false
