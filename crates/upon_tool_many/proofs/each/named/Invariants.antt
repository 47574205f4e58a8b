use Rattle.std.specs.Vec.{vec_len}
use Rattle.std.specs.Vec.Iter.{into_iter_items}
use Rattle.upon_types.specs.View.{entries_view}
use Rattle.upon_engine.specs.Texts.{texts_of}
use Rattle.upon_tool_many.specs.Each.{NamesItem}
use Rattle.upon_tool_many.proofs.Rows.{EachSoFar, LeftAt}
use Rattle.upon_tool_many.proofs.each.named.Given as goal

-- the pages so far are named, and those that are left are at the next place
abbrev pub invariant-loop-item : goal.invariant-loop-item
invariant-loop-item g l =
    EachSoFar (NamesItem (texts_of (λ f. (g.dyn-1.0.entry f.vtable).1.formats f.value) (λ f. (g.dyn-2.0.entry f.vtable).1.answers f.value) l.fn.engine) l.fn.asked (entries_view l.fn.others.entries)) (into_iter_items l.item-iterator) (into_iter_items l.initial.item-iterator) l.pages.items
    × LeftAt (into_iter_items l.item-iterator) (into_iter_items l.initial.item-iterator) (vec_len l.pages)
