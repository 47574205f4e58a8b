use Rattle.std.proofs.Common.{◌≤◌, length}
use Rattle.std.specs.Vec.{vec_capacity, vec_len}
use Rattle.std.specs.Vec.Iter.{into_iter_items}
use Rattle.upon_types.specs.View.{view}
use Rattle.upon_engine.specs.Texts.{texts_of}
use Rattle.upon_tool_many.specs.Build.{DoesPage}
use Rattle.upon_tool_many.proofs.Rows.{DoneSoFar, LeftAt}
use Rattle.upon_tool_many.proofs.build.build_all.Given as goal

-- the pages so far are done, and there is room for those that are left
abbrev pub invariant-loop-page : goal.invariant-loop-page
invariant-loop-page g l =
    DoneSoFar l.fn.asked.keep_going (DoesPage (g.R.Sources.world l.rt) (texts_of (λ f. (g.dyn-1.0.entry f.vtable).1.formats f.value) (λ f. (g.dyn-2.0.entry f.vtable).1.answers f.value) l.fn.engine) l.fn.asked (view l.fn.context)) (into_iter_items l.page-iterator) (into_iter_items l.initial.page-iterator) l.done.items (g.T.Targets.written l.initial.targets) (g.T.Targets.written l.targets)
    × LeftAt (into_iter_items l.page-iterator) (into_iter_items l.initial.page-iterator) (vec_len l.done)
    × (length (into_iter_items l.initial.page-iterator) ≤ vec_capacity l.done)
