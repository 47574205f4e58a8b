use Rattle.std.proofs.Common.{ap, inl, inr, subst, sym}
use Rattle.upon_shape.specs.View.{shape_view}
use Rattle.upon_shape_check.specs.Callables.{declared_view}
use Rattle.upon_engine.specs.Texts.{texts_of}
use Rattle.upon_shape_check.specs.EndsOn.{EndsOn}
use Rattle.upon_calls.proofs.CheckedPages.{each_name_holds, name_holds, no_name_yet}
use Rattle.upon_needs.specs.Names.{texts}
use Rattle.upon_shape_check.specs.Pictures.{ShownSoFar, shown_view}
use Rattle.upon_calls.proofs.Placing.{ShowsOn, all_shown, page_shown}
use Rattle.upon_calls.proofs.Unsure.{a_name}
use Rattle.upon_calls.proofs.misfits.misfits.Goals as goal

pub loop-name-init : goal.loop-name-init
loop-name-init g c = record {
  ends = λ empty. no_name_yet (λ name. EndsOn (texts_of (λ f. (g.dyn-1.0.entry f.vtable).1.formats f.value) (λ f. (g.dyn-2.0.entry f.vtable).1.answers f.value) c.args.engine.now) (declared_view c.args.pages.declared.now) name (shape_view c.args.pages.shape.now)) c.args.pages.names.now;
  unsure = λ some. absurd (some (ap (λ (s : ShownSoFar). s.text) c.new-pictures.ensures));
  shows = subst (λ (start : ShownSoFar). ShowsOn (texts_of (λ f. (g.dyn-1.0.entry f.vtable).1.formats f.value) (λ f. (g.dyn-2.0.entry f.vtable).1.answers f.value) c.args.engine.now) (declared_view c.args.pages.declared.now) (shape_view c.args.pages.shape.now) (texts c.args.pages.names.now) (texts c.args.pages.names.now) start) (sym c.new-pictures.ensures) (λ last more. more);
}

pub loop-name-preserved : goal.loop-name-preserved
loop-name-preserved g c = record {
  ends = λ empty.
      let both = c.in_ok-show_page.ensures.ends empty in
      name_holds (λ name. EndsOn (texts_of (λ f. (g.dyn-1.0.entry f.vtable).1.formats f.value) (λ f. (g.dyn-2.0.entry f.vtable).1.answers f.value) c.args.engine.now) (declared_view c.args.pages.declared.now) name (shape_view c.args.pages.shape.now)) c.args.pages.names.now c.loop-name.name-index _ c.loop-name-test.true (c.loop-name.invariant.ends both.0) both.1;
  unsure = λ some. elim (c.in_ok-show_page.ensures.unsure some) [
    | inl before ↦ c.loop-name.invariant.unsure before
    | inr here ↦ (_, a_name c.args.pages.names.now c.loop-name.name-index _ c.loop-name-test.true, here)
  ];
  shows = page_shown (texts_of (λ f. (g.dyn-1.0.entry f.vtable).1.formats f.value) (λ f. (g.dyn-2.0.entry f.vtable).1.answers f.value) c.args.engine.now) (declared_view c.args.pages.declared.now) (shape_view c.args.pages.shape.now) c.args.pages.names.now c.loop-name.name-index _ (shown_view c.loop-name.pictures) (shown_view c.show_page.new.pictures) c.loop-name-test.true c.loop-name.invariant.shows c.in_ok-show_page.ensures.shows;
}

pub returns-clause-fits : goal.returns-clause-fits
returns-clause-fits g c = λ empty.
    each_name_holds (λ name. EndsOn (texts_of (λ f. (g.dyn-1.0.entry f.vtable).1.formats f.value) (λ f. (g.dyn-2.0.entry f.vtable).1.answers f.value) c.args.engine.now) (declared_view c.args.pages.declared.now) name (shape_view c.args.pages.shape.now)) c.args.pages.names.now c.loop-name.name-index c.loop-name-test.false (c.loop-name.invariant.ends empty)

pub returns-clause-shows : goal.returns-clause-shows
returns-clause-shows g c =
    (c.loop-name.pictures.left, all_shown (texts_of (λ f. (g.dyn-1.0.entry f.vtable).1.formats f.value) (λ f. (g.dyn-2.0.entry f.vtable).1.answers f.value) c.args.engine.now) (declared_view c.args.pages.declared.now) (shape_view c.args.pages.shape.now) c.args.pages.names.now c.loop-name.name-index (shown_view c.loop-name.pictures) c.loop-name-test.false c.loop-name.invariant.shows)
