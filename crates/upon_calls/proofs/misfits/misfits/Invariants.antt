use Rattle.std.proofs.Common.{◌≡◌, [], drop, string_bytes, take}
use Rattle.std.specs.Prelude.{All}
use Rattle.upon_shape.specs.View.{shape_view}
use Rattle.upon_shape_check.specs.Callables.{declared_view}
use Rattle.upon_needs.specs.Names.{texts}
use Rattle.upon_engine.specs.Texts.{texts_of}
use Rattle.upon_shape_check.specs.EndsOn.{EndsOn}
use Rattle.upon_shape_check.specs.Pictures.{shown_view}
use Rattle.upon_calls.specs.Work.{IsOneUnsure}
use Rattle.upon_calls.proofs.Placing.{ShowsOn}
use Rattle.upon_calls.proofs.misfits.misfits.Given as goal

-- if there is no picture, each page so far ends; if there is one, this isn't known of one of the pages; the pages so far
-- are shown
abbrev pub invariant-loop-name : goal.invariant-loop-name
invariant-loop-name g l = record {
  ends : string_bytes l.pictures.text ≡ [] → All (λ name. EndsOn (texts_of (λ f. (g.dyn-1.0.entry f.vtable).1.formats f.value) (λ f. (g.dyn-2.0.entry f.vtable).1.answers f.value) l.fn.engine) (declared_view l.fn.pages.declared.now) name (shape_view l.fn.pages.shape.now)) (texts (take l.name-index l.fn.pages.names.now));
  unsure : (string_bytes l.pictures.text ≡ [] → ⊥) → IsOneUnsure (texts_of (λ f. (g.dyn-1.0.entry f.vtable).1.formats f.value) (λ f. (g.dyn-2.0.entry f.vtable).1.answers f.value) l.fn.engine) l.fn.pages;
  shows : ShowsOn (texts_of (λ f. (g.dyn-1.0.entry f.vtable).1.formats f.value) (λ f. (g.dyn-2.0.entry f.vtable).1.answers f.value) l.fn.engine) (declared_view l.fn.pages.declared.now) (shape_view l.fn.pages.shape.now) (texts l.fn.pages.names.now) (texts (drop l.name-index l.fn.pages.names.now)) (shown_view l.pictures);
}
