use Rattle.std.proofs.Common.{subst, sym}
use Rattle.upon_types.specs.Span.{LiesIn}
use Rattle.upon_types.specs.declared.types.Span.{Span}
use Rattle.upon_render.proofs.PathSpan.{path_span_lies_in}
use Rattle.upon_render.proofs.stack.ask_source.Goals as goal

pub wrong-requires : goal.wrong-requires
wrong-requires g c =
    let P : Span → Type 0 = λ at. LiesIn c.args.source.now at in
    subst P (sym c.span.ensures) (path_span_lies_in c.args.source.now _ _ c.requires)
