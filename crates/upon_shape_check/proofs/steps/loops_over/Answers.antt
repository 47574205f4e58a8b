use Rattle.std.proofs.Common.{ap, sym, option_map, ◌∙◌}
use Rattle.upon_types.specs.AstPath.{loop_vars_of}
use Rattle.upon_shape.specs.View.{shape_view}
use Rattle.upon_shape_check.specs.Known.{known_view}
use Rattle.upon_shape_check.proofs.Acting.{loop_in_doubt, loop_over}
use Rattle.upon_shape_check.proofs.steps.loops_over.Goals as goal

pub returns-in-Some : goal.returns-in-Some
returns-in-Some c = λ number o is d inc.
    loop_over d inc number (loop_vars_of c.args.names.now) c.args.span (known_view c.args.known.now) (known_view c.bind_loop.new.self) o (shape_view c.args.shape) (shape_view c.in-Some.item) is
    (sym (ap (option_map shape_view) c.in-Some.is) ∙ c.in_ok-item.ensures) c.in_ok-bind_loop-in-Some.ensures

pub returns : goal.returns
returns c = λ number o is d inc.
    loop_in_doubt d inc number (loop_vars_of c.args.names.now) c.args.span (known_view c.args.known.now) (known_view c.bind_loop-in-None.new.self) o (shape_view c.args.shape) (shape_view c.never.result) is
    (sym (ap (option_map shape_view) c.in-None.is) ∙ c.in_ok-item.ensures) c.never.ensures c.in_ok-bind_loop-in-None.ensures
