use Rattle.upon_lookup.specs.Answer.{is_borrowed_value}
use Rattle.upon_render.specs.Frames.{frame_bindings}
use Rattle.upon_render.specs.Loop.{is_lent_loop}
use Rattle.upon_render.specs.declared.stack.Frame.TheVariants.{Var, Loop}
use Rattle.upon_render.proofs.Known.{frame_lends_so}
use Rattle.upon_render.proofs.stack.find_in_frame.Goals as goal

pub returns-in-Var : goal.returns-in-Var
returns-in-Var c env lent =
    rw c.in-Var.is (frame_lends_so c.find_named.result (frame_bindings (Var c.in-Var.ident c.in-Var.value)) env (is_borrowed_value c.in-Var.value) lent _ _ c.find_named.ensures)

pub returns-in-Loop : goal.returns-in-Loop
returns-in-Loop c env lent =
    rw c.in-Loop.is (frame_lends_so c.find.result (frame_bindings (Loop c.in-Loop.state)) env (is_lent_loop c.in-Loop.state) lent _ _ c.find.ensures)
