use Rattle.std.proofs.Common.{sym, subst, string_bytes}
use Rattle.upon.specs.Program.{RendersOn}
use Rattle.upon.proofs.Ended.{ended, ended_well, no_call, unread}
use Rattle.upon.proofs.program.work.Goals as goal

pub returns-in_default-clause-ends : goal.returns-in_default-clause-ends
returns-in_default-clause-ends g c = no_call c.args.args.now _ _ (sym c.in_default.ensures.call)

pub returns-in_err-source-clause-ends : goal.returns-in_err-source-clause-ends
returns-in_err-source-clause-ends g c =
    unread c.args.args.now c.in-Some.name.now c.in-Some.words.now _ c.in_err-source.field-0.0 c.from_residual.result _ c.in-Some.ensures.parts c.from_residual.ensures.1 c.in_err-source.ensures.read

pub returns-in_err-render_on-clause-ends : goal.returns-in_err-render_on-clause-ends
returns-in_err-render_on-clause-ends g c =
    let text = string_bytes c.in_ok-source.source in
    let words = c.in-Some.words.now in
    let old = g.O.Write.contents c.args.out.now in
    let new = g.O.Write.contents c.render_on.new.out in
    let renders = subst (λ name. RendersOn name words text c.render_on.result old new) c.as_str.ensures.value c.render_on.ensures in
    ended c.args.args.now c.in-Some.name.now words _ text c.render_on.result c.in_err-render_on.field-0.0 c.from_residual-in_err-render_on.result old new c.in-Some.ensures.parts c.in_err-render_on.was c.from_residual-in_err-render_on.ensures.1 c.in_ok-source.ensures.read renders

pub returns-clause-ends : goal.returns-clause-ends
returns-clause-ends g c =
    let text = string_bytes c.in_ok-source.source in
    let words = c.in-Some.words.now in
    let old = g.O.Write.contents c.args.out.now in
    let new = g.O.Write.contents c.render_on.new.out in
    let renders = subst (λ name. RendersOn name words text c.render_on.result old new) c.as_str.ensures.value c.render_on.ensures in
    ended_well c.args.args.now c.in-Some.name.now words _ text c.render_on.result old new c.in-Some.ensures.parts c.in_ok-render_on.was c.in_ok-source.ensures.read renders
