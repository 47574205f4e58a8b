use Rattle.std.proofs.Common.{◌≡◌, [], ◌∷◌, Err, ap, sym, subst, ◌∙◌}
use Rattle.std.proofs.lemmas.List.{length-map}
use Rattle.upon_functions.specs.Says.{Says}
use Rattle.upon_types.specs.AstPath.{ident_of}
use Rattle.upon_types.specs.Cow.{cow_view}
use Rattle.upon_meaning_spec.specs.Evaluation.{answer_value, values_of}
use Rattle.upon_vm_steps.specs.Halt.{Emits}
use Rattle.upon_vm_steps.specs.Operands.{row}
use Rattle.upon_vm_steps.proofs.Applications.{all_written, callable_known, only_value}
use Rattle.upon_vm_steps.proofs.Reports.{number_reported}
use Rattle.upon_vm_steps.proofs.Rows.{of_row, values_row}
use Rattle.upon_vm_steps.proofs.emission.emit_with.Goals as goal

pub returns-in-Formatted-clause-emitted : goal.returns-in-Formatted-clause-emitted
returns-in-Formatted-clause-emitted g c =
    let done = c.in-Formatted.ensures {u = tt} in
    let name = ident_of c.args.name.now in
    let given = row c.args.values.now c.args.spans.now in
    let one : values_of given ≡ done.1 ∷ [] = sym (values_row c.args.values.now c.args.spans.now c.requires) ∙ done.3 in
    callable_known c.give.result (g.W.Output.given c.args.out.now) (g.W.Output.given c.give.new.out) (g.C.Callables.default_formatter c.args.callables.now) name c.args.whole given _ _
    (ap (g.C.Callables.callables c.args.callables.now) (sym c.as_str.ensures) ∙ done.2)
    (subst (λ o. Emits c.give.result (g.W.Output.given c.args.out.now) (g.W.Output.given c.give.new.out) o) (sym (only_value done.0 name given done.1 one))
    (c.give.ensures.emitted (done.0 done.1) (all_written c.clear.new.self c.apply.new.f c.in-Formatted.end (done.0 done.1) c.clear.ensures.text done.4)))

pub returns-in-Called-clause-emitted : goal.returns-in-Called-clause-emitted
returns-in-Called-clause-emitted g c =
    let done = c.in-Called.ensures {u = tt} in
    let name = ident_of c.args.name.now in
    let given = row c.args.values.now c.args.spans.now in
    let answer = done.0 (values_of given) in
    callable_known c.emit_found.result (g.W.Output.given c.args.out.now) (g.W.Output.given c.emit_found.new.out) (g.C.Callables.default_formatter c.args.callables.now) name c.args.whole given _ _
    (ap (g.C.Callables.callables c.args.callables.now) (sym c.as_str.ensures) ∙ done.1)
    (c.emit_found.ensures.emitted (answer_value name name.span given answer) (c.report-found.ensures answer
    (of_row (λ a. Says c.in-Called.answer a) done.0 c.args.values.now c.args.spans.now c.requires done.2)))

pub returns-in-Miscounted-clause-emitted : goal.returns-in-Miscounted-clause-emitted
returns-in-Miscounted-clause-emitted g c =
    let done = c.in-Miscounted.ensures {u = tt} in
    let old = g.W.Output.given c.args.out.now in
    let name = ident_of c.args.name.now in
    callable_known (Err c.formatter_expects.result) old old (g.C.Callables.default_formatter c.args.callables.now) name c.args.whole (row c.args.values.now c.args.spans.now) _ _
    (ap (g.C.Callables.callables c.args.callables.now) (sym c.as_str.ensures) ∙ done.1)
    (number_reported old done.0 name c.args.values.now c.args.spans.now c.formatter_expects.result c.requires
    (λ one. done.2 (length-map c.args.values.now cow_view ∙ one)) c.formatter_expects.ensures)
