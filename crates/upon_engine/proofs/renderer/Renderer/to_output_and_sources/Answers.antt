use Rattle.std.proofs.Common.{List, ℕ, Option, sym, subst}
use Rattle.upon_meaning_spec.specs.Outcome.{states}
use Rattle.upon_vm.specs.Reports.{IsTakenError, WritesAndLeaves}
use Rattle.upon_vm.proofs.Writes.{marks, writes}
use Rattle.upon_engine.specs.Calls.{call_of, outcome}
use Rattle.upon_engine.proofs.Laws.{kept}
use Rattle.upon_engine.proofs.renderer.Renderer.to_output_and_sources.Goals as goal

pub returns-clause-means : goal.returns-clause-means
returns-clause-means g c =
    let o = outcome (call_of g.E.Callables.callables g.E.Callables.default_formatter g.V.Values.asks g.V.Values.root g.V.Values.values_state g.T.TemplateSource.resolve g.T.TemplateSource.template_state c.args.self) in
    let next = states (g.V.Values.values_state c.run-ended.result.1) (g.T.TemplateSource.template_state c.run-ended.result.2) in
    let old = g.O.Output.given c.args.out.now in
    let limit = c.args.self.limit in
    let mid = g.O.Output.mark c.run-ended.new.out in
    let mark = g.O.Output.mark c.reported.new.out in
    let all = writes limit mid mark old (g.O.Output.given c.run-ended.new.out) o next c.run-ended.result.0 c.reported.result c.run-ended.ensures.ran c.reported.ensures.report c.reported.ensures.mark in
    let F : Option (List ℕ) → Type 0 = λ new. WritesAndLeaves limit (IsTakenError mark) c.reported.result old new o next in
    subst F (sym c.reported.ensures.given) all

pub returns-clause-mark : goal.returns-clause-mark
returns-clause-mark g c =
    marks c.args.self.limit (g.O.Output.mark c.args.out.now) (g.O.Output.mark c.run-ended.new.out) (g.O.Output.mark c.reported.new.out)
    c.run-ended.result.0 c.reported.result c.run-ended.ensures.mark c.reported.ensures.report c.reported.ensures.mark

pub returns-clause-laws : goal.returns-clause-laws
returns-clause-laws g c = kept _
