use Rattle.std.proofs.Common.{rules}
use Rattle.upon_vm.specs.Reports.{IsAnyIo, WritesReported}
use Rattle.upon_vm.proofs.Writes.{writes_any}
use Rattle.upon_engine.specs.Calls.{call_of, outcome}
use Rattle.upon_engine.proofs.Laws.{kept}
use Rattle.upon_engine.proofs.renderer.Renderer.to_writer.Goals as goal

pub returns-clause-means : goal.returns-clause-means
returns-clause-means g c =
    let contents = g.W.Write.contents in
    let o = outcome (call_of g.E.Callables.callables g.E.Callables.default_formatter g.V.Values.asks g.V.Values.root g.V.Values.values_state g.T.TemplateSource.resolve g.T.TemplateSource.template_state c.args.self) in
    let said : WritesReported c.args.self.limit IsAnyIo c.to_output.result (contents c.new-out.result.writer.now) (contents c.to_output.new.out.writer.now) o =
    writes_any _ _ _ _ _ c.to_output.result c.to_output.ensures.means in
    search rules

pub returns-clause-laws : goal.returns-clause-laws
returns-clause-laws g c = kept _
