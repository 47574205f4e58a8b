use Rattle.std.proofs.Common.{◌≡◌, true}
use Rattle.upon_engine.specs.Texts.{texts_of}
use Rattle.upon_tool.proofs.Checked.{checked_by}
use Rattle.upon_tool_pages.proofs.CheckedFiles.{library_right}
use Rattle.upon_tool_pages.proofs.Statuses.{one_no_success}
use Rattle.upon_tool.proofs.work.check_all.Goals.{then-is_right+then-is_whole, else-is_right}
use Rattle.upon_tool.proofs.work.check_all.Goals as goal

pub returns-clause-checks : goal.returns-clause-checks
returns-clause-checks g c =
    let zero : c.if-is_right.result ≡ 0 → c.in_ok-is_right.is_right ≡ true = elim c.if-is_right.branch [
      | then-is_right+then-is_whole w ↦ λ is. w.if-is_right.true
      | else-is_right w ↦ λ is. absurd (one_no_success c.if-is_right.result w.result-is is)
    ] in
    checked_by c.args.callables.now (g.R.Sources.world c.args.rt.now) (texts_of (λ f. (g.dyn-1.0.entry f.vtable).1.formats f.value) (λ f. (g.dyn-2.0.entry f.vtable).1.answers f.value) c.args.engine.now) c.args.names.now _ _ c.if-is_right.result c.in_ok-is_right.is_right _ c.templates_are_the_table.ensures c.one_table.ensures c.in_ok-is_right.ensures.right zero

pub returns-clause-folder : goal.returns-clause-folder
returns-clause-folder g c =
    let zero : c.if-is_right.result ≡ 0 → c.in_ok-is_whole.is_whole ≡ true = elim c.if-is_right.branch [
      | then-is_right+then-is_whole w ↦ λ is. w.if-is_whole.true
      | else-is_right w ↦ λ is. absurd (one_no_success c.if-is_right.result w.result-is is)
    ] in
    λ is. library_right c.args.callables.now (texts_of (λ f. (g.dyn-1.0.entry f.vtable).1.formats f.value) (λ f. (g.dyn-2.0.entry f.vtable).1.answers f.value) c.args.engine.now) c.args.library.now _ c.templates_are_the_table.ensures c.one_table.ensures (c.in_ok-is_whole.ensures (zero is))
