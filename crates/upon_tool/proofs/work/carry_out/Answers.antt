use Rattle.std.proofs.Common.{◌≡◌, ◌∙◌, IfErr, refl, sym, ap, subst, inr, string_bytes}
use Rattle.std.proofs.lemmas.List.{nil_from_length}
use Rattle.std.proofs.lemmas.Result.{IfOk-weaker}
use Rattle.std.specs.Vec.Iter.{into_iter_items}
use Rattle.upon_engine.specs.Texts.{texts_of, Texts}
use Rattle.upon_engine.proofs.Boxed.{boxed_reads}
use Rattle.upon_std.specs.Table.{standard_answer}
use Rattle.upon_calls.specs.Escaping.{language_format}
use Rattle.upon_calls.specs.Filled.{escaping_engine}
use Rattle.upon_tool_pages.specs.Fitting.{language_for}
use Rattle.upon_tool.specs.Filled.{tool_engine, with_page, TakesFiles, TakesRead}
use Rattle.upon_tool_pages.specs.Missing.{LibraryIsRight}
use Rattle.upon_tool.specs.Work.{checked_files, IfChecked, IsUnreadOf}
use Rattle.upon_tool.proofs.Calls.{work_out_of_memory, work_refused}
use Rattle.upon_calls.proofs.Filled.{function_added, with_language, without_language}
use Rattle.upon_tool.proofs.Filled.{all_added, file_taken, if_both, no_page, none_taken, page_put, page_refused, read_passed, read_taken, taken_from, work_kept}
use Rattle.upon_tool.proofs.FolderFiles.{folder_begun, folder_checked, folder_ended, folder_more, took_text, Took}
use Rattle.upon_tool.proofs.work.carry_out.OwnLists.{own-1, own-2, at-1-1, at-1-2, at-2-1}
use Rattle.upon_tool.proofs.work.carry_out.Goals.{in-Some+in_ok-new+in_ok-add_formatter+in_ok-new-2, in_default, in-Ok+in_ok-refusal-in-Ok, in-Err+in_ok-of_read-in-Err, in-Some-page+in_ok-add_template, in_default-page}
use Rattle.upon_tool.proofs.work.carry_out.Goals as goal

pub loop-function-preserved : goal.loop-function-preserved
loop-function-preserved g c = (
  c.loop-function.invariant.0,
  function_added c.args.templates.functions.now c.loop-function.function-index _ _ _ _ _ _ _ c.loop-function-test.true c.loop-function.invariant.1 refl c.name.ensures (boxed_reads own-2 at-2-1 _ (λ j v. j.1.answers v) _ _ _ c.into_dyn_box-in-loop-function.ensures.1 ∙ ap standard_answer c.in_ok-boxed.ensures.ok) c.in_ok-add_function.ensures.engine,
  c.loop-function.invariant.2,
)

pub loop-file-init : goal.loop-file-init
loop-file-init g c = (refl, λ e takes. takes, folder_begun c.new-library.result (texts_of (λ f. (own-1.entry f.vtable).1.formats f.value) (λ f. (own-2.entry f.vtable).1.answers f.value) c.loop-function.engine) (into_iter_items c.into_iter-file-iterator.result) c.new-library.ensures.names, refl)

pub loop-file-preserved : goal.loop-file-preserved
loop-file-preserved g c =
    let held : Texts = texts_of (λ f. (own-1.entry f.vtable).1.formats f.value) (λ f. (own-2.entry f.vtable).1.answers f.value) c.loop-file.engine in
    let next : Texts = texts_of (λ f. (own-1.entry f.vtable).1.formats f.value) (λ f. (own-2.entry f.vtable).1.answers f.value) c.match-read.engine in
    let read : TakesRead (string_bytes c.in-Some-file.file.name) c.in-Some-file.file.read held next = elim c.match-read.branch [
      | in-Ok+in_ok-refusal-in-Ok w ↦ read_taken _ _ c.in-Some-file.file.read w.in-Ok.text held (texts_of (λ f. (own-1.entry f.vtable).1.formats f.value) (λ f. (own-2.entry f.vtable).1.answers f.value) w.add_template.new.self) next w.add_template.result w.of_added.result w.in_ok-refusal-in-Ok.refusal c.as_str.ensures.value w.in-Ok.is (ap (λ x. texts_of (λ f. (own-1.entry f.vtable).1.formats f.value) (λ f. (own-2.entry f.vtable).1.answers f.value) x) w.engine-is) w.in_ok-refusal-in-Ok.was w.of_added.ensures w.add_template.ensures.engine w.add_template.ensures.fault w.add_template.ensures.no_tree
      | in-Err+in_ok-of_read-in-Err w ↦ read_passed _ c.in-Some-file.file.read w.in-Err.fault held next w.in-Err.is (ap (λ x. texts_of (λ f. (own-1.entry f.vtable).1.formats f.value) (λ f. (own-2.entry f.vtable).1.answers f.value) x) w.engine-is)
    ] in
    let took : Took (string_bytes c.in-Some-file.file.name) c.match-read.refusal held next = elim c.match-read.branch [
      | in-Ok+in_ok-refusal-in-Ok w ↦ took_text _ _ (string_bytes w.in-Ok.text) held (texts_of (λ f. (own-1.entry f.vtable).1.formats f.value) (λ f. (own-2.entry f.vtable).1.answers f.value) w.add_template.new.self) next w.add_template.result w.of_added.result w.in_ok-refusal-in-Ok.refusal c.match-read.refusal c.as_str.ensures.value (ap (λ x. texts_of (λ f. (own-1.entry f.vtable).1.formats f.value) (λ f. (own-2.entry f.vtable).1.answers f.value) x) w.engine-is) w.in_ok-refusal-in-Ok.was w.of_added.ensures w.add_template.ensures.engine w.refusal-is
      | in-Err+in_ok-of_read-in-Err w ↦ inr (w.in_ok-of_read-in-Err.field-0, w.refusal-is, ap (λ x. texts_of (λ f. (own-1.entry f.vtable).1.formats f.value) (λ f. (own-2.entry f.vtable).1.answers f.value) x) w.engine-is)
    ] in (
      c.loop-file.invariant.0,
      λ e takes. c.loop-file.invariant.1 e (file_taken c.in-Some-file.file _ _ held next e c.in-Some-file.ensures.steps.0 read takes),
      folder_more _ c.match-read.refusal held next c.loop-file.library c.add.new.self c.in-Some-file.file _ _ (into_iter_items c.into_iter-file-iterator.result) c.as_str-in-loop-file.ensures.value c.in-Some-file.ensures.steps.0 took c.in_ok-add.ensures.names c.in_ok-add.ensures.refused c.loop-file.invariant.2,
      c.loop-file.invariant.3,
    )

pub returns-in_err-add-clause-refused : goal.returns-in_err-add-clause-refused
returns-in_err-add-clause-refused g c = work_out_of_memory (g.R.Sources.world c.args.rt.now) c.args.templates c.args.work c.from_residual-in_err-add.result c.from_residual-in_err-add.ensures.1

pub returns-in_err-add_template-clause-refused : goal.returns-in_err-add_template-clause-refused
returns-in_err-add_template-clause-refused g c =
    let start : texts_of (λ f. (own-1.entry f.vtable).1.formats f.value) (λ f. (own-2.entry f.vtable).1.answers f.value) c.match-language_for.engine ≡ escaping_engine (language_for c.args.templates.escape) = elim c.match-language_for.branch [
      | in-Some+in_ok-new+in_ok-add_formatter+in_ok-new-2 w ↦ ap (λ x. texts_of (λ f. (own-1.entry f.vtable).1.formats f.value) (λ f. (own-2.entry f.vtable).1.answers f.value) x) w.engine-is ∙ with_language _ _ _ _ _ (language_for c.args.templates.escape) w.in-Some.language (sym c.language_for.ensures ∙ w.in-Some.is) c.new-engine.ensures w.in_ok-add_formatter.ensures.engine (boxed_reads own-1 at-1-1 _ (λ j v. j.1.formats v) _ _ _ w.into_dyn_box.ensures.1) w.set_default_formatter.ensures (boxed_reads own-1 at-1-2 _ (λ j v. j.1.formats v) _ _ _ w.into_dyn_box-in_ok-new-2.ensures.1 ∙ ap (λ e. language_format e.language) w.in_ok-new-2.ensures.ok)
      | in_default w ↦ ap (λ x. texts_of (λ f. (own-1.entry f.vtable).1.formats f.value) (λ f. (own-2.entry f.vtable).1.answers f.value) x) w.engine-is ∙ without_language _ (language_for c.args.templates.escape) (sym c.language_for.ensures ∙ w.in_default.is) c.new-engine.ensures
    ] in
    let begun : texts_of (λ f. (own-1.entry f.vtable).1.formats f.value) (λ f. (own-2.entry f.vtable).1.answers f.value) c.loop-function.engine ≡ tool_engine c.args.templates.escape c.args.templates.functions.now = all_added c.args.templates.functions.now c.loop-function.function-index c.args.templates.escape _ _ c.loop-function-test.false c.loop-function.invariant.1 start in
    let folder : Texts = texts_of (λ f. (own-1.entry f.vtable).1.formats f.value) (λ f. (own-2.entry f.vtable).1.answers f.value) c.loop-file.engine in
    let filled : TakesFiles c.args.templates.files.items (tool_engine c.args.templates.escape c.args.templates.functions.now) folder = taken_from c.args.templates.files.items _ _ _ folder c.into_iter-file-iterator.ensures.into_iter_gives.0 begun (c.loop-file.invariant.1 folder (none_taken _ folder (nil_from_length (into_iter_items c.loop-file.file-iterator) (sym c.loop-file.file-iterator.rest.ok.0 ∙ c.in-None.ensures.steps.0)))) in
    page_refused (g.R.Sources.world c.args.rt.now) c.args.templates c.args.work c.in-Some-page.name c.in-Some-page.source folder c.in_err-add_template.field-0.0 c.from_residual-in_err-add_template.result (sym c.loop-function.invariant.0 ∙ sym c.loop-file.invariant.0 ∙ c.in-Some-page.is) c.from_residual-in_err-add_template.ensures.1 c.in_err-add_template.ensures.fault filled

pub returns-clause-ends : goal.returns-clause-ends
returns-clause-ends g c =
    let start : texts_of (λ f. (own-1.entry f.vtable).1.formats f.value) (λ f. (own-2.entry f.vtable).1.answers f.value) c.match-language_for.engine ≡ escaping_engine (language_for c.args.templates.escape) = elim c.match-language_for.branch [
      | in-Some+in_ok-new+in_ok-add_formatter+in_ok-new-2 w ↦ ap (λ x. texts_of (λ f. (own-1.entry f.vtable).1.formats f.value) (λ f. (own-2.entry f.vtable).1.answers f.value) x) w.engine-is ∙ with_language _ _ _ _ _ (language_for c.args.templates.escape) w.in-Some.language (sym c.language_for.ensures ∙ w.in-Some.is) c.new-engine.ensures w.in_ok-add_formatter.ensures.engine (boxed_reads own-1 at-1-1 _ (λ j v. j.1.formats v) _ _ _ w.into_dyn_box.ensures.1) w.set_default_formatter.ensures (boxed_reads own-1 at-1-2 _ (λ j v. j.1.formats v) _ _ _ w.into_dyn_box-in_ok-new-2.ensures.1 ∙ ap (λ e. language_format e.language) w.in_ok-new-2.ensures.ok)
      | in_default w ↦ ap (λ x. texts_of (λ f. (own-1.entry f.vtable).1.formats f.value) (λ f. (own-2.entry f.vtable).1.answers f.value) x) w.engine-is ∙ without_language _ (language_for c.args.templates.escape) (sym c.language_for.ensures ∙ w.in_default.is) c.new-engine.ensures
    ] in
    let begun : texts_of (λ f. (own-1.entry f.vtable).1.formats f.value) (λ f. (own-2.entry f.vtable).1.answers f.value) c.loop-function.engine ≡ tool_engine c.args.templates.escape c.args.templates.functions.now = all_added c.args.templates.functions.now c.loop-function.function-index c.args.templates.escape _ _ c.loop-function-test.false c.loop-function.invariant.1 start in
    let folder : Texts = texts_of (λ f. (own-1.entry f.vtable).1.formats f.value) (λ f. (own-2.entry f.vtable).1.answers f.value) c.loop-file.engine in
    let filled : TakesFiles c.args.templates.files.items (tool_engine c.args.templates.escape c.args.templates.functions.now) folder = taken_from c.args.templates.files.items _ _ _ folder c.into_iter-file-iterator.ensures.into_iter_gives.0 begun (c.loop-file.invariant.1 folder (none_taken _ folder (nil_from_length (into_iter_items c.loop-file.file-iterator) (sym c.loop-file.file-iterator.rest.ok.0 ∙ c.in-None.ensures.steps.0)))) in
    let whole : Texts = texts_of (λ f. (own-1.entry f.vtable).1.formats f.value) (λ f. (own-2.entry f.vtable).1.answers f.value) c.match-page-9.engine in
    let put : whole ≡ with_page c.args.templates.page folder = elim c.match-page-9.branch [
      | in-Some-page+in_ok-add_template w ↦ page_put c.args.templates.page w.in-Some-page.name w.in-Some-page.source folder whole (sym c.loop-function.invariant.0 ∙ sym c.loop-file.invariant.0 ∙ w.in-Some-page.is) (ap (λ x. texts_of (λ f. (own-1.entry f.vtable).1.formats f.value) (λ f. (own-2.entry f.vtable).1.answers f.value) x) w.engine-is ∙ w.in_ok-add_template.ensures.engine)
      | in_default-page w ↦ no_page c.args.templates.page folder whole (sym c.loop-function.invariant.0 ∙ sym c.loop-file.invariant.0 ∙ w.in_default-page.is) (ap (λ x. texts_of (λ f. (own-1.entry f.vtable).1.formats f.value) (λ f. (own-2.entry f.vtable).1.answers f.value) x) w.engine-is)
    ] in
    let so_far = folder_ended c.loop-file.library folder _ _ c.args.templates.files.items (nil_from_length (into_iter_items c.loop-file.file-iterator) (sym c.loop-file.file-iterator.rest.ok.0 ∙ c.in-None.ensures.steps.0)) c.into_iter-file-iterator.ensures.into_iter_gives.0 c.loop-file.invariant.2 in
    let same = c.loop-file.invariant.3 ∙ c.loop-function.invariant.2 in
    IfOk-weaker c.do_work.result _ _ (λ status said. (whole, (folder, filled, put), c.held_has_tree.ensures, work_kept (g.R.Sources.world c.args.rt.now) c.args.work _ whole (g.I.Read.remaining c.args.input.now) status (g.O.Write.contents c.args.out.now) (g.O.Write.contents c.do_work.new.out) (g.T.Targets.written c.args.targets.now) (g.T.Targets.written c.do_work.new.targets) same said.0, λ zero. folder_checked c.args.work c.loop-file.library folder whole c.args.templates.page c.args.templates.files.items put so_far (subst (λ work. IfChecked work (λ callables. LibraryIsRight callables whole c.loop-file.library)) same (said.1 zero)))) (if_both _ _ c.do_work.result c.do_work.ensures.ends c.do_work.ensures.folder)

pub returns-clause-refused : goal.returns-clause-refused
returns-clause-refused g c =
    let same = c.loop-file.invariant.3 ∙ c.loop-function.invariant.2 in
    work_refused (g.R.Sources.world c.args.rt.now) c.args.templates c.args.work c.do_work.result (subst (λ work. IfErr c.do_work.result (IsUnreadOf (g.R.Sources.world c.args.rt.now) (checked_files work))) same c.do_work.ensures.refused)
