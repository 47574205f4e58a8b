use Rattle.std.proofs.Common.{◌≡◌, ◌∙◌, IfErr, IfOk, refl, ap, subst, string_bytes, take, inl}
use Rattle.upon_types.specs.Error.{fault_of}
use Rattle.upon_delimiters.specs.Syntax.{syntax_delimiters}
use Rattle.upon_engine.specs.Texts.{texts_of}
use Rattle.upon_engine.proofs.Boxed.{boxed_reads}
use Rattle.upon_std.specs.Table.{standard_answer}
use Rattle.upon_calls.specs.Asked.{asked_by}
use Rattle.upon_calls.specs.Escaping.{language_format}
use Rattle.upon_calls.specs.Filled.{engine_for, escaping_engine, filled, with_sources}
use Rattle.upon_calls.specs.Rendering.{IsFirstOfOne}
use Rattle.upon_calls.specs.Templates.{lent_pairs}
use Rattle.upon_calls.specs.Work.{IsAbsent, WorkFails, WorkFaults, WorkGives}
use Rattle.upon_calls.proofs.Filled.{all_added, all_filled, filling_syntax, function_added, lent_contains, source_added, syntax_set, with_language, without_language}
use Rattle.upon_calls.proofs.Rendering.{first_of_one, later_fails, reported}
use Rattle.upon_calls.proofs.work.carry_out.OwnLists.{own-1, own-2, at-1-1, at-1-2, at-2-1}
use Rattle.upon_calls.proofs.work.carry_out.Goals.{in-Some+in_ok-new+in_ok-add_formatter+in_ok-new-2, in_default}
use Rattle.upon_calls.proofs.work.carry_out.Goals as goal

pub loop-function-preserved : goal.loop-function-preserved
loop-function-preserved c =
    function_added c.standard-callables.result.now c.loop-function.function-index _ _ _ _ _ _ _ c.loop-function-test.true c.loop-function.invariant refl c.name.ensures (boxed_reads own-2 at-2-1 _ (λ j v. j.1.answers v) _ _ _ c.into_dyn_box-in-loop-function.ensures.1 ∙ ap standard_answer c.in_ok-boxed.ensures.ok) c.in_ok-add_function.ensures.engine

pub loop-name-preserved : goal.loop-name-preserved
loop-name-preserved c =
    source_added c.args.sources.now c.loop-name.name-index _ _ _ _ _ _ c.loop-name-test.true c.loop-name.invariant refl refl c.in-Ok.ensures.engine

pub returns-in-Err-clause-fails : goal.returns-in-Err-clause-fails
returns-in-Err-clause-fails c =
    let start : texts_of (λ f. (own-1.entry f.vtable).1.formats f.value) (λ f. (own-2.entry f.vtable).1.answers f.value) c.match-escape.engine ≡ escaping_engine c.args.options.escape = elim c.match-escape.branch [
      | in-Some+in_ok-new+in_ok-add_formatter+in_ok-new-2 w ↦ ap (λ x. texts_of (λ f. (own-1.entry f.vtable).1.formats f.value) (λ f. (own-2.entry f.vtable).1.answers f.value) x) w.engine-is ∙ with_language _ _ _ _ _ c.args.options.escape w.in-Some.language w.in-Some.is c.new-engine.ensures w.in_ok-add_formatter.ensures.engine (boxed_reads own-1 at-1-1 _ (λ j v. j.1.formats v) _ _ _ w.into_dyn_box.ensures.1) w.set_default_formatter.ensures (boxed_reads own-1 at-1-2 _ (λ j v. j.1.formats v) _ _ _ w.into_dyn_box-in_ok-new-2.ensures.1 ∙ ap (λ e. language_format e.language) w.in_ok-new-2.ensures.ok)
      | in_default w ↦ ap (λ x. texts_of (λ f. (own-1.entry f.vtable).1.formats f.value) (λ f. (own-2.entry f.vtable).1.answers f.value) x) w.engine-is ∙ without_language _ c.args.options.escape w.in_default.is c.new-engine.ensures
    ] in
    let asked = asked_by c.args.options in
    let begun : texts_of (λ f. (own-1.entry f.vtable).1.formats f.value) (λ f. (own-2.entry f.vtable).1.answers f.value) c.loop-function.engine ≡ engine_for asked = all_added asked c.standard-callables.result.now c.loop-function.function-index _ _ c.standard-callables.ensures c.loop-function-test.false c.loop-function.invariant (syntax_set c.args.options.escape (syntax_delimiters c.args.options.syntax) c.args.options.depth _ _ _ start c.set_syntax.ensures c.set_max_include_depth.ensures) in
    let at = c.loop-name.name-index in
    let same = filling_syntax asked (lent_pairs (take at c.args.sources.now)) (texts_of (λ f. (own-1.entry f.vtable).1.formats f.value) (λ f. (own-2.entry f.vtable).1.answers f.value) c.loop-name.engine) (c.loop-name.invariant ∙ ap (with_sources (lent_pairs (take at c.args.sources.now))) begun) in
    reported _ _ (fault_of c.in-Err.error) c.of_error.result c.of_error.ensures (λ memory. inl (first_of_one asked.delimiters _ (lent_pairs c.args.sources.now) _ c.in-Err.error same (lent_contains c.args.sources.now at _ c.loop-name-test.true) c.in-Err.ensures.fault memory))

pub returns-clause-gives : goal.returns-clause-gives
returns-clause-gives c =
    let start : texts_of (λ f. (own-1.entry f.vtable).1.formats f.value) (λ f. (own-2.entry f.vtable).1.answers f.value) c.match-escape.engine ≡ escaping_engine c.args.options.escape = elim c.match-escape.branch [
      | in-Some+in_ok-new+in_ok-add_formatter+in_ok-new-2 w ↦ ap (λ x. texts_of (λ f. (own-1.entry f.vtable).1.formats f.value) (λ f. (own-2.entry f.vtable).1.answers f.value) x) w.engine-is ∙ with_language _ _ _ _ _ c.args.options.escape w.in-Some.language w.in-Some.is c.new-engine.ensures w.in_ok-add_formatter.ensures.engine (boxed_reads own-1 at-1-1 _ (λ j v. j.1.formats v) _ _ _ w.into_dyn_box.ensures.1) w.set_default_formatter.ensures (boxed_reads own-1 at-1-2 _ (λ j v. j.1.formats v) _ _ _ w.into_dyn_box-in_ok-new-2.ensures.1 ∙ ap (λ e. language_format e.language) w.in_ok-new-2.ensures.ok)
      | in_default w ↦ ap (λ x. texts_of (λ f. (own-1.entry f.vtable).1.formats f.value) (λ f. (own-2.entry f.vtable).1.answers f.value) x) w.engine-is ∙ without_language _ c.args.options.escape w.in_default.is c.new-engine.ensures
    ] in
    let asked = asked_by c.args.options in
    let begun : texts_of (λ f. (own-1.entry f.vtable).1.formats f.value) (λ f. (own-2.entry f.vtable).1.answers f.value) c.loop-function.engine ≡ engine_for asked = all_added asked c.standard-callables.result.now c.loop-function.function-index _ _ c.standard-callables.ensures c.loop-function-test.false c.loop-function.invariant (syntax_set c.args.options.escape (syntax_delimiters c.args.options.syntax) c.args.options.depth _ _ _ start c.set_syntax.ensures c.set_max_include_depth.ensures) in
    let put : texts_of (λ f. (own-1.entry f.vtable).1.formats f.value) (λ f. (own-2.entry f.vtable).1.answers f.value) c.loop-name.engine ≡ filled asked (lent_pairs c.args.sources.now) = all_filled asked c.args.sources.now c.loop-name.name-index _ _ c.loop-name-test.false c.loop-name.invariant begun in
    subst (λ e. IfOk c.do_work.result (λ text. WorkGives asked.limits e c.args.work (string_bytes text))) put c.do_work.ensures.gives

pub returns-clause-fails : goal.returns-clause-fails
returns-clause-fails c =
    let start : texts_of (λ f. (own-1.entry f.vtable).1.formats f.value) (λ f. (own-2.entry f.vtable).1.answers f.value) c.match-escape.engine ≡ escaping_engine c.args.options.escape = elim c.match-escape.branch [
      | in-Some+in_ok-new+in_ok-add_formatter+in_ok-new-2 w ↦ ap (λ x. texts_of (λ f. (own-1.entry f.vtable).1.formats f.value) (λ f. (own-2.entry f.vtable).1.answers f.value) x) w.engine-is ∙ with_language _ _ _ _ _ c.args.options.escape w.in-Some.language w.in-Some.is c.new-engine.ensures w.in_ok-add_formatter.ensures.engine (boxed_reads own-1 at-1-1 _ (λ j v. j.1.formats v) _ _ _ w.into_dyn_box.ensures.1) w.set_default_formatter.ensures (boxed_reads own-1 at-1-2 _ (λ j v. j.1.formats v) _ _ _ w.into_dyn_box-in_ok-new-2.ensures.1 ∙ ap (λ e. language_format e.language) w.in_ok-new-2.ensures.ok)
      | in_default w ↦ ap (λ x. texts_of (λ f. (own-1.entry f.vtable).1.formats f.value) (λ f. (own-2.entry f.vtable).1.answers f.value) x) w.engine-is ∙ without_language _ c.args.options.escape w.in_default.is c.new-engine.ensures
    ] in
    let asked = asked_by c.args.options in
    let begun : texts_of (λ f. (own-1.entry f.vtable).1.formats f.value) (λ f. (own-2.entry f.vtable).1.answers f.value) c.loop-function.engine ≡ engine_for asked = all_added asked c.standard-callables.result.now c.loop-function.function-index _ _ c.standard-callables.ensures c.loop-function-test.false c.loop-function.invariant (syntax_set c.args.options.escape (syntax_delimiters c.args.options.syntax) c.args.options.depth _ _ _ start c.set_syntax.ensures c.set_max_include_depth.ensures) in
    let put : texts_of (λ f. (own-1.entry f.vtable).1.formats f.value) (λ f. (own-2.entry f.vtable).1.answers f.value) c.loop-name.engine ≡ filled asked (lent_pairs c.args.sources.now) = all_filled asked c.args.sources.now c.loop-name.name-index _ _ c.loop-name-test.false c.loop-name.invariant begun in
    later_fails (IsFirstOfOne asked.delimiters (lent_pairs c.args.sources.now)) (WorkFaults asked.limits (filled asked (lent_pairs c.args.sources.now)) c.args.work) (IsAbsent (filled asked (lent_pairs c.args.sources.now)) c.args.work) c.do_work.result
    (subst (λ e. IfErr c.do_work.result (WorkFails (WorkFaults asked.limits e c.args.work) (IsAbsent e c.args.work))) put c.do_work.ensures.fails)
