use Rattle.std.proofs.Common.{rules, ◌≡◌, ◌∙◌, ℕ, Ok, Err, true, ap, sym}
use Rattle.upon_meaning_spec.specs.Outcome.{Outcome, States}
use Rattle.upon_vm.specs.Reports.{IsAnyIo, WritesReported}
use Rattle.upon_engine.specs.Sources.{value_in}
use Rattle.upon_engine.specs.Template.{template_of}
use Rattle.upon.proofs.Renderings.{by_source}
use Rattle.upon_store.specs.Paths.{is_path}
use Rattle.upon_store.specs.Stored.{from_store}
use Rattle.upon_store.specs.declared.store.Folder.{Folder}
use Rattle.upon_store.proofs.store.Store.render.Goals as goal

pub returns-in-Ok : goal.returns-in-Ok
returns-in-Ok g c =
    let made = c.render_from.ensures in
    let by = c.with_template_fn-rendering.ensures in
    let contents = g.W.Write.contents in
    let Says : ℕ → Outcome (States (Unit {0}) (Unit {0})) → Type 0 = λ limit o.
    WritesReported limit IsAnyIo (Ok c.in-Ok.field-0) (contents c.args.writer.now) (contents c.to_writer.new.writer) o in
    let good : is_path c.args.path.now ≡ true = search rules in
    record {
      means = (
        template_of c.in-Some.template.now,
        good,
        sym c.in-Some.ensures,
        by_source _ _ (λ (z : Folder). from_store z.store.now z.path.now) (λ z. tt {0}) Says
            c.with_template_fn-rendering.result _ _ _ _ _ _
            (ap (λ x. x.now) by.engine ∙ made.engine) by.templates (by.template ∙ made.template) (by.name ∙ made.name)
            (by.limit ∙ made.limit) (ap value_in by.values ∙ made.value) c.in-Ok.ensures.means,
      );
    }

pub returns-in-Err : goal.returns-in-Err
returns-in-Err g c =
    let made = c.render_from.ensures in
    let by = c.with_template_fn-rendering.ensures in
    let contents = g.W.Write.contents in
    let Says : ℕ → Outcome (States (Unit {0}) (Unit {0})) → Type 0 = λ limit o.
    WritesReported limit IsAnyIo (Err c.in-Err.error) (contents c.args.writer.now) (contents c.to_writer.new.writer) o in
    let good : is_path c.args.path.now ≡ true = search rules in
    record {
      means = (
        template_of c.in-Some.template.now,
        good,
        sym c.in-Some.ensures,
        by_source _ _ (λ (z : Folder). from_store z.store.now z.path.now) (λ z. tt {0}) Says
            c.with_template_fn-rendering.result _ _ _ _ _ _
            (ap (λ x. x.now) by.engine ∙ made.engine) by.templates (by.template ∙ made.template) (by.name ∙ made.name)
            (by.limit ∙ made.limit) (ap value_in by.values ∙ made.value) c.in-Err.ensures.means,
      );
    }
