use Rattle.std.proofs.Common.{◌≡◌, ap, ◌∙◌}
use Rattle.upon_types.specs.Answers.{Formatter}
use Rattle.upon_types.specs.View.{view}
use Rattle.upon_engine.specs.Changes.{empty_engine, with_default_formatter}
use Rattle.upon_engine.specs.Texts.{Texts}
use Rattle.upon_engine.proofs.Boxed.{boxed_reads}
use Rattle.upon_html.specs.Escaped.{escaped}
use Rattle.upon_users.specs.Pages.{escaping_alone, no_templates}
use Rattle.upon_users.proofs.Answered.{refused_has_none, of_its_own}
use Rattle.upon_users.proofs.pages.page_of_its_own.OwnLists.{own-1, at-1-1}
use Rattle.upon_users.proofs.pages.page_of_its_own.Goals as goal

-- the engine after its formatter is set
set_default : (b : Texts) → b ≡ empty_engine → (a : Texts) (f : Formatter) → a ≡ with_default_formatter f b → f ≡ escaped → a ≡ with_default_formatter escaped empty_engine
set_default b before a f is same = is ∙ λ i. with_default_formatter (same i) (before i)

pub returns-in_err-escape : goal.returns-in_err-escape
returns-in_err-escape c tree has = refused_has_none _ escaping_alone no_templates c.args.source.now tree (view c.args.value.now) _ c.from_residual.ensures.1

pub returns : goal.returns
returns c tree has =
    let is = set_default _ c.new-engine.ensures _ _ c.set_default_formatter.ensures (boxed_reads own-1 at-1-1 _ (λ j v. j.1.formats v) _ _ _ c.into_dyn_box.ensures.1) in
    of_its_own _ _ tree _ _ is has c.escaped_page.ensures
