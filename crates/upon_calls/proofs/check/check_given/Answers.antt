use Rattle.std.proofs.Common.{◌≡◌, ◌∙◌, Some, option_map, ap, subst}
use Rattle.upon_types.specs.View.{view}
use Rattle.upon_shape.specs.View.{shape_view}
use Rattle.upon_needs.specs.Names.{texts}
use Rattle.upon_calls.specs.Asked.{asked_by}
use Rattle.upon_calls.specs.Check.{AreRight}
use Rattle.upon_calls.specs.Contexts.{contexts_by, LacksPage}
use Rattle.upon_calls.specs.Templates.{lent_pairs}
use Rattle.upon_calls.proofs.CheckedPages.{made, right_on}
use Rattle.upon_calls.proofs.Unsure.{doubt_shown}
use Rattle.upon_calls.proofs.check.check_given.Goals as goal

pub returns-clause-right : goal.returns-clause-right
returns-clause-right c =
    let pages = option_map (λ some. texts some.items) c.in-Some.field-0.pages in
    let is : option_map contexts_by c.args.checking.contexts ≡ Some (made (shape_view c.in-Some.field-0.shape) (option_map (λ some. texts some.items) c.in-Some.field-0.pages)) = cc (ap (option_map contexts_by) c.in-Some.is) in
    let right = subst (λ ds. AreRight ds (view c.args.templates.now) (lent_pairs c.args.sources.now)) c.in_ok-try_clone.ensures.list c.in_ok-check_plain.ensures.right in
    right_on c.check_pages.result (asked_by c.args.checking.options) (option_map contexts_by c.args.checking.contexts) (shape_view c.in-Some.field-0.shape) pages (view c.args.templates.now) (lent_pairs c.args.sources.now) (texts c.as_slice.result.now) is right c.in_ok-pages.ensures.there (ap texts c.as_slice.ensures.value ∙ c.in_ok-pages.ensures.names) c.check_pages.ensures.ends

pub returns-clause-fails : goal.returns-clause-fails
returns-clause-fails c =
    let contexts = option_map contexts_by c.args.checking.contexts in
    let pages = option_map (λ some. texts some.items) c.in-Some.field-0.pages in
    let is : contexts ≡ Some (made (shape_view c.in-Some.field-0.shape) (option_map (λ some. texts some.items) c.in-Some.field-0.pages)) = cc (ap (option_map contexts_by) c.in-Some.is) in
    let right = subst (λ ds. AreRight ds (view c.args.templates.now) (lent_pairs c.args.sources.now)) c.in_ok-try_clone.ensures.list c.in_ok-check_plain.ensures.right in
    doubt_shown c.check_pages.result (asked_by c.args.checking.options) contexts (shape_view c.in-Some.field-0.shape) pages (view c.args.templates.now) (lent_pairs c.args.sources.now) (texts c.as_slice.result.now) (LacksPage contexts (view c.args.templates.now)) c.args.checking.options.syntax.has_texts is right c.in_ok-pages.ensures.there (ap texts c.as_slice.ensures.value ∙ c.in_ok-pages.ensures.names) c.check_pages.ensures.fails
