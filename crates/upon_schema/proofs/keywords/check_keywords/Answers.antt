use Rattle.std.proofs.Common.{List, string_bytes, sym, ap, subst, ◌∙◌}
use Rattle.upon_types.specs.Val.{entry_at}
use Rattle.upon_types.specs.View.{view, entries_view}
use Rattle.upon_types.proofs.Views.{Entry}
use Rattle.upon_schema.specs.Refused.{is_known_keyword}
use Rattle.upon_schema.specs.Valid.{IsThere}
use Rattle.upon_schema.proofs.Refusals.{first_there, unknown_here}
use Rattle.upon_schema.proofs.keywords.check_keywords.Goals as goal

pub returns-then-not-is_known : goal.returns-then-not-is_known
returns-then-not-is_known c =
    let keyword = c.deref-then-not-is_known.result.now in
    unknown_here keyword (string_bytes c.new.result) (view c.args.schema.now) c.inside.result c.new.ensures.bytes
    (c.loop-keyword.invariant keyword (subst (λ (es : List Entry). IsThere (entry_at keyword (entries_view es))) (sym c.in-Some.ensures.steps)
    (first_there keyword (string_bytes c.in-Some.keyword.now) (view c.in-Some.field-0-1.now) (entries_view c.next.new.self) c.deref-then-not-is_known.ensures)))
    (ap is_known_keyword (c.deref-then-not-is_known.ensures ∙ sym c.deref.ensures) ∙ sym c.is_known.ensures ∙ c.if-not-is_known.true) c.inside.ensures
