use Rattle.std.proofs.Common.{string_bytes}
use Rattle.upon_types.specs.View.{view}
use Rattle.upon_delimiters.specs.Syntax.{syntax_delimiters}
use Rattle.upon_calls.specs.Templates.{lent_pairs}
use Rattle.upon_calls.proofs.Shown.{not_right, shows_wrong}
use Rattle.upon_calls.proofs.check.check_plain.Goals as goal

pub returns-else-branch-clause-wrong : goal.returns-else-branch-clause-wrong
returns-else-branch-clause-wrong c =
    shows_wrong (syntax_delimiters c.args.syntax) (view c.args.templates.now) (lent_pairs c.args.sources.now) (string_bytes c.new-pictures.result) (string_bytes c.check_all.new.pictures) c.new-pictures.ensures.bytes
    (not_right c.in_ok-check_all.field-0 c.if-branch.false c.in_ok-check_all.ensures.right.1) c.in_ok-check_all.ensures.shown
