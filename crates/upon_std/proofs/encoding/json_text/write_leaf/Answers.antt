use Rattle.std.proofs.Common.{ap, sym, subst, ◌∙◌}
use Rattle.upon_types.specs.View.{view}
use Rattle.upon_types.proofs.Views.{view-String}
use Rattle.upon_fmt.specs.Formatter.{Formats}
use Rattle.upon_meaning_spec.specs.DefaultFormat.{format_text}
use Rattle.upon_std.specs.Encoding.JsonParts.{leaf_text}
use Rattle.upon_std.proofs.encoding.json_text.write_leaf.Goals as goal

pub returns-in-String : goal.returns-in-String
returns-in-String c =
    let e = ap view c.in-String.is ∙ view-String _ in
    subst (λ v. Formats c.args.f.now c.write_string.new.f c.write_string.result (format_text (leaf_text v))) (sym e) (c.write_string.ensures _ e)
