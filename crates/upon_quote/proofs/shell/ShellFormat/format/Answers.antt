use Rattle.std.proofs.Common.{inl, inr, ap, ◌∙◌}
use Rattle.upon_types.specs.Val.{none_val, bool_val, int_val}
use Rattle.upon_types.specs.View.{view}
use Rattle.upon_types.proofs.Views.{view-None, view-Bool, view-Integer}
use Rattle.upon_quote.proofs.PlainDefaults.{NotText, by_view}
use Rattle.upon_quote.proofs.ShellWords.{closes}
use Rattle.upon_quote.proofs.shell.ShellFormat.format.Goals as goal

pub returns-in_ok-default-in-None : goal.returns-in_ok-default-in-None
returns-in_ok-default-in-None c =
    let v = view c.args.value.now in
    let plain : NotText v =
    elim c.in-None.is as (λ x. NotText v) [
      | inl e ↦ by_view v none_val (ap view e ∙ view-None) tt
      | inr a ↦ elim a as (λ x. NotText v) [
        | inl e ↦ by_view v (bool_val e.0) (ap view e.1 ∙ view-Bool e.0) tt
        | inr e ↦ by_view v (int_val e.0) (ap view e.1 ∙ view-Integer e.0) tt
      ]
    ] in
    closes v plain c.args.f.now c.write_str.new.self c.default-in-None.new.f c.write_str-in-None.new.self c.write_str-in-None.result c.in_ok-write_str-in-None.ensures c.in_ok-default-in-None.ensures c.write_str-in-None.ensures
