use Rattle.std.proofs.Common.{sym, ◌∙◌}
use Rattle.upon_types.proofs.Views.{view-List}
use Rattle.upon_schema.proofs.Writing.{not_one}
use Rattle.upon_schema.proofs.write.one_or_all.Goals as goal

pub returns : goal.returns
returns c =
    let vs = c.args.values in
    view-List vs ∙ sym (not_one vs.items vs.len vs.ok.0 (λ one. c.if-len-eq1.false (c.len.ensures ∙ one)))
