use Rattle.std.proofs.Common.{◌-◌, get_or, ap, ◌∙◌}
use Rattle.upon_types.proofs.Paths.{last_step-members}
use Rattle.upon_types.proofs.types.ast.path.Var.last.Goals as goal

pub returns : goal.returns
returns c =
    let path = c.args.self.now in
    let last = c.index.result.now in
    last_step-members path.path.items path.not_empty last (c.index.ensures ∙ ap (λ n. get_or path.path.items (n - 1) last) (c.len.ensures ∙ path.path.ok.0))
