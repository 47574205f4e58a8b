use Rattle.std.proofs.Common.{◌∙◌}
use Rattle.upon_shape.specs.View.{shape_view}
use Rattle.upon_shape_check.proofs.Scoping.{left_names}
use Rattle.upon_shape_check.proofs.scope.Scope.leave.Goals as goal

pub returns : goal.returns
returns c =
    let names = c.args.self.now.names in
    left_names names.items c.truncate.new.self.items c.args.count c.len.result c.saturating_sub-kept.result (shape_view c.args.self.now.root) (c.len.ensures ∙ names.ok.0) c.saturating_sub-kept.ensures c.truncate.ensures.items
