use Rattle.std.proofs.Common.{◌<◌, ◌∙◌, sym, arith}
use Rattle.upon_shape_check.specs.Known.{outside}
use Rattle.upon_shape_check.specs.Scope.{scope_view}
use Rattle.upon_shape_check.proofs.Stepping.{ends_in}
use Rattle.upon_shape_check.proofs.known.Known.is_at_end.Goals as goal

pub returns : goal.returns
returns c =
    let scope = scope_view c.args.self.now.scope in
    let blocks = c.args.self.now.blocks in
    let block = c.index.result.now in
    let some : 0 < c.len-count.result = omega arith in
    c.has_ended.ensures (outside block scope) ∙ sym (ends_in c.args.number scope blocks.items block c.len-count.result (c.len-count.ensures ∙ blocks.ok.0) some c.index.ensures)
