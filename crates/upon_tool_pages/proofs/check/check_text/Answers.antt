use Rattle.std.proofs.Common.{sym, ap}
use Rattle.upon_tool_pages.proofs.Refused.{no_name_missing, not_compiled, some_missing}
use Rattle.upon_tool_pages.proofs.check.check_text.Goals as goal

pub returns-in-Err : goal.returns-in-Err
returns-in-Err g c = not_compiled c.args.callables.now _ _ c.args.name.now _ c.in-Err.error c.with_name-error.result (sym c.if-is_memory.ensures) c.with_name-error.ensures.fault c.in-Err.ensures.fault c.in-Err.ensures.no_tree (λ first. ap (λ f. f.kind) first.3)

pub returns-then-is_empty : goal.returns-then-is_empty
returns-then-is_empty g c = no_name_missing c.args.callables.now _ _ c.args.name.now _ _ c.in_ok-missing.missing.items c.in_ok-missing.missing.len _ c.in_ok-missing.missing.ok.0 (sym c.if-is_empty.ensures) c.in-Ok.ensures.has_tree c.in-Ok.ensures.only_tree c.in_ok-missing.ensures c.in_ok-are_right.ensures.right

pub returns : goal.returns
returns g c = some_missing c.args.callables.now _ _ c.args.name.now _ _ c.in_ok-missing.missing.items c.in_ok-missing.missing.len c.in_ok-missing.missing.ok.0 (sym c.if-is_empty.ensures) c.in-Ok.ensures.only_tree c.in_ok-missing.ensures
