use Rattle.std.proofs.Common.{sym}
use Rattle.upon_shape_check.proofs.Shaping.{looped_pair}
use Rattle.upon_shape_check.proofs.loops.looped.Goals as goal

pub returns-in_ok-value_shape-in-KeyValue-None-default : goal.returns-in_ok-value_shape-in-KeyValue-None-default
returns-in_ok-value_shape-in-KeyValue-None-default c =
    looped_pair c.args.names.now c.in-KeyValue-None-default.field-0-0 c.args.shape.now c.in-OneOf.plain c.in-OneOf.items c.in-OneOf.keys _ c.in-KeyValue-None-default.is-0 c.in-OneOf.is c.in-KeyValue-None-default.is-1
    (sym c.if-is_any.ensures) c.in_ok-value_shape-in-KeyValue-None-default.ensures
