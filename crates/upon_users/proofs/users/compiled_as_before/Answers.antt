use Rattle.std.proofs.Common.{refl}
use Rattle.std.specs.Cow.{cow_str_bytes}
use Rattle.upon_types.specs.View.{view}
use Rattle.upon_lookup.specs.Environment.{context}
use Rattle.upon_users.proofs.Before.{same_template, memory_alone, memory_answered}
use Rattle.upon_users.proofs.users.compiled_as_before.Goals as goal

pub returns-in_err-template : goal.returns-in_err-template
returns-in_err-template g c before tree had alike =
    let refused = c.in_err-template.ensures in
    memory_answered _ _ c.args.engine.now (context (view c.args.value.now)) before (record { source = cow_str_bytes c.args.source; tree = tree }) c.in_err-template.field-0.0 c.from_residual.result c.from_residual.ensures.1 (memory_alone _ _ _ refused.fault refused.accepted tree had)

pub returns : goal.returns
returns g c before tree had alike =
    let made = c.in_ok-template.ensures in
    c.as_before.ensures before (record { source = cow_str_bytes c.args.source; tree = tree }) (same_template _ _ _ tree _ refl made.source (made.kept tree had)) alike
