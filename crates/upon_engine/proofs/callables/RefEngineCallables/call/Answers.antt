use Rattle.std.proofs.Common.{refl}
use Rattle.upon_engine.proofs.callables.RefEngineCallables.call.Goals as goal

pub returns-in-Some-Formatter : goal.returns-in-Some-Formatter
returns-in-Some-Formatter g c =
    let f = c.in-Some-Formatter.field-0-0 in (
      (goal.Format-dyn g (f.vtable, f.value)).formats f.value,
      rw (← c.callable.ensures, c.in-Some-Formatter.is, c.in-Some-Formatter.field-0-is) refl,
    )
