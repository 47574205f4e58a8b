use Rattle.std.proofs.Common.{inl, inr, refl, sym, subst}
use Rattle.upon_tool_io.specs.Paths.{joined_path}
use Rattle.upon_tool_many.proofs.build.copy_file.Goals as goal

pub returns-in-Ok : goal.returns-in-Ok
returns-in-Ok g c =
    let held = subst (λ bytes. (g.R.Sources.world c.args.rt.now).holds (joined_path c.args.asked.now.source.now c.args.path.now) bytes) (sym c.as_slice.ensures.value) c.in-Ok.ensures in
    inl (c.as_slice.result.now, held, c.end_of_write.ensures)

pub returns-in-Err : goal.returns-in-Err
returns-in-Err g c = inr (c.in-Err.fault, refl, inl c.in-Err.ensures, refl)
