use Rattle.std.proofs.Common.{rules, ◌≡◌, IfOk, string_bytes, Option, None, ℤ, subst, sym}
use Rattle.upon_types.specs.Cause.{cause_text}
use Rattle.upon_types.specs.declared.error.cause.Cause.TheVariants.{OutOfRange}
use Rattle.upon_types.proofs.error.cause.out_of_range.Goals as goal

pub returns-in-None : goal.returns-in-None
returns-in-None c =
    let P : Option ℤ → Type 0 = λ n. IfOk c.format-in-None.result (λ text. string_bytes text ≡ cause_text (OutOfRange c.args.argument.now n)) in
    let none : P None = search rules in
    subst P (sym c.in-None.is) none
