use Rattle.std.proofs.Common.{◌≡◌, ◌++◌, string_bytes, sym, subst}
use Rattle.std.specs.Fmt.{decimal, sign_text}
use Rattle.std.specs.Result.{IfOk}
use Rattle.upon_std.proofs.basic.decimal.whole_part.Goals as goal

pub returns-else-is_negative : goal.returns-else-is_negative
returns-else-is_negative c =
    subst (λ b. IfOk c.format-else-is_negative.result (λ text. string_bytes text ≡ sign_text b ++ decimal c.args.whole))
    (sym c.if-is_negative.false) c.format-else-is_negative.ensures.ok
