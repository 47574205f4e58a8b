use Rattle.std.proofs.Common.{◌≡◌, suc, ◌-◌, ◌∙◌, string_bytes, arith}
use Rattle.std.proofs.lemmas.Result.{IfOk-weaker}
use Rattle.upon_std.proofs.EncodingLemmas.Fronts.{truncated-cut, truncated-text}
use Rattle.upon_std.proofs.encoding.truncating.truncated.Goals as goal

pub returns-then-fits : goal.returns-then-fits
returns-then-fits c =
    let whole = truncated-text c.fits.result c.args.columns c.args.text.now c.utf8.text c.fits.ensures c.if-fits.true in
    IfOk-weaker c.from_str.result _ _ (λ s e. e ∙ whole) c.from_str.ensures.ok

pub returns : goal.returns
returns c =
    let one_less : c.args.columns ≡ suc (c.args.columns - 1) = omega arith in
    truncated-cut c.fits.result c.args.columns (c.args.columns - 1) _ (string_bytes c.in_ok-cut.cut) (string_bytes c.push.new.self) c.fits.ensures
    c.if-fits.false one_less c.in_ok-cut.ensures c.in_ok-push.ensures.bytes
