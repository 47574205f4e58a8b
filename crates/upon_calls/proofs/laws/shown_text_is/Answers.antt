use Rattle.upon_calls.proofs.OneShown.{one_shown}
use Rattle.upon_calls.proofs.laws.shown_text_is.Goals as goal

pub returns : goal.returns
returns c = λ delimiters templates sources a b texts x y. one_shown delimiters templates texts sources a b x y
