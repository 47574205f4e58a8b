use Rattle.std.proofs.lemmas.Str.Pattern.{contains_text}
use Rattle.upon_std.proofs.BasicLemmas.Parts.{same_truth, found_part, has_part-HasSubslice}
use Rattle.upon_std.proofs.basic.texts.has_inside.Goals as goal

pub returns : goal.returns
returns c =
    let both = contains_text _ _ _ c.contains.ensures.cases in
    same_truth _ _ (λ h. has_part-HasSubslice _ _ (both.0 h)) (λ h. both.1 (found_part _ _ h))
