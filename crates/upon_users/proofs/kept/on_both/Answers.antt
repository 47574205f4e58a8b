use Rattle.std.proofs.Common.{refl, ◌∙◌, string_bytes}
use Rattle.std.proofs.lemmas.Slice.Eq.{bytes_eq-Decides}
use Rattle.upon_users.proofs.KeptTexts.{on_maps}
use Rattle.upon_users.proofs.kept.on_both.Goals as goal

pub returns : goal.returns
returns g c these those is other_is agree =
    let first = c.in_ok-first.ensures in
    let second = c.in_ok-second.ensures in
    let texts = on_maps _ _ _ _ these those _ _ first.laws refl refl first.means.1 second.means.1 is other_is agree in
    let same = (bytes_eq-Decides (string_bytes c.in_ok-first.first) (string_bytes c.in_ok-second.second)).1 in
    c.eq.ensures ∙ same texts
