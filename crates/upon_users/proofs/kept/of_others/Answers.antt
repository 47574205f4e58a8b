use Rattle.std.proofs.Common.{sym, ◌∙◌}
use Rattle.upon_users.proofs.kept.of_others.Goals as goal

pub returns : goal.returns
returns g c running left word given one other s next v t finds found =
    let isolated = c.rendered.ensures.laws.isolated in
    isolated running left word given one s v t next finds ∙ sym (isolated running left word given other s v t next found)
