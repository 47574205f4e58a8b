use Rattle.std.proofs.Common.{string_cmp, subst, ◌∙◌}
use Rattle.std.proofs.IntoIterSteps.{All-taken}
use Rattle.std.proofs.lemmas.Result.{IfOk-weaker}
use Rattle.std.specs.BTreeMap.{IsFromIterResult}
use Rattle.upon_serde.proofs.entries.map_of.Goals as goal

pub returns : goal.returns
returns c =
    IfOk-weaker c.from_iter.result _ _ (λ m made.
    subst (λ items. IsFromIterResult string_cmp items m) (All-taken made.0 made.1 ((made.3.2 tt).0, (made.3.0, made.3.1, (made.3.2 tt).1)) ∙ made.2.0) made.4) c.from_iter.ensures.ran
