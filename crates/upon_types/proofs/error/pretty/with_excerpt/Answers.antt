use Rattle.std.proofs.Common.{◌≡◌, List, ℕ, Option, Some, None, Bor, option_map, unwrap_or, codes, refl}
use Rattle.upon_types.specs.Pretty.{name_or_anonymous}
use Rattle.upon_types.proofs.error.pretty.with_excerpt.Goals as goal

shown_name : (name : Option (Bor (List ℕ))) (d : Bor (List ℕ)) → d.now ≡ codes "<anonymous>" → (unwrap_or name d).now ≡ name_or_anonymous (option_map (λ n. n.now) name)
shown_name None d is = is
shown_name (Some n) d is = refl

pub returns : goal.returns
returns c =
    let name : c.unwrap_or.result.now ≡ name_or_anonymous (option_map (λ n. n.now) c.args.name) = rw c.unwrap_or.ensures (shown_name c.args.name _ refl) in
    rw (name, c.as_str.ensures.value, c.as_str-2.ensures.value, c.as_str-3.ensures.value, c.in_ok-margin.ensures, c.in_ok-marks.ensures) at c.to_string.ensures.ok
