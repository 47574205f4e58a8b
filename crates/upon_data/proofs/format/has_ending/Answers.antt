use Rattle.std.proofs.Common.{ℕ, ◌-◌, List, length, drop, Bool, ap, ◌∙◌}
use Rattle.std.specs.Prelude.{bytes_eq}
use Rattle.std.specs.Str.{str_to_ascii_lowercase}
use Rattle.upon_data.proofs.Endings.{all_left, same_test}
use Rattle.upon_data.proofs.format.has_ending.Goals as goal

-- the path ends so from a place on
abbrev ends_from : ℕ → List ℕ → List ℕ → Bool
ends_from start path ending = bytes_eq (str_to_ascii_lowercase (drop start path)) (str_to_ascii_lowercase ending)

pub returns : goal.returns
returns c =
    let ending = c.args.ending.now in
    same_test _ _ _ c.eq_ignore_ascii_case.ensures.test
    ∙ ap (λ left. bytes_eq (str_to_ascii_lowercase left) (str_to_ascii_lowercase ending)) (all_left c.saturating_sub-start.result c.as_bytes.result.now)
    ∙ ap (λ start. ends_from start c.as_bytes.result.now ending) c.saturating_sub-start.ensures
    ∙ ap (λ path. ends_from (length c.args.path.now - length ending) path ending) c.as_bytes.ensures.value
