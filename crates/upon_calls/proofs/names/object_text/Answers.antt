use Rattle.std.proofs.Common.{◌≡◌, ◌∙◌, ◌∷◌, [], List, ℕ, false, map, refl, ap}
use Rattle.std.proofs.lemmas.Result.{IfOk-weaker}
use Rattle.serde_json.specs.Data.{string}
use Rattle.serde_json.specs.View.{items_of}
use Rattle.serde_json.specs.Written.{compact_text, has_float, items_have_float}
use Rattle.upon_needs.specs.EngineNeeds.{needed_names, reached_templates, missing_names}
use Rattle.upon_needs.specs.declared.needs.Needs.{Needs}
use Rattle.upon_calls.specs.Names.{needs_data}
use Rattle.upon_calls.proofs.names.object_text.Goals as goal

strings_plain : (names : List (List ℕ)) → items_have_float (items_of (map string names)) ≡ false
strings_plain [] = refl
strings_plain (name ∷ names) = strings_plain names

no_float : (needs : Needs) → has_float (needs_data needs) ≡ false
no_float needs = rw (strings_plain (missing_names needs), strings_plain (needed_names needs), strings_plain (reached_templates needs)) refl

pub returns : goal.returns
returns c =
    let is = c.in_ok-json.ensures in
    IfOk-weaker c.to_string.result _ _ (λ s text. text (ap has_float is ∙ no_float c.args.needs.now) ∙ ap compact_text is) c.to_string.ensures.text
