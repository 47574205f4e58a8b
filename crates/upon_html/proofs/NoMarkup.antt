-- No value writes markup.
use Rattle.std.proofs.Common.{◌≡◌, ℕ, List, [], ◌∷◌, Option, ◌||◌, refl, ap, ◌∙◌}
use Rattle.upon_lookup.specs.Environment.{Root}
use Rattle.upon_meaning_spec.specs.Alone.{alone}
use Rattle.upon_meaning_spec.specs.DefaultFormat.{default_format}
use Rattle.upon_meaning_spec.specs.Engine.{Template, Rendering}
use Rattle.upon_meaning_spec.specs.Outcome.{States}
use Rattle.upon_meaning_spec.specs.Marks.{has, FromRawParts}
use Rattle.upon_meaning_spec.specs.Pieces.{pieces_of}
use Rattle.upon_meaning_spec.proofs.RawMarks.{raw_marks}
use Rattle.upon_html.specs.Escape.{escape, is_markup, has_markup}
use Rattle.upon_html.specs.Page.{EscapesAll}
use Rattle.upon_html.proofs.EscapeLaws.{no_markup}

pub has_same : (text : List ℕ) → has is_markup text ≡ has_markup text
has_same [] = refl
has_same (b ∷ bs) = ap (λ x. is_markup b || x) (has_same bs)

pub markup_is_raw : {V T : Type 0} (rendering : Rendering V T) (t : Template) (name : Option (List ℕ)) (root : Root) (s : States V T) → EscapesAll rendering.calls rendering.resolve t → FromRawParts is_markup (pieces_of rendering t name root s) (alone rendering t name root s).text
markup_is_raw rendering t name root s h =
    raw_marks is_markup rendering t name root s
    (λ f can v. ap (has is_markup) (h f can v) ∙ (has_same (escape (default_format v).text) ∙ no_markup (default_format v).text))
