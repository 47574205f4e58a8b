-- What an open tag awaits, and the mode in it.
use Rattle.std.proofs.Common.{◌≡◌, Bool, Option, Some, refl, ap, ◌∙◌}
use Rattle.upon_language_spec.specs.Cut.{in_tag}
use Rattle.upon_language_spec.specs.Delimiters.{expression, block}
use Rattle.upon_language_spec.specs.Delimiters as language
use Rattle.upon_lexer.specs.Roles.{sort_of}
use Rattle.upon_language_spec.specs.Faults.{awaited_sort}
use Rattle.upon_lexer.specs.OpenTags.{mode_in, mode_of}
use Rattle.upon_lexer.specs.declared.compile.roles.Sort.{Sort}
use Rattle.upon_lexer.specs.declared.compile.roles.Sort.TheVariants.{Expr, Block, Comment}
use Rattle.upon_lexer.specs.declared.compile.tags.OpenTag.{OpenTag}

awaited_in : (sort : Sort) (in_path : Bool) → awaited_sort (mode_in sort in_path) ≡ Some (sort_of sort)
awaited_in Expr in_path = refl
awaited_in Block in_path = refl
awaited_in Comment in_path = refl

pub awaited_of : (tag : Option OpenTag) (open_tag : OpenTag) → tag ≡ Some open_tag → awaited_sort (mode_of tag) ≡ Some (sort_of open_tag.sort)
awaited_of tag open_tag e = ap (λ t. awaited_sort (mode_of t)) e ∙ awaited_in open_tag.sort open_tag.in_path

mode_inside : (sort : Sort) (in_path : Bool) → (sort ≡ Comment → ⊥) → (x : language.Sort) × (mode_in sort in_path ≡ in_tag x in_path)
mode_inside Expr in_path none = (expression, refl)
mode_inside Block in_path none = (block, refl)
mode_inside Comment in_path none = absurd (none refl)

-- where no comment is open
pub inside_of : (tag : Option OpenTag) (open_tag : OpenTag) → tag ≡ Some open_tag → (open_tag.sort ≡ Comment → ⊥) → (x : language.Sort) × (mode_of tag ≡ in_tag x open_tag.in_path)
inside_of tag open_tag e none = let mode = mode_inside open_tag.sort open_tag.in_path none in (mode.0, ap mode_of e ∙ mode.1)
