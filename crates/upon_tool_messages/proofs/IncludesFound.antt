-- The first include at a span, among the places of a template's includes.
use Rattle.std.proofs.Common.{◌≡◌, Bool, List, Option, Some, None, find, map, option_map, refl, sym, ap, ◌∙◌}
use Rattle.upon_types.specs.Path.{Ident}
use Rattle.upon_types.specs.declared.types.Span.{Span}
use Rattle.upon_needs.specs.Places.{include_at}
use Rattle.upon_needs.specs.declared.places.IncludePlace.{IncludePlace}
use Rattle.upon_tool_messages.specs.Included.{is_include_at}
use Rattle.upon_tool_messages.proofs.Found.{found_mapped}

-- whether a place is at a span
abbrev pub place_is_at : Span → IncludePlace → Bool
place_is_at span place = is_include_at span (include_at place)

-- the name of an include is that of its place
same_name : (found : Option IncludePlace) → option_map (λ (word : Ident). word.text) (option_map include_at found) ≡ option_map (λ (place : IncludePlace). place.name.now) found
same_name None = refl
same_name (Some place) = refl

-- the first place at a span has the name of the first include there
pub by_places : (span : Span) (places : List IncludePlace) (words : List Ident) (found : Option IncludePlace) → map include_at places ≡ words → find (place_is_at span) places ≡ found
    → option_map (λ (word : Ident). word.text) (find (is_include_at span) words) ≡ option_map (λ (place : IncludePlace). place.name.now) found
by_places span places words found are is =
    ap (λ (words : List Ident). option_map (λ (word : Ident). word.text) (find (is_include_at span) words)) (sym are)
    ∙ (ap (option_map (λ (word : Ident). word.text)) (found_mapped (is_include_at span) include_at places ∙ ap (option_map include_at) is) ∙ same_name found)
