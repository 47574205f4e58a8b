-- The extension of templates at the end of a path.
use Rattle.std.proofs.Common.{◌≡◌, ◌-◌, ◌==◌, ℕ, List, [], ◌∷◌, Bool, true, false, Option, Some, None, Bor, length, take, option_map, arith, refl, sym, ap, subst, ◌∙◌}
use Rattle.std.proofs.lemmas.Str.Pattern.{ends_text}
use Rattle.std.specs.List.{ends_with}
use Rattle.std.specs.Option.{MatchOption}
use Rattle.std.specs.Prelude.{◌&&◌, nat_eq, if◌then◌else◌}
use Rattle.std.specs.Str.{byte, IsCharBoundary}
use Rattle.std.specs.Str.Pattern.{FindsTextSuffix, StripsSuffix}
use Rattle.upon_tool_many.specs.Names.{extension, has_stem, page_name, without_extension}

-- what is left of a text before another one at its end
pub stripped : (n s : List ℕ) (r : Option (Bor (List ℕ))) → MatchOption r (FindsTextSuffix n s None) (λ x. StripsSuffix (FindsTextSuffix n) s x.now)
    → option_map (λ x. x.now) r ≡ (if ends_with nat_eq s n then Some (take (length s - length n) s) else None)
stripped n s None absent = rw (sym (ends_text false n s absent)) refl
stripped n s (Some x) found =
    let here : true ≡ ends_with nat_eq s n = ends_text true n s (found.0, found.1, omega arith, subst (λ k. IsCharBoundary s (length s - k)) (sym found.1.0) found.1.2) in
    rw (sym here) (ap Some (found.2 ∙ ap (λ k. take (length s - k) s) found.1.0))

named_if : (b : Bool) (w name : List ℕ) → Some name ≡ (if b then Some w else None) → has_stem name ≡ true → Some name ≡ (if b && has_stem w then Some w else None)
named_if true w name is stem =
    let same : name ≡ w = cc in
    subst (λ w. Some name ≡ (if has_stem w then Some w else None)) same (rw stem refl)
named_if false w name is stem = absurd cc

stem_of : (name : List ℕ) → (length name == 0) ≡ false → ends_with nat_eq name (byte "/" ∷ []) ≡ false → has_stem name ≡ true
stem_of name some no_slash = rw (some, no_slash) refl

-- a path without its extension is the name of a page, if it is still that of a file
pub page_named : (path name : List ℕ) → Some name ≡ (if ends_with nat_eq path extension then Some (without_extension path) else None)
    → (length name == 0) ≡ false → ends_with nat_eq name (byte "/" ∷ []) ≡ false → Some name ≡ page_name path
page_named path name is some no_slash = named_if (ends_with nat_eq path extension) (without_extension path) name is (stem_of name some no_slash)
