-- The places of names.
use Rattle.std.proofs.Common.{◌≡◌, ◌<◌, ◌+◌, ℕ, List, [], Bool, true, false, cond, Option, Some, None, Bor, BTreeMap, length, get_or, nat_cmp, string_bytes, arith, refl, sym, ap, subst, ◌∙◌}
use Rattle.std.proofs.lemmas.List.{get_or-map, length-map}
use Rattle.std.proofs.lemmas.Map.Text.{btree_map_updates_str}
use Rattle.std.proofs.lemmas.Slice.Eq.{bytes_eq-Decides}
use Rattle.std.specs.BTreeMap.{UpdatesBy, get_by, is_at}
use Rattle.std.specs.Cmp.Lexicographic.{slice_cmp}
use Rattle.std.specs.Map.{lookup}
use Rattle.std.specs.Option.{MatchOption}
use Rattle.std.specs.Str.{bytes_eq}
use borrow.Author.Count.{below_more}
use Rattle.upon_tool_many.specs.Names.{page_names, DifferBelow, IsFirstAgain}
use Rattle.upon_tool_many.specs.declared.pages.Page.{Page}

-- the place of a name, by a map
abbrev pub place_of : BTreeMap (Bor (List ℕ)) ℕ → List ℕ → Option ℕ
place_of places name = get_by (λ k. slice_cmp nat_cmp name k.now) places

-- each name so far is at a place where it is, and no two are equal
abbrev pub PlacesSoFar : List (List ℕ) → BTreeMap (Bor (List ℕ)) ℕ → ℕ → Type 0
PlacesSoFar names places n = DifferBelow names n × ((name : List ℕ) → MatchOption (place_of places name)
    ((k : ℕ) → k < n → get_or names k [] ≡ name → ⊥)
    (λ k. (k < n) × (get_or names k [] ≡ name)))

pub places_begun : (names : List (List ℕ)) (places : BTreeMap (Bor (List ℕ)) ℕ) → places.entries ≡ [] → PlacesSoFar names places 0
places_begun names places empty = (
  λ i j below last same. absurd (omega arith),
  λ name. subst (λ es. MatchOption (lookup (is_at (λ k. slice_cmp nat_cmp name k.now)) es) ((k : ℕ) → k < 0 → get_or names k [] ≡ name → ⊥) (λ k. (k < 0) × (get_or names k [] ≡ name))) (sym empty) (λ k low same. absurd (omega arith)),
)

-- no place so far has a name that the map does not have
not_yet : (names : List (List ℕ)) (places : BTreeMap (Bor (List ℕ)) ℕ) (n : ℕ) (name : List ℕ) → place_of places name ≡ None → PlacesSoFar names places n → (k : ℕ) → k < n → get_or names k [] ≡ name → ⊥
not_yet names places n name absent so_far =
    subst (λ o. MatchOption o ((k : ℕ) → k < n → get_or names k [] ≡ name → ⊥) (λ k. (k < n) × (get_or names k [] ≡ name))) absent (so_far.1 name)

more_at : (here : Bool) (o : Option ℕ) (names : List (List ℕ)) (n : ℕ) (name other : List ℕ) → (here ≡ true → name ≡ other) → (name ≡ other → here ≡ true) → get_or names n [] ≡ name
    → MatchOption o ((k : ℕ) → k < n → get_or names k [] ≡ other → ⊥) (λ k. (k < n) × (get_or names k [] ≡ other))
    → MatchOption (cond here (Some n) o) ((k : ℕ) → k < n + 1 → get_or names k [] ≡ other → ⊥) (λ k. (k < n + 1) × (get_or names k [] ≡ other))
more_at true o names n name other same differs is so_far = (omega arith, is ∙ same refl)
more_at false None names n name other same differs is so_far =
    below_more (λ k. get_or names k [] ≡ other → ⊥) n (λ k low. so_far k low) (λ at. absurd (cc (differs (sym is ∙ at))))
more_at false (Some k) names n name other same differs is so_far = (omega (arith, so_far.0), so_far.1)

pub places_more : (names : List (List ℕ)) (places new : BTreeMap (Bor (List ℕ)) ℕ) (n : ℕ) (name : List ℕ) → get_or names n [] ≡ name → place_of places name ≡ None
    → UpdatesBy (λ x y. slice_cmp nat_cmp x.now y.now) (λ k. slice_cmp nat_cmp name k.now) places new (Some n) → PlacesSoFar names places n → PlacesSoFar names new (n + 1)
places_more names places new n name is absent updates so_far = (
  λ i j below last same. below_more (λ j. i < j → get_or names i [] ≡ get_or names j [] → ⊥) n (λ j last below same. so_far.0 i j below last same) (λ below same. not_yet names places n name absent so_far i below (same ∙ is)) j last below same,
  λ other. subst (λ o. MatchOption o ((k : ℕ) → k < n + 1 → get_or names k [] ≡ other → ⊥) (λ k. (k < n + 1) × (get_or names k [] ≡ other))) (sym (btree_map_updates_str name places new (Some n) updates other))
      (more_at (bytes_eq name other) (place_of places other) names n name other (bytes_eq-Decides name other).0 (bytes_eq-Decides name other).1 is (so_far.1 other)),
)

-- the place of the next name is known, so that this is the first one that is there again
pub first_again_at : (names : List (List ℕ)) (places : BTreeMap (Bor (List ℕ)) ℕ) (n first : ℕ) (name : List ℕ) → n < length names → get_or names n [] ≡ name → place_of places name ≡ Some first → PlacesSoFar names places n → IsFirstAgain names (Some (first, n))
first_again_at names places n first name inside is known so_far =
    let at = subst (λ o. MatchOption o ((k : ℕ) → k < n → get_or names k [] ≡ name → ⊥) (λ k. (k < n) × (get_or names k [] ≡ name))) known (so_far.1 name) in
    (at.0, inside, at.1 ∙ sym is, so_far.0)

-- the name of the page at a place
pub name_here : {T : Type 0} (pages : List (Page T)) (n : ℕ) (page : Page T) (name : List ℕ) → n < length pages → get_or pages n page ≡ page → name ≡ string_bytes page.name → get_or (page_names pages) n [] ≡ name
name_here pages n page name inside is named =
    get_or-map (λ page. string_bytes page.name) pages n page [] inside ∙ ap (λ page. string_bytes page.name) is ∙ sym named

pub place_inside : {T : Type 0} (pages : List (Page T)) (n : ℕ) → n < length pages → n < length (page_names pages)
place_inside pages n inside = subst (λ count. n < count) (sym (length-map pages (λ page. string_bytes page.name))) inside
