-- Scopes of a program: one name more, some fewer, copies, and what is found from the innermost name on.
use Rattle.std.proofs.Common.{◌≡◌, ℕ, ◌+◌, ◌-◌, ◌<◌, ◌≤◌, zero, suc, List, [], ◌∷◌, ◌++◌, length, take, drop, get_or, Option, Some, None, Bool, true, false, cond, ◌&&◌, option_map, refl, sym, ap, ◌∙◌, arith}
use Rattle.std.specs.Str.{bytes_eq}
use Rattle.upon_shape_spec.specs.Scope.{BoundShape, NameShape, first_bound_shape, both_wider, names_wider}
use Rattle.upon_shape_spec.specs.Shape.{Shape}
use Rattle.upon_shape_check.specs.Scope.{bound_view, name_depth, name_view, names_view}
use Rattle.upon_shape_check.specs.declared.scope.NameShape.{NameShape as CodeName}
use Rattle.upon_shape_check.proofs.Names.{scope_of}
use Rattle.upon_shape_check.proofs.OnTop.{drop-on_top, on_top-more, on_top-push}

pub bound_more : (old new : List CodeName) (n : CodeName) (root : Shape) → new ≡ old ++ n ∷ [] → scope_of (names_view new) root ≡ scope_of (name_view n ∷ names_view old) root
bound_more old new n root e = ap (λ l. scope_of l root) (ap names_view e ∙ on_top-push name_view old n [])

pub left_names : (old new : List CodeName) (count len kept : ℕ) (root : Shape) → len ≡ length old → kept ≡ len - count → new ≡ take kept old
    → scope_of (names_view new) root ≡ scope_of (drop count (names_view old)) root
left_names old new count len kept root even k e =
    ap (λ l. scope_of l root)
    (ap names_view e ∙ (ap (λ n. names_view (take n old)) (k ∙ ap (λ n. n - count) even) ∙ sym (drop-on_top name_view old count)))

pub copied_more : (done more xs : List CodeName) (i : ℕ) (x copy : CodeName) → i < length xs → x ≡ get_or xs i x → name_view copy ≡ name_view x → more ≡ done ++ copy ∷ []
    → names_view done ≡ names_view (take i xs) → names_view more ≡ names_view (take (i + 1) xs)
copied_more done more xs i x copy below is same e so_far =
    let within : i + 1 ≤ length xs = omega arith in
    ap names_view e
    ∙ (on_top-push name_view done copy []
    ∙ (ap (λ n. n ∷ names_view done) same
    ∙ (ap (λ l. name_view x ∷ l) so_far ∙ sym (on_top-more name_view xs (i + 1) i x refl within is))))

-- ---- from the innermost name on
pub first_here : (key : List ℕ) (xs : List CodeName) (left k : ℕ) (x : CodeName) → left ≡ k + 1 → left ≤ length xs → x ≡ get_or xs k x → bytes_eq key x.name.now ≡ true
    → first_bound_shape key (names_view xs) ≡ first_bound_shape key (names_view (take left xs)) → first_bound_shape key (names_view xs) ≡ Some (bound_view x.bound)
first_here key xs left k x next within is same first =
    first
    ∙ (ap (first_bound_shape key) (on_top-more name_view xs left k x next within is)
    ∙ ap (λ b. cond b (Some (bound_view x.bound)) (first_bound_shape key (names_view (take k xs)))) same)

pub first_passed : (key : List ℕ) (xs : List CodeName) (left k : ℕ) (x : CodeName) → left ≡ k + 1 → left ≤ length xs → x ≡ get_or xs k x → bytes_eq key x.name.now ≡ false
    → first_bound_shape key (names_view xs) ≡ first_bound_shape key (names_view (take left xs)) → first_bound_shape key (names_view xs) ≡ first_bound_shape key (names_view (take k xs))
first_passed key xs left k x next within is same first =
    first
    ∙ (ap (first_bound_shape key) (on_top-more name_view xs left k x next within is)
    ∙ ap (λ b. cond b (Some (bound_view x.bound)) (first_bound_shape key (names_view (take k xs)))) same)

pub depth_here : (key : List ℕ) (xs : List CodeName) (left k : ℕ) (x : CodeName) → left ≡ k + 1 → left ≤ length xs → x ≡ get_or xs k x → bytes_eq key x.name.now ≡ true
    → name_depth key (names_view xs) ≡ option_map (λ n. n + (length xs - left)) (name_depth key (names_view (take left xs))) → name_depth key (names_view xs) ≡ Some (length xs - 1 - k)
depth_here key xs left k x next within is same depth =
    let even : 0 + (length xs - left) ≡ length xs - 1 - k = omega arith in
    depth
    ∙ (ap (λ l. option_map (λ n. n + (length xs - left)) (name_depth key l)) (on_top-more name_view xs left k x next within is)
    ∙ (ap (λ b. option_map (λ n. n + (length xs - left)) (cond b (Some 0) (option_map (λ n. n + 1) (name_depth key (names_view (take k xs)))))) same
    ∙ ap Some even))

further : (o : Option ℕ) (len left k : ℕ) → left ≡ k + 1 → left ≤ len → option_map (λ n. n + (len - left)) (option_map (λ n. n + 1) o) ≡ option_map (λ n. n + (len - k)) o
further None len left k next within = refl
further (Some m) len left k next within = let even : m + 1 + (len - left) ≡ m + (len - k) = omega arith in ap Some even

pub depth_passed : (key : List ℕ) (xs : List CodeName) (left k : ℕ) (x : CodeName) → left ≡ k + 1 → left ≤ length xs → x ≡ get_or xs k x → bytes_eq key x.name.now ≡ false
    → name_depth key (names_view xs) ≡ option_map (λ n. n + (length xs - left)) (name_depth key (names_view (take left xs)))
    → name_depth key (names_view xs) ≡ option_map (λ n. n + (length xs - k)) (name_depth key (names_view (take k xs)))
depth_passed key xs left k x next within is same depth =
    depth
    ∙ (ap (λ l. option_map (λ n. n + (length xs - left)) (name_depth key l)) (on_top-more name_view xs left k x next within is)
    ∙ (ap (λ b. option_map (λ n. n + (length xs - left)) (cond b (Some 0) (option_map (λ n. n + 1) (name_depth key (names_view (take k xs)))))) same
    ∙ further (name_depth key (names_view (take k xs))) (length xs) left k next within))

-- ---- each name as widely
pub wider_step : (xs : List CodeName) (bs cs : List NameShape) (left k : ℕ) (x : CodeName) (answer : Bool) → left ≡ k + 1 → left ≤ length xs → x ≡ get_or xs k x
    → answer ≡ both_wider (first_bound_shape x.name.now bs) (first_bound_shape x.name.now cs)
    → names_wider (names_view xs) bs cs ≡ names_wider (names_view (take left xs)) bs cs
    → names_wider (names_view xs) bs cs ≡ cond answer (names_wider (names_view (take k xs)) bs cs) false
wider_step xs bs cs left k x answer next within is e same =
    same
    ∙ (ap (λ l. names_wider l bs cs) (on_top-more name_view xs left k x next within is)
    ∙ (ap (λ b. b && names_wider (names_view (take k xs)) bs cs) (sym e) ∙ both answer (names_wider (names_view (take k xs)) bs cs)))
  where
    both : (a b : Bool) → a && b ≡ cond a b false
    both true b = refl
    both false b = refl

-- ---- by what a loop from the innermost name on says
get_or_any : {A : Type 0} (xs : List A) (k : ℕ) (a b : A) → k < length xs → get_or xs k a ≡ get_or xs k b
get_or_any [] k a b less = absurd (omega arith)
get_or_any (x ∷ xs) zero a b less = refl
get_or_any (x ∷ xs) (suc k) a b less = get_or_any xs k a b (omega arith)

pub found_here : (key : List ℕ) (xs : List CodeName) (left : ℕ) (x d : CodeName) → 0 < left → left ≤ length xs → x ≡ get_or xs (left - 1) x → true ≡ bytes_eq key (get_or xs (left - 1) x).name.now
    → name_depth key (names_view xs) ≡ option_map (λ n. n + (length xs - left)) (name_depth key (names_view (take left xs))) → first_bound_shape key (names_view xs) ≡ first_bound_shape key (names_view (take left xs))
    → (name_depth key (names_view xs) ≡ Some (length xs - 1 - (left - 1))) × (first_bound_shape key (names_view xs) ≡ Some (bound_view (get_or xs (left - 1) d).bound))
found_here key xs left x d some within is same depth first =
    let next : left ≡ (left - 1) + 1 = omega arith in
    let below : left - 1 < length xs = omega arith in
    let named : bytes_eq key x.name.now ≡ true = ap (λ (n : CodeName). bytes_eq key n.name.now) is ∙ sym same in (
      depth_here key xs left (left - 1) x next within is named depth,
      first_here key xs left (left - 1) x next within is named first ∙ ap (λ (n : CodeName). Some (bound_view n.bound)) (is ∙ get_or_any xs (left - 1) x d below),
    )

pub wider_here : (xs : List CodeName) (bs cs : List NameShape) (left : ℕ) (x y : CodeName) (r q : Option BoundShape) (answer : Bool) → 0 < left → left ≤ length xs → x ≡ get_or xs (left - 1) x
    → r ≡ first_bound_shape (get_or xs (left - 1) x).name.now bs → q ≡ first_bound_shape (get_or xs (left - 1) y).name.now cs → answer ≡ both_wider r q
    → names_wider (names_view xs) bs cs ≡ names_wider (names_view (take left xs)) bs cs
    → names_wider (names_view xs) bs cs ≡ cond answer (names_wider (names_view (take (left - 1) xs)) bs cs) false
wider_here xs bs cs left x y r q answer some within is first second e same =
    let next : left ≡ (left - 1) + 1 = omega arith in
    let below : left - 1 < length xs = omega arith in
    let one : r ≡ first_bound_shape x.name.now bs = first ∙ ap (λ (n : CodeName). first_bound_shape n.name.now bs) (sym is) in
    let two : q ≡ first_bound_shape x.name.now cs = second ∙ ap (λ (n : CodeName). first_bound_shape n.name.now cs) (get_or_any xs (left - 1) y x below ∙ sym is) in
    wider_step xs bs cs left (left - 1) x answer next within is (e ∙ (ap (λ o. both_wider o q) one ∙ ap (both_wider (first_bound_shape x.name.now bs)) two)) same
