-- What is wrong with templates is shown by one text.
use Rattle.std.proofs.Common.{arith, ◌≡◌, ◌⊎◌, ◌∙◌, ℕ, zero, suc, List, [], ◌∷◌, ◌++◌, Contains, Less, Ordering, Some, nat_cmp, refl, sym, ap, subst, inl, inr}
use Rattle.std.specs.Cmp.Lexicographic.{slice_cmp}
use Rattle.std.specs.List.{AllByRecursion}
use Rattle.std.specs.Ordering.{ordering_reverse}
use Rattle.std.proofs.lemmas.Cmp.{nat_list_cmp_total}
use Rattle.std.proofs.lemmas.Map.Keys.{sorted_head, sorted_tail}
use Rattle.upon_types.specs.Fault.{syntax, bare_fault, fault_with_name, fault_with_picture}
use Rattle.upon_types.specs.Pretty.{pretty}
use Rattle.upon_types.specs.Tree.{Statements}
use Rattle.upon_types.specs.Val.{Val}
use Rattle.upon_language_spec.specs.Search.{DelimiterText, HasTexts}
use Rattle.upon_language_spec.proofs.OneFirstFault.FirstFault.{one_first_fault}
use Rattle.upon_language_spec.proofs.OneTree.Tree.{one_whole_tree}
use Rattle.upon_needs.specs.Names.{Rise}
use Rattle.upon_calls.specs.Pictures.{include_pictures, pictures_text, AreMissing, ShowsEach, ShowsFault, ShowsIncludes, ShowsOne, ShowsWrong}

-- ---- names that rise are one list
first_or_later : (x : List ℕ) (xs : List (List ℕ)) (n : List ℕ) → Contains (x ∷ xs) n → (x ≡ n) ⊎ Contains xs n
first_or_later x xs n (zero, inside, is) = inl is
first_or_later x xs n (suc k, inside, is) = inr (k, omega (arith, inside), is)

later : (x : List ℕ) (xs : List (List ℕ)) (n : List ℕ) → Contains xs n → Contains (x ∷ xs) n
later x xs n c = (suc c.0, omega (arith, c.1), c.2)

-- each of those behind is above the first
above : (x : List ℕ) (xs : List (List ℕ)) → AllByRecursion (λ y. slice_cmp nat_cmp x y ≡ Less) xs → (n : List ℕ) → Contains xs n → slice_cmp nat_cmp x n ≡ Less
above x [] all n c = absurd (omega (arith, c.1))
above x (y ∷ ys) all n c = by (first_or_later y ys n c) (above x ys all.1 n)
  where
    by : (y ≡ n) ⊎ Contains ys n → (Contains ys n → slice_cmp nat_cmp x n ≡ Less) → slice_cmp nat_cmp x n ≡ Less
    by (inl is) rest = subst (λ y. slice_cmp nat_cmp x y ≡ Less) is all.0
    by (inr there) rest = rest there

not_both : (r : Ordering) → r ≡ Less → ordering_reverse r ≡ Less → ⊥
not_both r is back = let never : ordering_reverse Less ≡ Less = ap ordering_reverse (sym is) ∙ back in absurd cc

unordered : (x y : List ℕ) → slice_cmp nat_cmp x y ≡ Less → slice_cmp nat_cmp y x ≡ Less → ⊥
unordered x y xy yx = not_both (slice_cmp nat_cmp x y) xy (sym (nat_list_cmp_total.antisymm y x) ∙ yx)

not_above : (x n : List ℕ) → x ≡ n → slice_cmp nat_cmp x n ≡ Less → ⊥
not_above x n is less = let same = subst (λ m. slice_cmp nat_cmp m n ≡ Less) is less in unordered n n same same

same_first : (x y : List ℕ) → (x ≡ y) ⊎ (slice_cmp nat_cmp x y ≡ Less) → (y ≡ x) ⊎ (slice_cmp nat_cmp y x ≡ Less) → x ≡ y
same_first x y (inl is) back = is
same_first x y (inr less) (inl is) = sym is
same_first x y (inr less) (inr greater) = absurd (unordered x y less greater)

by_either : {A B C : Type 0} → A ⊎ B → (B → C) → A ⊎ C
by_either (inl a) so = inl a
by_either (inr b) so = inr (so b)

no_name : (x : List ℕ) (xs : List (List ℕ)) → ((n : List ℕ) → Contains (x ∷ xs) n → Contains [] n) → ⊥
no_name x xs all = let c = all x (0, omega arith, refl) in absurd (omega (arith, c.1))

behind : (z : List ℕ) (zs : List (List ℕ)) (n : List ℕ) → Contains (z ∷ zs) n → (z ≡ n → ⊥) → Contains zs n
behind z zs n c never = by (first_or_later z zs n c)
  where
    by : (z ≡ n) ⊎ Contains zs n → Contains zs n
    by (inl is) = absurd (never is)
    by (inr there) = there

one_list : (xs ys : List (List ℕ)) → Rise xs → Rise ys → ((n : List ℕ) → Contains xs n → Contains ys n) → ((n : List ℕ) → Contains ys n → Contains xs n) → xs ≡ ys
one_list [] [] rx ry to from = refl
one_list [] (y ∷ ys) rx ry to from = absurd (no_name y ys from)
one_list (x ∷ xs) [] rx ry to from = absurd (no_name x xs to)
one_list (x ∷ xs) (y ∷ ys) rx ry to from =
    let up = above x xs (sorted_head (slice_cmp nat_cmp) x xs rx) in
    let down = above y ys (sorted_head (slice_cmp nat_cmp) y ys ry) in
    let first : x ≡ y = same_first x y (by_either (first_or_later x xs y (from y (0, omega arith, refl))) (up y)) (by_either (first_or_later y ys x (to x (0, omega arith, refl))) (down x)) in
    (λ i. first i ∷ one_list xs ys (sorted_tail (slice_cmp nat_cmp) x xs rx) (sorted_tail (slice_cmp nat_cmp) y ys ry)
    (λ n c. behind y ys n (to n (later x xs n c)) (λ is. not_above x n (first ∙ is) (up n c)))
    (λ n c. behind x xs n (from n (later y ys n c)) (λ is. not_above y n (sym first ∙ is) (down n c))) i)

-- ---- one template
one_names : (templates : Val) (tree : Statements) (a b : List (List ℕ)) → AreMissing templates tree a → AreMissing templates tree b → a ≡ b
one_names templates tree a b ma mb = one_list a b ma.0 mb.0 (λ n c. (mb.1 n).1 ((ma.1 n).0 c)) (λ n c. (ma.1 n).1 ((mb.1 n).0 c))

module _ (delimiters : List DelimiterText) (templates : Val) (texts : HasTexts delimiters) where
  one_fault : (name text : List ℕ) (a b : List (List ℕ)) → ShowsFault delimiters name text a → ShowsFault delimiters name text b → a ≡ b
  one_fault name text a b f g =
      let same = one_first_fault delimiters text f.is.3.0 g.is.3.0 f.is.3.1 g.is.3.1 texts f.is.3.2 g.is.3.2 in
      let faults : f.is.0 ≡ g.is.0 = f.is.3.3 ∙ (λ i. fault_with_name name (fault_with_picture text (bare_fault syntax (Some (same.1 i)) (Some (same.0 i))))) ∙ sym g.is.3.3 in
      f.alone ∙ ap (λ p. p ∷ []) (f.is.2 ∙ ap pretty faults ∙ sym g.is.2) ∙ sym g.alone

  one_includes : (name text : List ℕ) (a b : List (List ℕ)) → ShowsIncludes delimiters templates name text a → ShowsIncludes delimiters templates name text b → a ≡ b
  one_includes name text a b f g =
      let tree : f.tree ≡ g.tree = one_whole_tree delimiters text f.tree g.tree texts f.has g.has in
      let names : f.names ≡ g.names = one_names templates g.tree f.names g.names (subst (λ t. AreMissing templates t f.names) tree f.missing) g.missing in
      f.are ∙ (λ i. include_pictures name text (tree i) (names i)) ∙ sym g.are

  one_of : (name text : List ℕ) (a b : List (List ℕ)) → ShowsOne delimiters templates name text a → ShowsOne delimiters templates name text b → a ≡ b
  one_of name text a b (inl f) (inl g) = one_fault name text a b f g
  one_of name text a b (inl f) (inr g) = absurd (f.none g.tree g.has)
  one_of name text a b (inr f) (inl g) = absurd (g.none f.tree f.has)
  one_of name text a b (inr f) (inr g) = one_includes name text a b f g

  -- ---- all
  one_each : (ss : List (List ℕ × List ℕ)) (a b : List (List ℕ)) → ShowsEach delimiters templates ss a → ShowsEach delimiters templates ss b → a ≡ b
  one_each [] a b x y = x ∙ sym y
  one_each (s ∷ ss) a b x y =
      x.4 ∙ (λ i. one_of s.0 s.1 x.0 y.0 x.2 y.2 i ++ one_each ss x.1 y.1 x.3 y.3 i) ∙ sym y.4

  pub one_shown : (ss : List (List ℕ × List ℕ)) (a b : List ℕ) → ShowsWrong delimiters templates ss a → ShowsWrong delimiters templates ss b → a ≡ b
  one_shown ss a b x y = x.are ∙ ap pictures_text (one_each ss x.pictures y.pictures x.shows y.shows) ∙ sym y.are
