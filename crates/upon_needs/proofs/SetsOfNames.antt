-- Sets of names, and the names that a list has.
use Rattle.std.proofs.Common.{◌≡◌, ◌↔◌, ◌||◌, ◌&&◌, ◌++◌, append_assoc, not, ℕ, List, [], ◌∷◌, cond, get_or, Bool, true, false, Contains, Less, Bor, nat_cmp, bytes_eq, refl, sym, ap, ◌∙◌, subst}
use Rattle.std.specs.BTreeSet.{BTreeSet, Updates}
use Rattle.upon_types.specs.Tree.{Statements}
use Rattle.upon_meaning_spec.specs.Includes.{Includes}
use Rattle.upon_machine_spec.specs.Code.{program_of}
use Rattle.upon_machine_spec.specs.ProgramNames.{includes}
use Rattle.upon_machine_spec.proofs.NamesOfTree.{tree_includes}
use Rattle.std.specs.Cmp.Lexicographic.{slice_cmp}
use Rattle.std.specs.List.{AllByRecursion, list_any}
use Rattle.std.specs.List.Sorted.{IsStrictlySortedBy}
use Rattle.std.proofs.lemmas.List.Folds.{Any-from_list_any, list_any-from_Any}
use Rattle.std.proofs.lemmas.Map.Text.{is_eq-slice_cmp}
use Rattle.std.proofs.lemmas.Slice.Eq.{bytes_eq-Decides}
use Rattle.upon_needs.specs.Names.{texts, has_name, Rise}

before_all : (k : Bor (List ℕ)) (ks : List (Bor (List ℕ))) → AllByRecursion (λ l. slice_cmp nat_cmp k.now l.now ≡ Less) ks
    → AllByRecursion (λ l. slice_cmp nat_cmp k.now l ≡ Less) (texts ks)
before_all k [] above = tt
before_all k (l ∷ ks) above = (above.0, before_all k ks above.1)

-- what a set's keys say rises
pub keys_rise : (ks : List (Bor (List ℕ))) → IsStrictlySortedBy (λ x y. slice_cmp nat_cmp x.now y.now) ks → Rise (texts ks)
unfolding IsStrictlySortedBy
keys_rise [] sorted = tt
keys_rise (k ∷ ks) sorted = (before_all k ks sorted.0, keys_rise ks sorted.1)

-- a set has the names of its keys
pub has_listed : (ks : List (Bor (List ℕ))) (name : List ℕ) → has_name (record { keys = ks }) name ≡ list_any (bytes_eq name) (texts ks)
has_listed [] name = refl
has_listed (k ∷ ks) name = λ i. is_eq-slice_cmp name k.now i || has_listed ks name i

-- a list contains a name where a test finds it
pub listed_contains : (names : List (List ℕ)) (name : List ℕ) → Contains names name ↔ (list_any (bytes_eq name) names ≡ true)
listed_contains names name = (
  λ c. list_any-from_Any (bytes_eq name) names (c.0, name, c.1, c.2, (bytes_eq-Decides name name).1 refl),
  λ e. let found = Any-from_list_any (bytes_eq name) names e in let same = (bytes_eq-Decides name found.1).0 found.4 in (found.0, found.2, subst (λ x. get_or names found.0 x ≡ x) (sym same) found.3),
)

same_test : (x y : Bool) → (x ≡ true → y ≡ true) → (y ≡ true → x ≡ true) → x ≡ y
same_test true y h k = sym (h refl)
same_test false true h k = k refl
same_test false false h k = refl

either_of : (x y z : Bool) → x ≡ z → cond x true y ≡ (y || z)
either_of true y z e = first y (sym e)
  where
    first : (y : Bool) → z ≡ true → true ≡ (y || z)
    first true is = refl
    first false is = sym is
either_of false y z e = second y (sym e)
  where
    second : (y : Bool) → z ≡ false → y ≡ (y || z)
    second true is = refl
    second false is = sym is

-- a set with one name more
pub puts_one : (old new : BTreeSet (Bor (List ℕ))) (one : Bor (List ℕ)) → Updates (λ x y. slice_cmp nat_cmp x.now y.now) old new one true → (name : List ℕ) → has_name new name ≡ (has_name old name || bytes_eq name one.now)
puts_one old new one h name =
    h.0 (record { ref_ptr = (0, 0); now = name })
    ∙ either_of _ (has_name old name) (bytes_eq name one.now) (is_eq-slice_cmp one.now name ∙ same_test (bytes_eq one.now name) (bytes_eq name one.now) (λ e. (bytes_eq-Decides name one.now).1 (sym ((bytes_eq-Decides one.now name).0 e))) (λ e. (bytes_eq-Decides one.now name).1 (sym ((bytes_eq-Decides name one.now).0 e))))

or_assoc : (x y z : Bool) → ((x || y) || z) ≡ (x || (y || z))
or_assoc true y z = refl
or_assoc false y z = refl

-- what a loop took, with one more, is followed by the others
pub taken_on : {A : Type 0} → (taken : List A) (one : A) (left rest all : List A) → rest ≡ one ∷ left → taken ++ rest ≡ all → (taken ++ one ∷ []) ++ left ≡ all
taken_on taken one left rest all is h = append_assoc taken (one ∷ []) left ∙ ap (λ l. taken ++ l) (sym is) ∙ h

-- a name that is not bound is one that no bound name is
pub free_one : (bound : List ℕ → Bool) (one name : List ℕ) → bound one ≡ false → bytes_eq name one ≡ (not (bound name) && bytes_eq name one)
free_one bound one name free = by_test (bytes_eq name one) (λ e. ap bound ((bytes_eq-Decides name one).0 e) ∙ free)
  where
    by_test : (same : Bool) → (same ≡ true → bound name ≡ false) → same ≡ (not (bound name) && same)
    by_test true is_free = sym (ap (λ x. not x && true) (is_free refl))
    by_test false is_free = neither (not (bound name))
      where
        neither : (x : Bool) → false ≡ (x && false)
        neither true = refl
        neither false = refl

-- one name more is put in, and is no longer among those that are left
pub insert_step : (old new : BTreeSet (Bor (List ℕ))) (one : Bor (List ℕ)) (left all : List (Bor (List ℕ))) (name : List ℕ) (whole : Bool) → Updates (λ x y. slice_cmp nat_cmp x.now y.now) old new one true → all ≡ one ∷ left
    → (has_name old name || list_any (bytes_eq name) (texts all)) ≡ whole → (has_name new name || list_any (bytes_eq name) (texts left)) ≡ whole
insert_step old new one left all name whole puts is h =
    ap (λ x. x || list_any (bytes_eq name) (texts left)) (puts_one old new one puts name)
    ∙ or_assoc (has_name old name) (bytes_eq name one.now) (list_any (bytes_eq name) (texts left))
    ∙ ap (λ xs. has_name old name || list_any (bytes_eq name) (texts xs)) (sym is) ∙ h

-- a set into which the names of a program's includes were put has those of the tree
pub has_includes : (old set : BTreeSet (Bor (List ℕ))) (tree : Statements) (names : List (List ℕ)) → old.keys ≡ [] → names ≡ includes (program_of tree)
    → ((name : List ℕ) → has_name set name ≡ (has_name old name || list_any (bytes_eq name) names)) → (name : List ℕ) → (has_name set name ≡ true) ↔ Includes name tree
has_includes old set tree names empty same puts name =
    let all : has_name set name ≡ list_any (bytes_eq name) (includes (program_of tree)) =
    puts name ∙ (λ i. has_name (record { keys = empty i }) name || list_any (bytes_eq name) (same i)) in
    let law = tree_includes name tree in
    (λ e. law.0 (sym all ∙ e), λ h. all ∙ law.1 h)
