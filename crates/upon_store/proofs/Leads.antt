-- Names that are resolved lead to paths, and paths that are names lead to themselves.
use Rattle.std.proofs.Common.{◌≡◌, ℕ, ◌<◌, ◌+◌, ◌-◌, List, [], ◌∷◌, ◌++◌, length, take, replicate, Bool, true, false, cond, not, ◌&&◌, ◌||◌, refl, sym, ap, subst, ◌∙◌, arith, Option, Some, None, suc, append_assoc, length-take, append-nil, bytes_eq, codes, zero}
use Rattle.std.specs.List.{All, join_with_byte, onto_first, list_all, count_by}
use Rattle.std.proofs.lemmas.List.Elements.{All-nil, All-cons}
use Rattle.std.proofs.lemmas.List.Splits.{slice_split_none, slice_split_at, join_with_byte-slice_split, length-slice_split}
use Rattle.upon_store.specs.Paths.{is_slash, segments, is_segment, is_path, but_last, folder_of, up, path_step, path_steps, then_on, steps_of, path_text, found_path, resolved}
use Rattle.upon_store.proofs.Steps.{folder_last, resolved_from_top, resolved_from_folder}

-- no byte of it is a slash
abbrev HasNoSlash : List ℕ → Type 0
HasNoSlash t = All (λ b. is_slash b ≡ false) t

-- each is one segment of a path
abbrev Proper : List (List ℕ) → Type 0
Proper [] = Unit {0}
Proper (t ∷ ts) = (is_segment t ≡ true) × HasNoSlash t × Proper ts

-- no text has a slash
abbrev HaveNoSlash : List (List ℕ) → Type 0
HaveNoSlash [] = Unit {0}
HaveNoSlash (t ∷ ts) = HasNoSlash t × HaveNoSlash ts

onto_no_slash : (b : ℕ) (ts : List (List ℕ)) → is_slash b ≡ false → HaveNoSlash ts → HaveNoSlash (onto_first b ts)
onto_no_slash b [] is h = (All-cons (λ b. is_slash b ≡ false) b [] is (All-nil (λ b. is_slash b ≡ false)), tt)
onto_no_slash b (t ∷ ts) is h = (All-cons (λ b. is_slash b ≡ false) b t is h.0, h.1)

first_no_slash : (test : Bool) (b : ℕ) (t : List ℕ) → is_slash b ≡ test → HaveNoSlash (segments t) → HaveNoSlash (segments (b ∷ t))
first_no_slash true b t is h = rw is (All-nil (λ b. is_slash b ≡ false), h)
first_no_slash false b t is h = rw is (onto_no_slash b (segments t) is h)

segments_no_slash : (text : List ℕ) → HaveNoSlash (segments text)
segments_no_slash [] = (All-nil (λ b. is_slash b ≡ false), tt)
segments_no_slash (b ∷ t) = first_no_slash (is_slash b) b t refl (segments_no_slash t)

both : (a b : Bool) → (a && b) ≡ true → (a ≡ true) × (b ≡ true)
both true b h = (refl, h)
both false b h = absurd (cc)

proper_from_test : (ts : List (List ℕ)) → list_all is_segment ts ≡ true → HaveNoSlash ts → Proper ts
proper_from_test [] h free = tt
proper_from_test (t ∷ ts) h free =
    let parts = both (is_segment t) (list_all is_segment ts) h in
    (parts.0, free.0, proper_from_test ts parts.1 free.1)

test_from_proper : (ts : List (List ℕ)) → Proper ts → list_all is_segment ts ≡ true
test_from_proper [] h = refl
test_from_proper (t ∷ ts) h = rw (h.0, test_from_proper ts h.2) refl

proper_take : (n : ℕ) (ts : List (List ℕ)) → Proper ts → Proper (take n ts)
proper_take zero ts h = tt
proper_take (suc n) [] h = tt
proper_take (suc n) (t ∷ ts) h = (h.0, h.1, proper_take n ts h.2)

proper_push : (ts : List (List ℕ)) (t : List ℕ) → Proper ts → is_segment t ≡ true → HasNoSlash t → Proper (ts ++ t ∷ [])
proper_push [] t h is free = (is, free, tt)
proper_push (u ∷ ts) t h is free = (h.0, h.1, proper_push ts t h.2 is free)

proper_up : (folder next : List (List ℕ)) → Proper folder → up folder ≡ Some next → Proper next
proper_up [] next h is = absurd (cc)
proper_up (t ∷ ts) next h is =
    let same : but_last (t ∷ ts) ≡ next = cc in
    subst Proper same (proper_take (length (t ∷ ts) - 1) (t ∷ ts) h)

-- a step by the three tests of a segment
abbrev stepped : Bool → Bool → Bool → List (List ℕ) → List ℕ → Option (List (List ℕ))
stepped empty dot dots folder t = cond empty None (cond dot (Some folder) (cond dots (up folder) (Some (folder ++ t ∷ []))))

proper_stepped : (empty dot dots : Bool) (folder : List (List ℕ)) (t : List ℕ) (next : List (List ℕ)) → Proper folder → HasNoSlash t
    → (not (empty || dot || dots) ≡ true → is_segment t ≡ true) → stepped empty dot dots folder t ≡ Some next → Proper next
proper_stepped true dot dots folder t next h free is leads = absurd (cc)
proper_stepped false true dots folder t next h free is leads =
    let same : folder ≡ next = cc in
    subst Proper same h
proper_stepped false false true folder t next h free is leads = proper_up folder next h leads
proper_stepped false false false folder t next h free is leads =
    let same : folder ++ t ∷ [] ≡ next = cc in
    subst Proper same (proper_push folder t h (is refl) free)

proper_step : (folder : List (List ℕ)) (t : List ℕ) (next : List (List ℕ)) → Proper folder → HasNoSlash t
    → path_step folder t ≡ Some next → Proper next
proper_step folder t next h free leads =
    proper_stepped (bytes_eq t []) (bytes_eq t (codes ".")) (bytes_eq t (codes "..")) folder t next h free (λ is. is) leads

proper_then : (o : Option (List (List ℕ))) (ts next : List (List ℕ)) → ((folder : List (List ℕ)) → o ≡ Some folder → Proper folder)
    → ((folder : List (List ℕ)) → Proper folder → path_steps folder ts ≡ Some next → Proper next)
    → then_on o (λ folder. path_steps folder ts) ≡ Some next → Proper next
proper_then None ts next first more leads = absurd (cc)
proper_then (Some folder) ts next first more leads = more folder (first folder refl) leads

proper_steps : (ts folder next : List (List ℕ)) → Proper folder → HaveNoSlash ts → path_steps folder ts ≡ Some next → Proper next
proper_steps [] folder next h free leads =
    let same : folder ≡ next = cc in
    subst Proper same h
proper_steps (t ∷ ts) folder next h free leads =
    proper_then (path_step folder t) ts next (λ f is. proper_step folder t f h free.0 is) (λ f p. proper_steps ts f next p free.1) leads

-- the segments of joined segments
segments_joined : (t : List ℕ) (ts : List (List ℕ)) → Proper (t ∷ ts) → segments (join_with_byte 47 (t ∷ ts)) ≡ t ∷ ts
segments_joined t [] h = slice_split_none is_slash t h.1
segments_joined t (u ∷ ts) h =
    slice_split_at is_slash t 47 (join_with_byte 47 (u ∷ ts)) h.1 refl ∙ ap (λ us. t ∷ us) (segments_joined u ts h.2)

path_from_proper : (ts : List (List ℕ)) (p : List ℕ) → Proper ts → path_text ts ≡ Some p → is_path p ≡ true
unfolding is_path
path_from_proper [] p h is = absurd (cc)
path_from_proper (t ∷ ts) p h is =
    let same : join_with_byte 47 (t ∷ ts) ≡ p = cc in
    subst (λ q. list_all is_segment (segments q) ≡ true) same (ap (list_all is_segment) (segments_joined t ts h) ∙ test_from_proper (t ∷ ts) h)

path_found : (o : Option (List (List ℕ))) (p : List ℕ) → ((ts : List (List ℕ)) → o ≡ Some ts → Proper ts) → found_path o ≡ Some p
    → is_path p ≡ true
path_found None p h is = absurd (cc)
path_found (Some ts) p h is = path_from_proper ts p (h ts refl) is

proper_segments : (path : List ℕ) → is_path path ≡ true → Proper (segments path)
unfolding is_path
proper_segments path h = proper_from_test (segments path) h (segments_no_slash path)

proper_steps_of : (folder : List (List ℕ)) (name : List ℕ) (next : List (List ℕ)) → Proper folder → steps_of folder name ≡ Some next
    → Proper next
proper_steps_of folder [] next h leads = proper_steps (segments []) folder next h (segments_no_slash []) leads
proper_steps_of folder (b ∷ t) next h leads = by_first (is_slash b) leads
  where
    by_first : (test : Bool) → cond test (path_steps [] (segments t)) (path_steps folder (segments (b ∷ t))) ≡ Some next → Proper next
    by_first true leads = proper_steps (segments t) [] next tt (segments_no_slash t) leads
    by_first false leads = proper_steps (segments (b ∷ t)) folder next h (segments_no_slash (b ∷ t)) leads

pub resolved_path : (path name p : List ℕ) → is_path path ≡ true → resolved path name ≡ Some p → is_path p ≡ true
unfolding resolved
resolved_path path name p good is =
    path_found (steps_of (folder_of path) name) p
    (λ ts. proper_steps_of (folder_of path) name ts (proper_take (length (segments path) - 1) (segments path) (proper_segments path good)))
    is

-- a step by a segment goes down
down_tests : (empty dot dots : Bool) (folder : List (List ℕ)) (t : List ℕ) → not (empty || dot || dots) ≡ true
    → stepped empty dot dots folder t ≡ Some (folder ++ t ∷ [])
down_tests true dot dots folder t h = absurd (cc)
down_tests false true dots folder t h = absurd (cc)
down_tests false false true folder t h = absurd (cc)
down_tests false false false folder t h = refl

down : (ts folder : List (List ℕ)) → list_all is_segment ts ≡ true → path_steps folder ts ≡ Some (folder ++ ts)
down [] folder h = ap (λ ts. Some ts) (sym (append-nil folder))
down (t ∷ ts) folder h =
    let parts = both (is_segment t) (list_all is_segment ts) h in
    ap (λ o. then_on o (λ next. path_steps next ts))
    (down_tests (bytes_eq t []) (bytes_eq t (codes ".")) (bytes_eq t (codes "..")) folder t parts.0)
    ∙ down ts (folder ++ t ∷ []) parts.1 ∙ ap (λ us. Some us) (append_assoc folder (t ∷ []) ts)

text_of_some : (ts : List (List ℕ)) (p : List ℕ) → 0 < length ts → join_with_byte 47 ts ≡ p → path_text ts ≡ Some p
text_of_some [] p some h = absurd (omega arith)
text_of_some (t ∷ ts) p some h = ap (λ q. Some q) h

path_of_segments : (p : List ℕ) → path_text (segments p) ≡ Some p
path_of_segments p =
    text_of_some (segments p) p
    (let many : length (segments p) ≡ count_by is_slash p + 1 = length-slice_split is_slash p in omega arith)
    (join_with_byte-slice_split 47 p)

pub top_path : (path p : List ℕ) → is_path p ≡ true → resolved path (47 ∷ p) ≡ Some p
unfolding is_path
top_path path p good =
    resolved_from_top path (47 ∷ p) p refl ∙ ap found_path (down (segments p) [] good) ∙ path_of_segments p

no_first_slash : (p rest : List ℕ) → is_path p ≡ true → p ≡ 47 ∷ rest → ⊥
unfolding is_path
no_first_slash p rest good is =
    let bad : false ≡ true = subst (λ q. list_all is_segment (segments q) ≡ true) is good in
    absurd (cc)

pub down_path : (path name : List ℕ) → is_path name ≡ true → resolved path name ≡ path_text (folder_of path ++ segments name)
unfolding is_path
down_path path name good =
    resolved_from_folder path name (λ rest is. no_first_slash name rest good is)
    ∙ ap found_path (down (segments name) (folder_of path) good)

pub one_segment : (path p : List ℕ) → segments path ≡ path ∷ [] → is_path p ≡ true → resolved path p ≡ Some p
one_segment path p one good =
    down_path path p good ∙ ap (λ ts. path_text (ts ++ segments p)) (folder_last path one) ∙ path_of_segments p

-- up and up
too_far : (k : ℕ) (folder ts : List (List ℕ)) → length folder < k → path_steps folder (replicate k (codes "..") ++ ts) ≡ None
too_far zero folder ts h = absurd (omega arith)
too_far (suc k) [] ts h = refl
too_far (suc k) (t ∷ folder) ts h =
    let shorter : length (but_last (t ∷ folder)) < k = omega (arith, length-take (length (t ∷ folder) - 1) (t ∷ folder)) in
    too_far k (but_last (t ∷ folder)) ts shorter

dots_first : (name rest : List ℕ) (k : ℕ) (ts : List (List ℕ)) → 0 < k → segments name ≡ replicate k (codes "..") ++ ts → name ≡ 47 ∷ rest → ⊥
dots_first name rest zero ts some h is = omega arith
dots_first name rest (suc k) ts some h is =
    let same : [] ∷ segments rest ≡ codes ".." ∷ (replicate k (codes "..") ++ ts) = sym (ap segments is) ∙ h in
    absurd (cc)

pub too_far_up : (path name : List ℕ) (k : ℕ) (ts : List (List ℕ)) → length (folder_of path) < k
    → segments name ≡ replicate k (codes "..") ++ ts → resolved path name ≡ None
too_far_up path name k ts deep h =
    let some : 0 < k = omega arith in
    resolved_from_folder path name (λ rest is. dots_first name rest k ts some h is)
    ∙ ap (λ us. found_path (path_steps (folder_of path) us)) h
    ∙ ap found_path (too_far k (folder_of path) ts deep)
