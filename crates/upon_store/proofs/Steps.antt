-- Where the segments of a name lead.
use Rattle.std.proofs.Common.{◌≡◌, ◌≢◌, ℕ, ◌<◌, ◌+◌, ◌-◌, List, [], ◌∷◌, ◌++◌, length, take, false, cond, refl, sym, ap, ◌∙◌, arith, Option, Some, None, suc, append_assoc, get_or, Bor}
use Rattle.std.specs.List.{join_with_byte, count_by}
use Rattle.std.proofs.lemmas.Bool.Decides.{nat_tests}
use Rattle.std.proofs.lemmas.List.Splits.{length-slice_split}
use Rattle.std.proofs.lemmas.List.{map_more, map-append}
use Rattle.upon_store.specs.Paths.{is_slash, segments, folder_of, path_step, path_steps, then_on, found_path, resolved, path_texts}

pub folder_on : (text first rest : List ℕ) → segments text ≡ first ∷ segments rest
    → folder_of text ≡ first ∷ folder_of rest
folder_on text first rest h =
    let long : length (segments rest) ≡ count_by is_slash rest + 1 = length-slice_split is_slash rest in
    let one_less : length (first ∷ segments rest) - 1 ≡ suc (length (segments rest) - 1) = omega arith in
    rw (h, one_less) refl

pub folder_last : (text : List ℕ) → segments text ≡ text ∷ [] → folder_of text ≡ []
folder_last text h = rw h refl

pub steps_on : (folder next : List (List ℕ)) (text first rest : List ℕ) → segments text ≡ first ∷ segments rest
    → path_step folder first ≡ Some next → path_steps folder (segments text) ≡ path_steps next (segments rest)
steps_on folder next text first rest h leads = rw h (ap (λ o. then_on o (λ next. path_steps next (segments rest))) leads)

pub steps_stop : (folder : List (List ℕ)) (text first rest : List ℕ) → segments text ≡ first ∷ segments rest
    → path_step folder first ≡ None → path_steps folder (segments text) ≡ None
steps_stop folder text first rest h stops = rw h (ap (λ o. then_on o (λ next. path_steps next (segments rest))) stops)

then_some : (o : Option (List (List ℕ))) → then_on o (λ next. Some next) ≡ o
then_some None = refl
then_some (Some folder) = refl

pub steps_last : (folder : List (List ℕ)) (text : List ℕ) → segments text ≡ text ∷ []
    → path_steps folder (segments text) ≡ path_step folder text
steps_last folder text h = rw h (then_some (path_step folder text))

pub resolved_from_top : (path name rest : List ℕ) → name ≡ 47 ∷ rest
    → resolved path name ≡ found_path (path_steps [] (segments rest))
unfolding resolved
resolved_from_top path name rest h = rw h refl

no_slash : (b : ℕ) → b ≢ 47 → is_slash b ≡ false
no_slash b h = grind (arith, nat_tests)

pub resolved_from_folder : (path name : List ℕ) → ((rest : List ℕ) → name ≢ 47 ∷ rest)
    → resolved path name ≡ found_path (path_steps (folder_of path) (segments name))
unfolding resolved
resolved_from_folder path [] h = refl
resolved_from_folder path (b ∷ t) h =
    let other : is_slash b ≡ false = no_slash b (λ e. h t (ap (λ x. x ∷ t) e)) in
    ap (λ test. found_path (cond test (path_steps [] (segments t)) (path_steps (folder_of path) (segments (b ∷ t))))) other

pub joined_more : (c : ℕ) (t : List ℕ) (ts : List (List ℕ)) (u : List ℕ)
    → join_with_byte c (t ∷ (ts ++ u ∷ [])) ≡ join_with_byte c (t ∷ ts) ++ (c ∷ u)
joined_more c t [] u = refl
joined_more c t (s ∷ ts) u = rw (joined_more c s ts u) (sym (append_assoc t (c ∷ join_with_byte c (s ∷ ts)) (c ∷ u)))

pub joined_on : (first : List ℕ) (others : List (Bor (List ℕ))) (i : ℕ) (d : Bor (List ℕ)) (before slashed after : List ℕ)
    → i < length others → before ≡ join_with_byte 47 (first ∷ path_texts (take i others)) → slashed ≡ before ++ 47 ∷ []
    → after ≡ slashed ++ (get_or others i d).now → after ≡ join_with_byte 47 (first ∷ path_texts (take (i + 1) others))
joined_on first others i d before slashed after within h slash more =
    let u : List ℕ = (get_or others i d).now in
    let ts : List (List ℕ) = path_texts (take i others) in
    more ∙ ap (λ t. t ++ u) (slash ∙ ap (λ t. t ++ 47 ∷ []) h)
    ∙ append_assoc (join_with_byte 47 (first ∷ ts)) (47 ∷ []) u
    ∙ sym (joined_more 47 first ts u)
    ∙ ap (λ xs. join_with_byte 47 (first ∷ xs)) (sym (map_more (λ t. t.now) others i d within))

pub gathered : (before after : List (Bor (List ℕ))) (segment : Bor (List ℕ)) (text rest : List ℕ) (all : List (List ℕ))
    → segments text ≡ segment.now ∷ segments rest → after ≡ before ++ segment ∷ []
    → path_texts before ++ folder_of text ≡ all → path_texts after ++ folder_of rest ≡ all
gathered before after segment text rest all h more so_far =
    ap (λ ts. path_texts ts ++ folder_of rest) more
    ∙ ap (λ ts. ts ++ folder_of rest) (map-append (λ t. t.now) before (segment ∷ []))
    ∙ append_assoc (path_texts before) (segment.now ∷ []) (folder_of rest)
    ∙ ap (λ ts. path_texts before ++ ts) (sym (folder_on text segment.now rest h))
    ∙ so_far
