-- The pictures of what is wrong with templates: there is none only if each is right.
use Rattle.std.proofs.Common.{arith, ◌≡◌, ◌<◌, ◌≤◌, ◌+◌, ◌∙◌, ◌||◌, ℕ, List, [], ◌∷◌, ◌++◌, append_assoc, append-nil, Bool, true, false, Bor, get_or, length, map, take, bytes_eq, refl, sym, ap, subst, inl, inr}
use Rattle.std.specs.List.{filter, list_any}
use Rattle.std.proofs.lemmas.List.{map-append, take_all, take_more}
use Rattle.std.proofs.lemmas.Slice.Eq.{bytes_eq-Decides}
use Rattle.upon_types.specs.Error.{fault_of}
use Rattle.upon_types.specs.Fault.{syntax, fault_with_name, OrMemory}
use Rattle.upon_types.specs.Path.{Ident}
use Rattle.upon_types.specs.Pretty.{pretty}
use Rattle.upon_types.specs.Tree.{Statements}
use Rattle.upon_types.specs.Val.{Val}
use Rattle.upon_types.specs.declared.error.Error.{Error}
use Rattle.upon_language_spec.specs.Grammar.{HasTree}
use Rattle.upon_language_spec.specs.Search.{DelimiterText}
use Rattle.upon_meaning_spec.specs.Includes.{Includes}
use Rattle.upon_machine_spec.specs.Code.{program_of}
use Rattle.upon_machine_spec.specs.Instr.{Instr, include, include_with}
use Rattle.upon_machine_spec.specs.ProgramNames.{includes}
use Rattle.upon_machine_spec.proofs.NamesOfTree.{tree_includes}
use Rattle.upon_syntax.specs.TagReading.{IsSyntaxError}
use Rattle.upon_needs.specs.Places.{includes_in}
use Rattle.upon_calls.specs.Check.{is_missing, AreRight, IsRight}
use Rattle.upon_calls.specs.Failure.{is_memory_kind}
use Rattle.upon_calls.specs.Pictures.{first_includes, include_fault, include_pictures, shown_includes, with_pictures, AreMissing, GetsPictures, ShowsEach, ShowsFault, ShowsIncludes, ShowsOne, ShowsWrong}
use Rattle.upon_calls.specs.Templates.{lent_pairs}
use Rattle.upon_calls.proofs.Checked.{no_member, not_memory, unmissed}
use Rattle.upon_calls.proofs.FirstIncludes.{found_first, none_found}
use Rattle.upon_calls.proofs.PictureTexts.{both_some, mapped_some, some_pretty, some_text, text_of, with_pictures-append, EachSome}

no_first : {X : Type 0} (xs ys : List X) → xs ++ ys ≡ [] → xs ≡ []
no_first [] ys is = refl
no_first (x ∷ xs) ys is = absurd cc

no_second : {X : Type 0} (xs ys : List X) → xs ++ ys ≡ [] → ys ≡ []
no_second [] ys is = is
no_second (x ∷ xs) ys is = absurd cc

none_mapped : {X Y : Type 0} (f : X → Y) (xs : List X) → map f xs ≡ [] → xs ≡ []
none_mapped f [] is = refl
none_mapped f (x ∷ xs) is = absurd cc

-- the names of a program's includes
includes_named : (code : List Instr) → map (λ word. word.text) (includes_in code) ≡ includes code
includes_named [] = refl
includes_named (include word ∷ code) = ap (λ names. word.text ∷ names) (includes_named code)
includes_named (include_with word ∷ code) = ap (λ names. word.text ∷ names) (includes_named code)
includes_named (i ∷ code) = includes_named code

-- ---- of one template
-- where the first of some names that are included is missing, an include is shown
some_shown : (tree : Statements) (name : List ℕ) (names : List (List ℕ)) → Includes name tree → shown_includes tree (name ∷ names) ≡ [] → ⊥
some_shown tree name names included none =
    let wanted : List ℕ → Bool = λ other. list_any (bytes_eq other) (take 100 (name ∷ names)) in
    let words = includes_in (program_of tree) in
    none_found wanted words name (found_first words wanted ∙ none) (ap (λ b. b || list_any (bytes_eq name) (take 99 names)) ((bytes_eq-Decides name name).1 refl))
    (ap (list_any (bytes_eq name)) (includes_named (program_of tree)) ∙ (tree_includes name tree).1 included)

-- where none is shown, no name is missing
none_missing : (templates : Val) (tree : Statements) (names : List (List ℕ)) → AreMissing templates tree names → shown_includes tree names ≡ [] → (name : List ℕ) → Includes name tree → is_missing templates name ≡ false
none_missing templates tree [] missing none name included = unmissed (is_missing templates name) (λ is. no_member name ((missing.1 name).1 (included, is)))
none_missing templates tree (first ∷ names) missing none name included =
    absurd (some_shown tree first names ((missing.1 first).0 (0, omega arith, refl)).0 none)

module _ (delimiters : List DelimiterText) (templates : Val) where
  one_right : (name text : List ℕ) (pictures : List (List ℕ)) → ShowsOne delimiters templates name text pictures → pictures ≡ [] → IsRight delimiters templates text
  one_right name text pictures (inl fault) none = let never : fault.picture ∷ [] ≡ [] = sym fault.alone ∙ none in absurd cc
  one_right name text pictures (inr shown) none = (
    shown.tree,
    shown.has,
    none_missing templates shown.tree shown.names shown.missing (none_mapped (λ word. pretty (include_fault name text word)) (shown_includes shown.tree shown.names) (sym shown.are ∙ none)),
  )

  some_one : (name text : List ℕ) (pictures : List (List ℕ)) → ShowsOne delimiters templates name text pictures → EachSome pictures
  some_one name text pictures (inl fault) =
      subst EachSome (sym fault.alone) (λ none. some_pretty fault.is.0 (sym fault.is.2 ∙ none), tt)
  some_one name text pictures (inr shown) =
      subst EachSome (sym shown.are) (mapped_some (λ word. pretty (include_fault name text word)) (shown_includes shown.tree shown.names) (λ word. some_pretty (include_fault name text word)))

  -- ---- of all
  each_right : (ss : List (List ℕ × List ℕ)) (pictures : List (List ℕ)) → ShowsEach delimiters templates ss pictures → pictures ≡ [] → AreRight delimiters templates ss
  each_right [] pictures each none = tt
  each_right (s ∷ ss) pictures each none =
      let is : each.0 ++ each.1 ≡ [] = sym each.4 ∙ none in
      (one_right s.0 s.1 each.0 each.2 (no_first each.0 each.1 is), each_right ss each.1 each.3 (no_second each.0 each.1 is))

  some_each : (ss : List (List ℕ × List ℕ)) (pictures : List (List ℕ)) → ShowsEach delimiters templates ss pictures → EachSome pictures
  some_each [] pictures each = subst EachSome (sym each) tt
  some_each (s ∷ ss) pictures each =
      subst EachSome (sym each.4) (both_some each.0 each.1 (some_one s.0 s.1 each.0 each.2) (some_each ss each.1 each.3))

  each_more : (ss : List (List ℕ × List ℕ)) (s : List ℕ × List ℕ) (pictures here : List (List ℕ)) → ShowsEach delimiters templates ss pictures → ShowsOne delimiters templates s.0 s.1 here → ShowsEach delimiters templates (ss ++ s ∷ []) (pictures ++ here)
  each_more [] s pictures here each one = (here, [], one, refl, ap (λ ps. ps ++ here) each ∙ sym (append-nil here))
  each_more (first ∷ ss) s pictures here each one =
      (each.0, each.1 ++ here, each.2, each_more ss s each.1 here each.3 one, ap (λ ps. ps ++ here) each.4 ∙ append_assoc each.0 each.1 here)

  -- a text that got the pictures of some templates, and then of one more
  pub shown_more : (engine : List DelimiterText) (sources : List (Bor (List ℕ) × Bor (List ℕ))) (i : ℕ) (d : Bor (List ℕ) × Bor (List ℕ)) (name source old between new : List ℕ) → i < length sources → engine ≡ delimiters → (get_or sources i d).0.now ≡ name → (get_or sources i d).1.now ≡ source
      → GetsPictures (ShowsEach delimiters templates (lent_pairs (take i sources))) old between → GetsPictures (ShowsOne engine templates name source) between new → GetsPictures (ShowsEach delimiters templates (lent_pairs (take (i + 1) sources))) old new
  shown_more engine sources i d name source old between new inside same named texted so_far here =
      let s : List ℕ × List ℕ = ((get_or sources i d).0.now, (get_or sources i d).1.now) in
      let listed : lent_pairs (take i sources) ++ s ∷ [] ≡ lent_pairs (take (i + 1) sources) = sym (map-append (λ pair. (pair.0.now, pair.1.now)) (take i sources) (get_or sources i d ∷ [])) ∙ ap lent_pairs (sym (take_more sources i d inside)) in
      let one : ShowsOne delimiters templates s.0 s.1 here.0 = subst (λ text. ShowsOne delimiters templates s.0 text here.0) (sym texted) (subst (λ name. ShowsOne delimiters templates name source here.0) (sym named) (subst (λ ds. ShowsOne ds templates name source here.0) same here.1)) in (
        so_far.0 ++ here.0,
        subst (λ ss. ShowsEach delimiters templates ss (so_far.0 ++ here.0)) listed (each_more (lent_pairs (take i sources)) s so_far.0 here.0 so_far.1 one),
        here.2 ∙ ap (λ text. with_pictures text here.0) so_far.2 ∙ sym (with_pictures-append old so_far.0 here.0),
      )

  pub none_shown : (sources : List (Bor (List ℕ) × Bor (List ℕ))) (text : List ℕ) → GetsPictures (ShowsEach delimiters templates (lent_pairs (take 0 sources))) text text
  none_shown sources text = ([], refl, refl)

  pub all_shown : (sources : List (Bor (List ℕ) × Bor (List ℕ))) (i : ℕ) (old new : List ℕ) → length sources ≤ i → GetsPictures (ShowsEach delimiters templates (lent_pairs (take i sources))) old new → GetsPictures (ShowsEach delimiters templates (lent_pairs sources)) old new
  all_shown sources i old new done so_far =
      subst (λ ss. GetsPictures (ShowsEach delimiters templates (lent_pairs ss)) old new) (take_all i sources done) so_far

  -- a text that got the pictures of templates that are not all right
  pub shows_wrong : (ss : List (List ℕ × List ℕ)) (old text : List ℕ) → old ≡ [] → (AreRight delimiters templates ss → ⊥) → GetsPictures (ShowsEach delimiters templates ss) old text → ShowsWrong delimiters templates ss text
  shows_wrong ss old text empty wrong shown =
      let each = some_each ss shown.0 shown.1 in
      let is = shown.2 ∙ ap (λ text. with_pictures text shown.0) empty ∙ text_of shown.0 each in
      record {
        pictures = shown.0;
        shows = shown.1;
        are = is;
        some = λ none. some_text shown.0 each (λ empty. wrong (each_right ss shown.0 shown.1 empty)) (sym is ∙ none);
        wrong = wrong;
      }

-- a test that says that it is not
pub not_right : {Right : Type 0} (is : Bool) → is ≡ false → (Right → is ≡ true) → Right → ⊥
not_right is found so right = let never : true ≡ false = sym (so right) ∙ found in absurd cc

-- ---- what a check of one text puts out
-- a text that is not compiled
pub fault_shown : (delimiters : List DelimiterText) (name text : List ℕ) (e named : Error) (picture : List ℕ) → is_memory_kind (fault_of named).kind ≡ false → picture ≡ pretty (fault_of named) → OrMemory (fault_with_name name (fault_of e)) (fault_of named)
    → IsSyntaxError delimiters text e → ((fault_of e).kind ≡ syntax → (tree : Statements) → HasTree delimiters text tree → ⊥) → ShowsFault delimiters name text (picture ∷ [])
fault_shown delimiters name text e named picture is shown (inr out) faulty none = absurd (not_memory named is out)
fault_shown delimiters name text e named picture is shown (inl same) (inl out) none =
    let never : true ≡ false = sym (ap (λ f. is_memory_kind f.kind) (same ∙ ap (fault_with_name name) out)) ∙ is in absurd cc
fault_shown delimiters name text e named picture is shown (inl same) (inr first) none = record {
  none = none (ap (λ f. f.kind) first.3);
  picture = picture;
  is = (fault_of named, is, shown, (first.0, first.1, first.2, same ∙ ap (fault_with_name name) first.3));
  alone = refl;
}

-- no name is missing
none_wanted : (words : List Ident) → filter (λ word. list_any (bytes_eq word.text) (take 100 [])) words ≡ []
none_wanted [] = refl
none_wanted (word ∷ words) = none_wanted words

pub no_include_shown : (delimiters : List DelimiterText) (templates : Val) (name text : List ℕ) (tree : Statements) (names : List (List ℕ)) → names ≡ [] → HasTree delimiters text tree → AreMissing templates tree names → ShowsIncludes delimiters templates name text []
no_include_shown delimiters templates name text tree names empty has missing = record {
  tree = tree;
  has = has;
  names = names;
  missing = missing;
  are = sym (ap (include_pictures name text tree) empty ∙ ap (map (λ word. pretty (include_fault name text word))) (none_wanted (first_includes (includes_in (program_of tree)))));
}

-- some are
pub includes_shown : (delimiters : List DelimiterText) (templates : Val) (name text : List ℕ) (tree : Statements) (names : List (List ℕ)) → HasTree delimiters text tree → AreMissing templates tree names → ShowsIncludes delimiters templates name text (include_pictures name text tree names)
includes_shown delimiters templates name text tree names has missing = record {
  tree = tree;
  has = has;
  names = names;
  missing = missing;
  are = refl;
}
