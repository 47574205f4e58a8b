-- How the set of names that a search has seen grows, and what waits.
use Rattle.std.proofs.Common.{◌≡◌, ◌⊎◌, ◌↔◌, ◌≤◌, ◌+◌, ◌||◌, ◌&&◌, ℕ, suc, if◌then◌else◌, List, [], ◌∷◌, ◌++◌, length, length-append, cond, Option, Some, None, Bool, true, false, not, is_some, option_map, Bor, String, string_bytes, nat_cmp, bytes_eq, inl, inr, refl, sym, ap, ◌∙◌, subst, arith}
use Rattle.std.specs.BTreeMap.{BTreeMap, get_by_text, is_at}
use Rattle.std.specs.BTreeSet.{BTreeSet, Updates}
use Rattle.std.specs.Cmp.Lexicographic.{slice_cmp}
use Rattle.std.specs.List.{list_any}
use Rattle.std.specs.Map.{keys_of, lookup}
use Rattle.std.specs.Ordering.{is_eq}
use Rattle.std.proofs.lemmas.List.Folds.{list_any-append}
use Rattle.std.proofs.lemmas.Map.Text.{is_eq-slice_cmp}
use Rattle.std.proofs.lemmas.Slice.Eq.{bytes_eq-Decides}
use Rattle.upon_machine_spec.specs.ProgramNames.{IsListed}
use Rattle.upon_meaning_spec.specs.Engine.{Table, Template}
use Rattle.upon_types.specs.Tree.{Statements}
use Rattle.upon_needs.specs.EngineNeeds.{link, Searched, Marked}
use Rattle.upon_engine.specs.Engine.{table_in}
use Rattle.upon_needs.specs.Names.{texts, has_name}
use Rattle.upon_engine.specs.Template.{template_of}
use Rattle.upon_needs.specs.declared.needs.Links.{Links}
use Rattle.upon_engine.specs.declared.template.Template.{Template as Held}
use Rattle.upon_needs.specs.Unseen.{not_had, unseen}
use Rattle.upon_needs.proofs.Links.{either_true, first_true, second_true, search_skips, search_follows}
use Rattle.upon_needs.proofs.SetsOfNames.{puts_one}

-- counts of keys that are not had
same_or_less : (b c : Bool) (x y : ℕ) → (b ≡ true → c ≡ true) → x ≤ y → (if c then x else suc x) ≤ (if b then y else suc y)
same_or_less true true x y grown le = le
same_or_less true false x y grown le = let no : false ≡ true = grown refl in absurd cc
same_or_less false true x y grown le = omega (arith, le)
same_or_less false false x y grown le = omega (arith, le)

less_here : (b c : Bool) (x y : ℕ) → b ≡ false → c ≡ true → x ≤ y → (if c then x else suc x) + 1 ≤ (if b then y else suc y)
less_here true c x y was is le = absurd cc
less_here false true x y was is le = omega (arith, le)
less_here false false x y was is le = absurd cc

less_there : (b c : Bool) (x y : ℕ) → (b ≡ true → c ≡ true) → x + 1 ≤ y → (if c then x else suc x) + 1 ≤ (if b then y else suc y)
less_there true true x y grown le = le
less_there true false x y grown le = let no : false ≡ true = grown refl in absurd cc
less_there false true x y grown le = omega (arith, le)
less_there false false x y grown le = omega (arith, le)

module _ {A X : Type 0} (old new : BTreeSet (Bor (List ℕ))) (grown : (name : List ℕ) → has_name old name ≡ true → has_name new name ≡ true) where
  no_more : (es : List (String A × X)) → not_had new (keys_of es) ≤ not_had old (keys_of es)
  no_more [] = omega arith
  no_more (e ∷ es) = same_or_less (has_name old (string_bytes e.0)) (has_name new (string_bytes e.0)) (not_had new (keys_of es)) (not_had old (keys_of es)) (grown (string_bytes e.0)) (no_more es)

  at_key : (e : String A × X) (es : List (String A × X)) (one : List ℕ) → has_name old one ≡ false → has_name new one ≡ true → (is_some (lookup (is_at (λ k. slice_cmp nat_cmp one (string_bytes k))) es) ≡ true → not_had new (keys_of es) + 1 ≤ not_had old (keys_of es))
      → (b : Bool) → is_eq (slice_cmp nat_cmp one (string_bytes e.0)) ≡ b → is_some (cond b (Some e.1) (lookup (is_at (λ k. slice_cmp nat_cmp one (string_bytes k))) es)) ≡ true → not_had new (keys_of (e ∷ es)) + 1 ≤ not_had old (keys_of (e ∷ es))
  at_key e es one was is after true same h =
      let it : one ≡ string_bytes e.0 = (bytes_eq-Decides one (string_bytes e.0)).0 (sym (is_eq-slice_cmp one (string_bytes e.0)) ∙ same) in
      less_here (has_name old (string_bytes e.0)) (has_name new (string_bytes e.0)) (not_had new (keys_of es)) (not_had old (keys_of es)) (sym (ap (has_name old) it) ∙ was) (sym (ap (has_name new) it) ∙ is) (no_more es)
  at_key e es one was is after false same h = less_there (has_name old (string_bytes e.0)) (has_name new (string_bytes e.0)) (not_had new (keys_of es)) (not_had old (keys_of es)) (grown (string_bytes e.0)) (after h)

  fewer : (es : List (String A × X)) (one : List ℕ) → has_name old one ≡ false → has_name new one ≡ true → is_some (lookup (is_at (λ k. slice_cmp nat_cmp one (string_bytes k))) es) ≡ true → not_had new (keys_of es) + 1 ≤ not_had old (keys_of es)
  fewer [] one was is there = absurd cc
  fewer (e ∷ es) one was is there = at_key e es one was is (fewer es one was is) (is_eq (slice_cmp nat_cmp one (string_bytes e.0))) refl there

-- what holds while names are marked
pub record Marking {A X : Type 0} (m : BTreeMap (String A) X) (old seen : BTreeSet (Bor (List ℕ))) (waited waiting : List (Bor (List ℕ))) : Type 0 where
  pub grown : (name : List ℕ) → has_name old name ≡ true → has_name seen name ≡ true
  pub stay : (name : List ℕ) → IsListed (texts waited) name → IsListed (texts waiting) name
  pub added : (name : List ℕ) → has_name seen name ≡ true → is_some (get_by_text m name) ≡ true → (has_name old name ≡ true) ⊎ IsListed (texts waiting) name
  pub only : (name : List ℕ) → IsListed (texts waiting) name → IsListed (texts waited) name ⊎ (has_name seen name ≡ true)
  pub less : unseen m seen + length waiting ≤ unseen m old + length waited

pub marking_none : {A X : Type 0} (m : BTreeMap (String A) X) (seen : BTreeSet (Bor (List ℕ))) (waiting : List (Bor (List ℕ))) → Marking m seen seen waiting waiting
marking_none m seen waiting = record {
  grown = λ name e. e;
  stay = λ name w. w;
  added = λ name e is. inl e;
  only = λ name w. inl w;
  less = omega arith;
}

texts_last : (names : List (Bor (List ℕ))) (one : Bor (List ℕ)) → texts (names ++ one ∷ []) ≡ texts names ++ one.now ∷ []
texts_last [] one = refl
texts_last (k ∷ names) one = ap (λ l. k.now ∷ l) (texts_last names one)

last_lists : (names : List (Bor (List ℕ))) (one : Bor (List ℕ)) (name : List ℕ) → list_any (bytes_eq name) (texts (names ++ one ∷ [])) ≡ (list_any (bytes_eq name) (texts names) || (bytes_eq name one.now || false))
last_lists names one name = ap (list_any (bytes_eq name)) (texts_last names one) ∙ list_any-append (bytes_eq name) (texts names) (one.now ∷ [])

-- a name at the end is listed
pub lists_last : (names : List (Bor (List ℕ))) (one : Bor (List ℕ)) → IsListed (texts (names ++ one ∷ [])) one.now
lists_last names one = last_lists names one one.now ∙ second_true (list_any (bytes_eq one.now) (texts names)) (bytes_eq one.now one.now || false) (first_true (bytes_eq one.now one.now) false ((bytes_eq-Decides one.now one.now).1 refl))

pub lists_before : (names : List (Bor (List ℕ))) (one : Bor (List ℕ)) (name : List ℕ) → IsListed (texts names) name → IsListed (texts (names ++ one ∷ [])) name
lists_before names one name w = last_lists names one name ∙ first_true (list_any (bytes_eq name) (texts names)) (bytes_eq name one.now || false) w

only_first : (x : Bool) → (x || false) ≡ true → x ≡ true
only_first true e = refl
only_first false e = absurd cc

pub before_or_last : (names : List (Bor (List ℕ))) (one : Bor (List ℕ)) (name : List ℕ) → IsListed (texts (names ++ one ∷ [])) name → IsListed (texts names) name ⊎ (name ≡ one.now)
before_or_last names one name w = split (either_true (list_any (bytes_eq name) (texts names)) (bytes_eq name one.now || false) (sym (last_lists names one name) ∙ w))
  where
    split : IsListed (texts names) name ⊎ ((bytes_eq name one.now || false) ≡ true) → IsListed (texts names) name ⊎ (name ≡ one.now)
    split (inl l) = inl l
    split (inr e) = inr ((bytes_eq-Decides name one.now).0 (only_first (bytes_eq name one.now) e))

module _ {A X : Type 0} (m : BTreeMap (String A) X) (old seen new : BTreeSet (Bor (List ℕ))) (waited waiting : List (Bor (List ℕ))) (one : Bor (List ℕ)) (so : Marking m old seen waited waiting) (puts : Updates (λ x y. slice_cmp nat_cmp x.now y.now) seen new one true) where
  grew : (name : List ℕ) → has_name seen name ≡ true → has_name new name ≡ true
  grew name e = puts_one seen new one puts name ∙ first_true (has_name seen name) (bytes_eq name one.now) e

  is_in : has_name new one.now ≡ true
  is_in = puts_one seen new one puts one.now ∙ second_true (has_name seen one.now) (bytes_eq one.now one.now) ((bytes_eq-Decides one.now one.now).1 refl)

  was_or_one : (name : List ℕ) → has_name new name ≡ true → (has_name seen name ≡ true) ⊎ (name ≡ one.now)
  was_or_one name e = split (either_true (has_name seen name) (bytes_eq name one.now) (sym (puts_one seen new one puts name) ∙ e))
    where
      split : (has_name seen name ≡ true) ⊎ (bytes_eq name one.now ≡ true) → (has_name seen name ≡ true) ⊎ (name ≡ one.now)
      split (inl e) = inl e
      split (inr e) = inr ((bytes_eq-Decides name one.now).0 e)

  -- a new name that has a template waits
  pushed : has_name seen one.now ≡ false → is_some (get_by_text m one.now) ≡ true → Marking m old new waited (waiting ++ one ∷ [])
  pushed was there = record {
    grown = λ name e. grew name (so.grown name e);
    stay = λ name w. lists_before waiting one name (so.stay name w);
    added = λ name e is. added_then name (was_or_one name e) is;
    only = λ name w. only_then name (before_or_last waiting one name w);
    less = omega (arith, length-append waiting (one ∷ []), fewer seen new grew m.entries one.now was is_in there, so.less);
  }
    where
      later : (name : List ℕ) → (has_name old name ≡ true) ⊎ IsListed (texts waiting) name → (has_name old name ≡ true) ⊎ IsListed (texts (waiting ++ one ∷ [])) name
      later name (inl e) = inl e
      later name (inr w) = inr (lists_before waiting one name w)

      added_then : (name : List ℕ) → (has_name seen name ≡ true) ⊎ (name ≡ one.now) → is_some (get_by_text m name) ≡ true → (has_name old name ≡ true) ⊎ IsListed (texts (waiting ++ one ∷ [])) name
      added_then name (inl e) is = later name (so.added name e is)
      added_then name (inr at) is = inr (subst (λ n. IsListed (texts (waiting ++ one ∷ [])) n) (sym at) (lists_last waiting one))

      seen_still : (name : List ℕ) → IsListed (texts waited) name ⊎ (has_name seen name ≡ true) → IsListed (texts waited) name ⊎ (has_name new name ≡ true)
      seen_still name (inl w) = inl w
      seen_still name (inr e) = inr (grew name e)

      only_then : (name : List ℕ) → IsListed (texts waiting) name ⊎ (name ≡ one.now) → IsListed (texts waited) name ⊎ (has_name new name ≡ true)
      only_then name (inl w) = seen_still name (so.only name w)
      only_then name (inr at) = inr (ap (has_name new) at ∙ is_in)

  -- one that was seen, or has no template, does not
  passed : (has_name seen one.now ≡ true) ⊎ (is_some (get_by_text m one.now) ≡ false) → Marking m old new waited waiting
  passed why = record {
    grown = λ name e. grew name (so.grown name e);
    stay = so.stay;
    added = λ name e is. added_then name (was_or_one name e) is why;
    only = λ name w. seen_still name (so.only name w);
    less = omega (arith, no_more seen new grew m.entries, so.less);
  }
    where
      seen_still : (name : List ℕ) → IsListed (texts waited) name ⊎ (has_name seen name ≡ true) → IsListed (texts waited) name ⊎ (has_name new name ≡ true)
      seen_still name (inl w) = inl w
      seen_still name (inr e) = inr (grew name e)

      added_then : (name : List ℕ) → (has_name seen name ≡ true) ⊎ (name ≡ one.now) → is_some (get_by_text m name) ≡ true → (has_name seen one.now ≡ true) ⊎ (is_some (get_by_text m one.now) ≡ false) → (has_name old name ≡ true) ⊎ IsListed (texts waiting) name
      added_then name (inl e) is why = so.added name e is
      added_then name (inr at) is (inl e) = so.added name (ap (has_name seen) at ∙ e) is
      added_then name (inr at) is (inr none) = let no : true ≡ false = sym is ∙ ap (λ n. is_some (get_by_text m n)) at ∙ none in absurd cc

  pub mark_step : (was held : Bool) → has_name seen one.now ≡ was → is_some (get_by_text m one.now) ≡ held → Marking m old new waited (if not was && held then waiting ++ one ∷ [] else waiting)
  mark_step false true was there = pushed was there
  mark_step false false was there = passed (inr there)
  mark_step true held was there = passed (inl was)

  pub mark_so : (fresh held : Bool) → fresh ≡ not (has_name seen one.now) → held ≡ is_some (get_by_text m one.now) → Marking m old new waited (if fresh && held then waiting ++ one ∷ [] else waiting)
  mark_so fresh held is there = subst (λ x. Marking m old new waited (if x && held then waiting ++ one ∷ [] else waiting)) (sym is) (mark_step (has_name seen one.now) held refl (sym there))

-- what is shown of something is there where that is
pub shown_or_not : {X Y : Type 0} (f : X → Y) (o : Option X) → is_some (option_map f o) ≡ is_some o
shown_or_not f None = refl
shown_or_not f (Some x) = refl

-- what a loop keeps that marks names is what it says of them in the end
pub marked_by : {A : Type 0} (m : BTreeMap (String A) Held) (old seen : BTreeSet (Bor (List ℕ))) (waited waiting : List (Bor (List ℕ))) (names : List (List ℕ)) → Marking m old seen waited waiting → ((name : List ℕ) → has_name seen name ≡ (has_name old name || list_any (bytes_eq name) names))
    → Marked (table_in m) (has_name old) (has_name seen) names (IsListed (texts waited)) (IsListed (texts waiting))
marked_by m old seen waited waiting names so puts = record {
  seen = puts;
  stay = so.stay;
  added = λ name e is. so.added name e (sym (shown_or_not template_of (get_by_text m name)) ∙ is);
  only = so.only;
}

pub or_nothing : (x : Bool) → x ≡ (x || false)
or_nothing true = refl
or_nothing false = refl

or_moves : (x y z : Bool) → ((x || y) || z) ≡ (x || (y || z))
or_moves true y z = refl
or_moves false y z = refl

-- one name more is seen
pub seen_step : (old seen new : BTreeSet (Bor (List ℕ))) (one : Bor (List ℕ)) (names more : List (Bor (List ℕ))) (name : List ℕ) → Updates (λ x y. slice_cmp nat_cmp x.now y.now) seen new one true → more ≡ names ++ one ∷ []
    → has_name seen name ≡ (has_name old name || list_any (bytes_eq name) (texts names)) → has_name new name ≡ (has_name old name || list_any (bytes_eq name) (texts more))
seen_step old seen new one names more name puts is so =
    puts_one seen new one puts name
    ∙ ap (λ x. x || bytes_eq name one.now) so
    ∙ or_moves (has_name old name) (list_any (bytes_eq name) (texts names)) (bytes_eq name one.now)
    ∙ ap (λ x. has_name old name || (list_any (bytes_eq name) (texts names) || x)) (or_nothing (bytes_eq name one.now))
    ∙ ap (λ x. has_name old name || x) (sym (last_lists names one name))
    ∙ ap (λ l. has_name old name || list_any (bytes_eq name) (texts l)) (sym is)

-- what waited, with a name at its end
pub waited_by : (all names : List (Bor (List ℕ))) (one : Bor (List ℕ)) → all ≡ names ++ one ∷ [] → (name : List ℕ) → list_any (bytes_eq name) (texts all) ≡ (list_any (bytes_eq name) (texts names) || bytes_eq name one.now)
waited_by all names one is name = ap (λ l. list_any (bytes_eq name) (texts l)) is ∙ last_lists names one name ∙ ap (λ x. list_any (bytes_eq name) (texts names) || x) (sym (or_nothing (bytes_eq name one.now)))

-- a name that waited is followed
module _ (table : Table) (by : Links) (tree : Statements) (old : List ℕ → Bool) (before : List ℕ → Bool) (waited : List (Bor (List ℕ))) (one : List ℕ) (is : (name : List ℕ) → before name ≡ (list_any (bytes_eq name) (texts waited) || bytes_eq name one)) (s : Searched table by tree old (λ name. before name ≡ true)) where
  others : (name : List ℕ) → before name ≡ true → IsListed (texts waited) name ⊎ (name ≡ one)
  others name e = split (either_true (list_any (bytes_eq name) (texts waited)) (bytes_eq name one) (sym (is name) ∙ e))
    where
      split : IsListed (texts waited) name ⊎ (bytes_eq name one ≡ true) → IsListed (texts waited) name ⊎ (name ≡ one)
      split (inl w) = inl w
      split (inr e) = inr ((bytes_eq-Decides name one).0 e)

  same : (name : List ℕ) → IsListed (texts waited) name → before name ≡ true
  same name w = is name ∙ first_true (list_any (bytes_eq name) (texts waited)) (bytes_eq name one) w

  it_waits : before one ≡ true
  it_waits = is one ∙ second_true (list_any (bytes_eq one) (texts waited)) (bytes_eq one one) ((bytes_eq-Decides one one).1 refl)

  pub follow_none : table one ≡ None → Searched table by tree old (IsListed (texts waited))
  follow_none none = search_skips table by tree old (λ name. before name ≡ true) (IsListed (texts waited)) s one none others same

  pub follow_some : (t : Template) → table one ≡ Some t → (new : List ℕ → Bool) (names : List (List ℕ)) (waits : List ℕ → Type 0) → Marked table old new names (IsListed (texts waited)) waits → ((name : List ℕ) → IsListed names name ↔ link by t.tree name) → Searched table by tree new waits
  follow_some t here new names waits m ends = search_follows table by tree old new names (IsListed (texts waited)) waits m (λ name. before name ≡ true) s one t it_waits here others same ends

-- at the start nothing is seen, and at the end nothing waits
pub nothing_seen : (seen : BTreeSet (Bor (List ℕ))) → seen.keys ≡ [] → (name : List ℕ) → has_name seen name ≡ false
nothing_seen seen empty name = ap (λ ks. has_name (record { keys = ks }) name) empty

pub nobody_waits : (waiting : List (Bor (List ℕ))) → waiting ≡ [] → (name : List ℕ) → IsListed (texts waiting) name → ⊥
nobody_waits waiting none name w = let no : false ≡ true = sym (ap (λ l. list_any (bytes_eq name) (texts l)) none) ∙ w in absurd cc
