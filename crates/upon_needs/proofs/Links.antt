-- Searches along links from template to template: what is seen in the end, and what is needed by that.
use Rattle.std.proofs.Common.{◌≡◌, ◌⊎◌, ◌↔◌, ℕ, List, [], ◌∷◌, ◌++◌, Option, Some, None, Bool, true, false, ◌||◌, is_some, Bor, bytes_eq, inl, inr, refl, sym, ap, ◌∙◌, subst}
use Rattle.std.specs.List.{list_any}
use Rattle.upon_types.specs.Tree.{Statements}
use Rattle.upon_meaning_spec.specs.Engine.{Table, Template}
use Rattle.upon_meaning_spec.specs.Includes.{ReachesBy, Reaches}
use Rattle.upon_meaning_spec.specs.Needs.{a_name, StatementsBegin, StatementsPass, NeedsBy, Needs, NeedsName}
use Rattle.upon_meaning_spec.proofs.WhatIsNeeded.LessThanRead.{statements_include}
use Rattle.upon_machine_spec.specs.ProgramNames.{IsListed}
use Rattle.upon_needs.specs.EngineNeeds.{start_of, link, LinkedBy, Linked, HeldBegins, OneBegins, Searched, Marked}
use Rattle.upon_needs.specs.declared.needs.Links.{Links}
use Rattle.upon_needs.specs.declared.needs.Links.TheVariants.{All, Passing, Free}
use Rattle.upon_needs.specs.declared.starts.PathStart.{PathStart}
use Rattle.upon_needs.specs.declared.starts.PathStart.TheVariants.{Name}
use Rattle.upon_needs.proofs.OpenBlocks.{free_passes}

pub either_true : (x y : Bool) → (x || y) ≡ true → (x ≡ true) ⊎ (y ≡ true)
either_true true y e = inl refl
either_true false y e = inr e

pub first_true : (x y : Bool) → x ≡ true → (x || y) ≡ true
first_true true y e = refl
first_true false y e = absurd cc

pub second_true : (x y : Bool) → y ≡ true → (x || y) ≡ true
second_true true y e = refl
second_true false y e = e

never : (x : Bool) {P : Type 0} → x ≡ false → x ≡ true → P
never x is e = let no : false ≡ true = sym is ∙ e in absurd cc

module _ (table : Table) (by : Links) where
  -- one link further
  linked_on : (tree : Statements) (names : List (List ℕ)) (name : List ℕ) (t : Template) (next : List ℕ) → LinkedBy table by tree names name → table name ≡ Some t → link by t.tree next → LinkedBy table by tree (names ++ name ∷ []) next
  linked_on tree [] name t next h is l = (h, (t, is, l))
  linked_on tree (via ∷ names) name t next h is l = (h.0, (h.1.0, h.1.1, linked_on h.1.0.tree names name t next h.1.2 is l))

  pub linked_more : (tree : Statements) (name : List ℕ) (t : Template) (next : List ℕ) → Linked table by tree name → table name ≡ Some t → link by t.tree next → Linked table by tree next
  linked_more tree name t next h is l = (h.0 ++ name ∷ [], linked_on tree h.0 name t next h.1 is l)

  -- what has each link's end has all to which links lead
  module _ (S : List ℕ → Type 0) (closed : (name : List ℕ) (t : Template) (next : List ℕ) → S name → table name ≡ Some t → link by t.tree next → S next) where
    closed_by : (tree : Statements) (names : List (List ℕ)) (name : List ℕ) → ((next : List ℕ) → link by tree next → S next) → LinkedBy table by tree names name → S name
    closed_by tree [] name first h = first name h
    closed_by tree (via ∷ names) name first h = closed_by h.1.0.tree names name (λ next l. closed via h.1.0 next (first via h.0) h.1.1 l) h.1.2

  module _ (tree : Statements) (old new : List ℕ → Bool) (names : List (List ℕ)) (waited waits : List ℕ → Type 0) (m : Marked table old new names waited waits) where
    -- the links of the tree itself
    pub search_begins : ((name : List ℕ) → old name ≡ false) → ((name : List ℕ) → waited name → ⊥) → ((name : List ℕ) → IsListed names name ↔ link by tree name) → Searched table by tree new waits
    search_begins nothing nobody ends = record {
      sound = λ name e. ([], (ends name).0 (listed name (either_true (old name) (list_any (bytes_eq name) names) (sym (m.seen name) ∙ e))));
      known = λ name w. known name (m.only name w);
      followed = λ name t e is. inl (waiting name (m.added name e (ap is_some is)));
      first = λ next l. m.seen next ∙ second_true (old next) (list_any (bytes_eq next) names) ((ends next).1 l);
    }
      where
        listed : (name : List ℕ) → (old name ≡ true) ⊎ (list_any (bytes_eq name) names ≡ true) → IsListed names name
        listed name (inl e) = never (old name) (nothing name) e
        listed name (inr e) = e

        known : (name : List ℕ) → waited name ⊎ (new name ≡ true) → new name ≡ true
        known name (inl w) = absurd (nobody name w)
        known name (inr e) = e

        waiting : (name : List ℕ) → (old name ≡ true) ⊎ waits name → waits name
        waiting name (inl e) = never (old name) (nothing name) e
        waiting name (inr w) = w

    -- the links of a template that waited
    module _ (before : List ℕ → Type 0) (s : Searched table by tree old before) (one : List ℕ) (t : Template) (it_waits : before one) (is : table one ≡ Some t) (others : (name : List ℕ) → before name → waited name ⊎ (name ≡ one)) (same : (name : List ℕ) → waited name → before name) (ends : (name : List ℕ) → IsListed names name ↔ link by t.tree name) where
      grown : (name : List ℕ) → old name ≡ true → new name ≡ true
      grown name e = m.seen name ∙ first_true (old name) (list_any (bytes_eq name) names) e

      linked_to : (name : List ℕ) → (old name ≡ true) ⊎ (list_any (bytes_eq name) names ≡ true) → Linked table by tree name
      linked_to name (inl e) = s.sound name e
      linked_to name (inr l) = linked_more tree one t name (s.sound one (s.known one it_waits)) is ((ends name).0 l)

      known_now : (name : List ℕ) → waited name ⊎ (new name ≡ true) → new name ≡ true
      known_now name (inl w) = grown name (s.known name (same name w))
      known_now name (inr e) = e

      its_links : (name : List ℕ) (u : Template) → name ≡ one → table name ≡ Some u → (next : List ℕ) → link by u.tree next → new next ≡ true
      its_links name u at here next l =
          let both : Some u ≡ Some t = sym here ∙ ap table at ∙ is in
          let it : u ≡ t = cc in
          m.seen next ∙ second_true (old next) (list_any (bytes_eq next) names) ((ends next).1 (subst (λ x. link by x.tree next) it l))

      waited_then : (name : List ℕ) (u : Template) → table name ≡ Some u → waited name ⊎ (name ≡ one) → waits name ⊎ ((next : List ℕ) → link by u.tree next → new next ≡ true)
      waited_then name u here (inl w) = inl (m.stay name w)
      waited_then name u here (inr at) = inr (its_links name u at here)

      seen_then : (name : List ℕ) (u : Template) → table name ≡ Some u → before name ⊎ ((next : List ℕ) → link by u.tree next → old next ≡ true) → waits name ⊎ ((next : List ℕ) → link by u.tree next → new next ≡ true)
      seen_then name u here (inl w) = waited_then name u here (others name w)
      seen_then name u here (inr done) = inr (λ next l. grown next (done next l))

      then_or_new : (name : List ℕ) (u : Template) → table name ≡ Some u → (old name ≡ true) ⊎ waits name → waits name ⊎ ((next : List ℕ) → link by u.tree next → new next ≡ true)
      then_or_new name u here (inl e) = seen_then name u here (s.followed name u e here)
      then_or_new name u here (inr w) = inl w

      pub search_follows : Searched table by tree new waits
      search_follows = record {
        sound = λ name e. linked_to name (either_true (old name) (list_any (bytes_eq name) names) (sym (m.seen name) ∙ e));
        known = λ name w. known_now name (m.only name w);
        followed = λ name u e here. then_or_new name u here (m.added name e (ap is_some here));
        first = λ next l. grown next (s.first next l);
      }

  -- a name that has no template is followed by nothing
  pub search_skips : (tree : Statements) (seen : List ℕ → Bool) (before waits : List ℕ → Type 0) → Searched table by tree seen before → (one : List ℕ) → table one ≡ None → ((name : List ℕ) → before name → waits name ⊎ (name ≡ one)) → ((name : List ℕ) → waits name → before name) → Searched table by tree seen waits
  search_skips tree seen before waits s one is others same = record {
    sound = s.sound;
    known = λ name w. s.known name (same name w);
    followed = λ name u e here. still name u here (s.followed name u e here);
    first = s.first;
  }
    where
      other : (name : List ℕ) (u : Template) → table name ≡ Some u → waits name ⊎ (name ≡ one) → waits name
      other name u here (inl w) = w
      other name u here (inr at) = let no : Some u ≡ None = sym here ∙ ap table at ∙ is in absurd cc

      still : (name : List ℕ) (u : Template) → table name ≡ Some u → before name ⊎ ((next : List ℕ) → link by u.tree next → seen next ≡ true) → waits name ⊎ ((next : List ℕ) → link by u.tree next → seen next ≡ true)
      still name u here (inl w) = inl (other name u here (others name w))
      still name u here (inr done) = inr done

  -- when nothing waits, all is seen to which links lead, and nothing else
  pub search_ends : (tree : Statements) (seen : List ℕ → Bool) (waits : List ℕ → Type 0) → Searched table by tree seen waits → ((name : List ℕ) → waits name → ⊥) → (name : List ℕ) → (seen name ≡ true) ↔ Linked table by tree name
  search_ends tree seen waits s nobody name = (
    s.sound name,
    λ h. closed_by (λ n. seen n ≡ true) (λ n t next e is l. done n t (s.followed n t e is) next l) tree h.0 name s.first h.1,
  )
    where
      done : (n : List ℕ) (t : Template) → waits n ⊎ ((next : List ℕ) → link by t.tree next → seen next ≡ true) → (next : List ℕ) → link by t.tree next → seen next ≡ true
      done n t (inl w) = absurd (nobody n w)
      done n t (inr d) = d

-- links by includes lead to what is reached
module _ (table : Table) where
  to_reached : (tree : Statements) (names : List (List ℕ)) (name : List ℕ) → LinkedBy table All tree names name → ReachesBy table tree names name
  to_reached tree [] name h = h
  to_reached tree (via ∷ names) name h = (h.0, (h.1.0, h.1.1, to_reached h.1.0.tree names name h.1.2))

  from_reached : (tree : Statements) (names : List (List ℕ)) (name : List ℕ) → ReachesBy table tree names name → LinkedBy table All tree names name
  from_reached tree [] name h = h
  from_reached tree (via ∷ names) name h = (h.0, (h.1.0, h.1.1, from_reached h.1.0.tree names name h.1.2))

  pub linked_reached : (tree : Statements) (name : List ℕ) → Linked table All tree name ↔ Reaches table tree name
  linked_reached tree name = (λ h. (h.0, to_reached tree h.0 name h.1), λ h. (h.0, from_reached tree h.0 name h.1))

module _ (table : Table) (start : PathStart) where
  all_linked : (tree : Statements) (names : List (List ℕ)) (name : List ℕ) → LinkedBy table (Passing start) tree names name → ReachesBy table tree names name
  all_linked tree [] name h = statements_include (start_of start) name tree h
  all_linked tree (via ∷ names) name h = (statements_include (start_of start) via tree h.0, (h.1.0, h.1.1, all_linked h.1.0.tree names name h.1.2))

  pub passed_reached : (tree : Statements) (name : List ℕ) → Linked table (Passing start) tree name → Reaches table tree name
  passed_reached tree name h = (h.0, all_linked tree h.0 name h.1)

  abbrev Begun : Statements → Type 0
  Begun tree = StatementsBegin (start_of start) tree ⊎ OneBegins table (Linked table (Passing start) tree) (start_of start)

  held : (o : Option Template) → HeldBegins o (start_of start) → (t : Template) × (o ≡ Some t) × StatementsBegin (start_of start) t.tree
  held None b = absurd b
  held (Some t) b = (t, refl, b)

  -- needed is what begins here, or in a template to which it is passed
  further : (tree : Statements) (via : List ℕ) (t : Template) → StatementsPass (start_of start) via tree → table via ≡ Some t → Begun t.tree → Begun tree
  further tree via t passes is (inl b) = inr (via, ([], passes), subst (λ o. HeldBegins o (start_of start)) (sym is) b)
  further tree via t passes is (inr h) = inr (h.0, (via ∷ h.1.0, (passes, (t, is, h.1.1))), h.2)

  begun_by : (tree : Statements) (names : List (List ℕ)) → NeedsBy table tree names (start_of start) → Begun tree
  begun_by tree [] h = inl h
  begun_by tree (via ∷ names) h = further tree via h.1.0 h.0 h.1.1 (begun_by h.1.0.tree names h.1.2)

  needs_by : (tree : Statements) (names : List (List ℕ)) (name : List ℕ) (t : Template) → LinkedBy table (Passing start) tree names name → table name ≡ Some t → StatementsBegin (start_of start) t.tree → NeedsBy table tree (names ++ name ∷ []) (start_of start)
  needs_by tree [] name t h is b = (h, (t, is, b))
  needs_by tree (via ∷ names) name t h is b = (h.0, (h.1.0, h.1.1, needs_by h.1.0.tree names name t h.1.2 is b))

  from_begun : (tree : Statements) → Begun tree → Needs table tree (start_of start)
  from_begun tree (inl b) = ([], b)
  from_begun tree (inr h) = let k = held (table h.0) h.2 in (h.1.0 ++ h.0 ∷ [], needs_by tree h.1.0 h.0 k.0 h.1.1 k.1 k.2)

  pub needs_begun : (tree : Statements) → Needs table tree (start_of start) ↔ Begun tree
  needs_begun tree = (λ h. begun_by tree h.0 h.1, from_begun tree)

-- what begins here, or in a template to which every path is passed, is needed
module _ (table : Table) (word : Bor (List ℕ)) where
  each_passes : (tree : Statements) (names : List (List ℕ)) (name : List ℕ) → LinkedBy table Free tree names name → LinkedBy table (Passing (Name word)) tree names name
  each_passes tree [] name h = free_passes word.now name tree h
  each_passes tree (via ∷ names) name h = (free_passes word.now via tree h.0, (h.1.0, h.1.1, each_passes h.1.0.tree names name h.1.2))

  pub begun_needed : (tree : Statements) → StatementsBegin (a_name word.now) tree ⊎ OneBegins table (Linked table Free tree) (a_name word.now) → NeedsName table tree word.now
  begun_needed tree (inl b) = (needs_begun table (Name word) tree).1 (inl b)
  begun_needed tree (inr h) = (needs_begun table (Name word) tree).1 (inr (h.0, (h.1.0, each_passes tree h.1.0 h.0 h.1.1), h.2))
