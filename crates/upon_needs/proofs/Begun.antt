-- Which templates begin such a path: among some names, and along a loop over them.
use Rattle.std.proofs.Common.{◌≡◌, ◌⊎◌, ◌↔◌, ◌||◌, ◌∷◌, ◌++◌, [], ℕ, List, Option, Some, None, Bool, true, false, is_some, String, Contains, Bor, bytes_eq, inl, inr, refl, sym, ap, ◌∙◌, subst}
use Rattle.std.specs.BTreeMap.{BTreeMap}
use Rattle.std.specs.BTreeSet.{BTreeSet}
use Rattle.std.specs.List.{list_any}
use Rattle.upon_types.specs.Tree.{Statements}
use Rattle.upon_meaning_spec.specs.Engine.{Table, Template}
use Rattle.upon_meaning_spec.specs.Includes.{Reaches}
use Rattle.upon_meaning_spec.specs.Missing.{Missing}
use Rattle.upon_meaning_spec.specs.Needs.{Start, a_name, StatementsBegin, NeedsName, Needs}
use Rattle.upon_machine_spec.specs.ProgramNames.{IsListed}
use Rattle.upon_needs.specs.EngineNeeds.{start_of, HeldBegins, OneBegins, Linked}
use Rattle.upon_engine.specs.Engine.{table_in}
use Rattle.upon_needs.specs.Names.{texts, has_name}
use Rattle.upon_engine.specs.Template.{template_of, template_tree}
use Rattle.upon_engine.specs.declared.template.Template.{Template as Held}
use Rattle.upon_needs.specs.declared.needs.Links.TheVariants.{All, Passing, Free}
use Rattle.upon_needs.specs.declared.starts.PathStart.{PathStart}
use Rattle.upon_needs.specs.declared.starts.PathStart.TheVariants.{Name}
use Rattle.upon_needs.proofs.Links.{either_true, first_true, second_true, linked_reached, passed_reached, needs_begun, begun_needed}
use Rattle.upon_needs.proofs.SearchSteps.{lists_last, lists_before, before_or_last}
use Rattle.upon_needs.proofs.SetsOfNames.{has_listed, listed_contains}

-- a search over names that stops at the first whose template begins such a path
abbrev pub NoneBegins : Table → List (Bor (List ℕ)) → Start → Type 0
NoneBegins table names start = (name : List ℕ) → IsListed (texts names) name → HeldBegins (table name) start → ⊥

pub none_begin : (table : Table) (start : Start) → NoneBegins table [] start
none_begin table start name w b = let no : false ≡ true = w in absurd cc

pub none_more : (table : Table) (start : Start) (names : List (Bor (List ℕ))) (one : Bor (List ℕ)) (so : Bool) → NoneBegins table names start → ((so ≡ true) ↔ HeldBegins (table one.now) start) → so ≡ false → NoneBegins table (names ++ one ∷ []) start
none_more table start names one so none is stops name w b = split (before_or_last names one name w)
  where
    split : IsListed (texts names) name ⊎ (name ≡ one.now) → ⊥
    split (inl w) = none name w b
    split (inr at) = let never : false ≡ true = sym stops ∙ is.1 (subst (λ n. HeldBegins (table n) start) at b) in absurd cc

middle : (ys rest : List (Bor (List ℕ))) (one : Bor (List ℕ)) → IsListed (texts (ys ++ one ∷ rest)) one.now
middle [] rest one = lists_first rest one
  where
    lists_first : (rest : List (Bor (List ℕ))) (one : Bor (List ℕ)) → IsListed (texts (one ∷ rest)) one.now
    lists_first rest one = first_true (bytes_eq one.now one.now) (list_any (bytes_eq one.now) (texts rest)) (only_one one)
      where
        only_one : (one : Bor (List ℕ)) → bytes_eq one.now one.now ≡ true
        only_one one = single (bytes_eq one.now one.now) (lists_last [] one)
          where
            single : (x : Bool) → (x || false) ≡ true → x ≡ true
            single true e = refl
            single false e = absurd cc
middle (y ∷ ys) rest one = second_true (bytes_eq one.now y.now) (list_any (bytes_eq one.now) (texts (ys ++ one ∷ rest))) (middle ys rest one)

pub one_found : (table : Table) (start : Start) (names : BTreeSet (Bor (List ℕ))) (ys rest : List (Bor (List ℕ))) (one : Bor (List ℕ)) (so : Bool) → ys ++ one ∷ rest ≡ names.keys → ((so ≡ true) ↔ HeldBegins (table one.now) start) → so ≡ true → (true ≡ true) ↔ OneBegins table (λ name. has_name names name ≡ true) start
one_found table start names ys rest one so all is found = (
  λ e. (one.now, has_listed names.keys one.now ∙ subst (λ ks. IsListed (texts ks) one.now) all (middle ys rest one), is.0 found),
  λ h. refl,
)

pub none_found : (table : Table) (start : Start) (names : BTreeSet (Bor (List ℕ))) (ys : List (Bor (List ℕ))) → ys ≡ names.keys → NoneBegins table ys start → (false ≡ true) ↔ OneBegins table (λ name. has_name names name ≡ true) start
none_found table start names ys all none = (
  λ e. absurd (cc),
  λ h. absurd (none h.0 (subst (λ ks. IsListed (texts ks) h.0) (sym all) (sym (has_listed names.keys h.0) ∙ h.1)) h.2),
)

-- a name's template
pub begins_held : (o : Option Template) (t : Template) (start : Start) (so : Bool) → Some t ≡ o → ((so ≡ true) ↔ StatementsBegin start t.tree) → (so ≡ true) ↔ HeldBegins o start
begins_held o t start so is law = subst (λ o. (so ≡ true) ↔ HeldBegins o start) is law

pub begins_none : (o : Option Template) (start : Start) → None ≡ o → (false ≡ true) ↔ HeldBegins o start
begins_none o start is = subst (λ o. (false ≡ true) ↔ HeldBegins o start) is (λ e. absurd (cc), λ h. absurd h)

-- needed is what begins in the tree, or in a template of a name that a search along what passes it has seen
pub needed_here : (table : Table) (tree : Statements) (start : PathStart) (so : Bool) → ((so ≡ true) ↔ StatementsBegin (start_of start) tree) → so ≡ true → (true ≡ true) ↔ Needs table tree (start_of start)
needed_here table tree start so law found = (λ e. (needs_begun table start tree).1 (inl (law.0 found)), λ h. refl)

pub needed_there : (table : Table) (tree : Statements) (start : PathStart) (so one : Bool) (seen : BTreeSet (Bor (List ℕ))) → ((so ≡ true) ↔ StatementsBegin (start_of start) tree) → so ≡ false → ((name : List ℕ) → (has_name seen name ≡ true) ↔ Linked table (Passing start) tree name) → ((one ≡ true) ↔ OneBegins table (λ name. has_name seen name ≡ true) (start_of start)) → (one ≡ true) ↔ Needs table tree (start_of start)
needed_there table tree start so one seen law stops all found = (
  λ e. let h = found.0 e in (needs_begun table start tree).1 (inr (h.0, (all h.0).0 h.1, h.2)),
  λ h. there ((needs_begun table start tree).0 h),
)
  where
    there : StatementsBegin (start_of start) tree ⊎ OneBegins table (Linked table (Passing start) tree) (start_of start) → one ≡ true
    there (inl b) = let never : false ≡ true = sym stops ∙ law.1 b in absurd cc
    there (inr h) = found.1 (h.0, (all h.0).1 h.1, h.2)

-- names that begin paths, put into a set
pub puts_none : (set : BTreeSet (Bor (List ℕ))) (name : List ℕ) → (has_name set name ≡ true) ↔ ((has_name set name ≡ true) ⊎ ⊥)
puts_none set name = (λ e. inl e, back)
  where
    back : (has_name set name ≡ true) ⊎ ⊥ → has_name set name ≡ true
    back (inl e) = e
    back (inr h) = absurd h

pub puts_begun : (old new : Bool) (names : List (List ℕ)) (name : List ℕ) (P : Type 0) → new ≡ (old || list_any (bytes_eq name) names) → (Contains names name ↔ P) → (new ≡ true) ↔ ((old ≡ true) ⊎ P)
puts_begun old new names name P puts law = (
  λ e. there (either_true old (list_any (bytes_eq name) names) (sym puts ∙ e)),
  back,
)
  where
    there : (old ≡ true) ⊎ (list_any (bytes_eq name) names ≡ true) → (old ≡ true) ⊎ P
    there (inl e) = inl e
    there (inr e) = inr (law.0 ((listed_contains names name).1 e))

    back : (old ≡ true) ⊎ P → new ≡ true
    back (inl e) = puts ∙ first_true old (list_any (bytes_eq name) names) e
    back (inr p) = puts ∙ second_true old (list_any (bytes_eq name) names) ((listed_contains names name).0 (law.1 p))

-- the names that begin paths in a tree, or in the templates of some names
abbrev pub BegunIn : Table → Statements → BTreeSet (Bor (List ℕ)) → List (Bor (List ℕ)) → Type 0
BegunIn table tree begun names = (name : List ℕ) → (has_name begun name ≡ true) ↔ (StatementsBegin (a_name name) tree ⊎ OneBegins table (IsListed (texts names)) (a_name name))

pub begun_first : (table : Table) (tree : Statements) (old begun : BTreeSet (Bor (List ℕ))) → old.keys ≡ [] → ((name : List ℕ) → (has_name begun name ≡ true) ↔ ((has_name old name ≡ true) ⊎ StatementsBegin (a_name name) tree)) → BegunIn table tree begun []
begun_first table tree old begun empty law name = (λ e. there ((law name).0 e), back)
  where
    there : (has_name old name ≡ true) ⊎ StatementsBegin (a_name name) tree → StatementsBegin (a_name name) tree ⊎ OneBegins table (IsListed []) (a_name name)
    there (inl e) = let no : false ≡ true = sym (ap (λ ks. has_name (record { keys = ks }) name) empty) ∙ e in absurd cc
    there (inr b) = inl b

    back : StatementsBegin (a_name name) tree ⊎ OneBegins table (IsListed []) (a_name name) → has_name begun name ≡ true
    back (inl b) = (law name).1 (inr b)
    back (inr h) = let no : false ≡ true = h.1 in absurd cc

pub begun_step : (table : Table) (tree : Statements) (old begun : BTreeSet (Bor (List ℕ))) (names : List (Bor (List ℕ))) (one : Bor (List ℕ)) → BegunIn table tree old names → ((name : List ℕ) → (has_name begun name ≡ true) ↔ ((has_name old name ≡ true) ⊎ HeldBegins (table one.now) (a_name name))) → BegunIn table tree begun (names ++ one ∷ [])
begun_step table tree old begun names one so law name = (λ e. there ((law name).0 e), back)
  where
    kept : StatementsBegin (a_name name) tree ⊎ OneBegins table (IsListed (texts names)) (a_name name) → StatementsBegin (a_name name) tree ⊎ OneBegins table (IsListed (texts (names ++ one ∷ []))) (a_name name)
    kept (inl b) = inl b
    kept (inr h) = inr (h.0, lists_before names one h.0 h.1, h.2)

    there : (has_name old name ≡ true) ⊎ HeldBegins (table one.now) (a_name name) → StatementsBegin (a_name name) tree ⊎ OneBegins table (IsListed (texts (names ++ one ∷ []))) (a_name name)
    there (inl e) = kept ((so name).0 e)
    there (inr b) = inr (one.now, lists_last names one, b)

    among : (via : List ℕ) → HeldBegins (table via) (a_name name) → IsListed (texts names) via ⊎ (via ≡ one.now) → has_name begun name ≡ true
    among via b (inl w) = (law name).1 (inl ((so name).1 (inr (via, w, b))))
    among via b (inr at) = (law name).1 (inr (subst (λ n. HeldBegins (table n) (a_name name)) at b))

    back : StatementsBegin (a_name name) tree ⊎ OneBegins table (IsListed (texts (names ++ one ∷ []))) (a_name name) → has_name begun name ≡ true
    back (inl b) = (law name).1 (inl ((so name).1 (inl b)))
    back (inr h) = among h.0 h.2 (before_or_last names one h.0 h.1)

-- what a search along all links has seen is what is reached
pub reached_lists : (table : Table) (tree : Statements) (seen : BTreeSet (Bor (List ℕ))) (names : List (List ℕ)) → ((name : List ℕ) → (has_name seen name ≡ true) ↔ Linked table All tree name) → ((name : List ℕ) → Contains names name ↔ (has_name seen name ≡ true)) → (name : List ℕ) → IsListed names name ↔ Reaches table tree name
reached_lists table tree seen names all same name = (
  λ w. (linked_reached table tree name).0 ((all name).0 ((same name).0 ((listed_contains names name).1 w))),
  λ h. (listed_contains names name).0 ((same name).1 ((all name).1 ((linked_reached table tree name).1 h))),
)

-- a needed name is among those that begin paths in the tree or in what it reaches
pub needed_begun : (table : Table) (tree : Statements) (reached : List (Bor (List ℕ))) (begun : BTreeSet (Bor (List ℕ))) → ((name : List ℕ) → IsListed (texts reached) name ↔ Reaches table tree name) → BegunIn table tree begun reached → (word : Bor (List ℕ)) → NeedsName table tree word.now → has_name begun word.now ≡ true
needed_begun table tree reached begun all so word needs = (so word.now).1 (among ((needs_begun table (Name word) tree).0 needs))
  where
    among : StatementsBegin (a_name word.now) tree ⊎ OneBegins table (Linked table (Passing (Name word)) tree) (a_name word.now) → StatementsBegin (a_name word.now) tree ⊎ OneBegins table (IsListed (texts reached)) (a_name word.now)
    among (inl b) = inl b
    among (inr h) = inr (h.0, (all h.0).1 (passed_reached table (Name word) tree h.0 h.1), h.2)

-- those of the begun names that are needed are those that are needed
pub needed_all : (table : Table) (tree : Statements) (reached : List (Bor (List ℕ))) (begun : BTreeSet (Bor (List ℕ))) → ((name : List ℕ) → IsListed (texts reached) name ↔ Reaches table tree name) → BegunIn table tree begun reached → (names : List (List ℕ)) → ((name : List ℕ) → Contains names name ↔ ((has_name begun name ≡ true) × NeedsName table tree name)) → (name : List ℕ) → Contains names name ↔ NeedsName table tree name
needed_all table tree reached begun all so names same name = (
  λ w. ((same name).0 w).1,
  λ h. (same name).1 (needed_begun table tree reached begun all so (record { ref_ptr = (0, 0); now = name }) h, h),
)

-- what begins in the tree, or in templates that a search has seen which pass every path, is needed
pub surely : (table : Table) (tree : Statements) (seen begun : BTreeSet (Bor (List ℕ))) (reached : List (Bor (List ℕ))) → ((name : List ℕ) → (has_name seen name ≡ true) ↔ Linked table Free tree name) → ((name : List ℕ) → Contains (texts reached) name ↔ (has_name seen name ≡ true)) → BegunIn table tree begun reached → (name : List ℕ) → has_name begun name ≡ true → NeedsName table tree name
surely table tree seen begun reached all same so name e = begun_needed table (record { ref_ptr = (0, 0); now = name }) tree (linked ((so name).0 e))
  where
    linked : StatementsBegin (a_name name) tree ⊎ OneBegins table (IsListed (texts reached)) (a_name name) → StatementsBegin (a_name name) tree ⊎ OneBegins table (Linked table Free tree) (a_name name)
    linked (inl b) = inl b
    linked (inr h) = inr (h.0, (all h.0).0 ((same h.0).0 ((listed_contains (texts reached) h.0).1 h.1)), h.2)

-- one that surely is needed
pub needed_surely : (P : Type 0) → P → (true ≡ true) ↔ P
needed_surely P p = (λ e. p, λ h. refl)

none_there : (o : Option Template) → is_some o ≡ false → o ≡ None
none_there None e = refl
none_there (Some t) e = absurd cc

-- those that are reached and have no template are missing
pub missing_all : (table : Table) (tree : Statements) (reached : List (Bor (List ℕ))) → ((name : List ℕ) → IsListed (texts reached) name ↔ Reaches table tree name) → (names : List (List ℕ)) → ((name : List ℕ) → Contains names name ↔ (IsListed (texts reached) name × (is_some (table name) ≡ false))) → (name : List ℕ) → Contains names name ↔ Missing table tree name
missing_all table tree reached all names same name = (
  λ w. let k = (same name).0 w in ((all name).0 k.0, none_there (table name) k.1),
  λ h. (same name).1 ((all name).1 h.0, ap is_some h.1),
)

pub templates_all : (table : Table) (tree : Statements) (reached : List (Bor (List ℕ))) → ((name : List ℕ) → IsListed (texts reached) name ↔ Reaches table tree name) → (names : List (List ℕ)) → ((name : List ℕ) → Contains names name ↔ (IsListed (texts reached) name × (is_some (table name) ≡ true))) → (name : List ℕ) → Contains names name ↔ (Reaches table tree name × (is_some (table name) ≡ true))
templates_all table tree reached all names same name = (
  λ w. let k = (same name).0 w in ((all name).0 k.0, k.1),
  λ h. (same name).1 ((all name).1 h.0, h.1),
)

-- what is said of the template of a name, by the table of an engine
pub for_table : {A : Type 0} (m n : BTreeMap (String A) Held) (name : List ℕ) (P : Table → Statements → Type 0) → m ≡ n → (held : Held) (t : Template) → Some (template_of held) ≡ table_in n name → table_in n name ≡ Some t → P (table_in m) (template_tree held) → P (table_in n) t.tree
for_table m n name P same held t here is p =
    let both : Some (template_of held) ≡ Some t = here ∙ is in
    let it : template_of held ≡ t = cc in
    subst (λ u. P (table_in n) u.tree) it (subst (λ x. P (table_in x) (template_tree held)) same p)
