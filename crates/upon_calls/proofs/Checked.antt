-- Templates that are checked.
use Rattle.std.proofs.Common.{arith, ◌≡◌, ◌⊎◌, ◌↔◌, ◌<◌, ◌≤◌, ◌+◌, ◌&&◌, ◌==◌, ◌∙◌, ◌∷◌, ◌++◌, [], length, ℕ, List, Bool, true, false, Bor, Contains, get_or, take, refl, sym, ap, subst, inl, inr}
use Rattle.std.proofs.lemmas.Bool.{eqb-true}
use Rattle.std.proofs.lemmas.List.{map-append, take_all, take_more}
use Rattle.upon_types.specs.Error.{fault_of}
use Rattle.upon_types.specs.Fault.{syntax, out_of_memory, fault_with_name, OrMemory}
use Rattle.upon_types.specs.Tree.{Statements}
use Rattle.upon_types.specs.Val.{Val}
use Rattle.upon_types.specs.declared.error.Error.{Error}
use Rattle.upon_language_spec.specs.Grammar.{HasTree}
use Rattle.upon_language_spec.specs.Search.{DelimiterText}
use Rattle.upon_meaning_spec.specs.Includes.{Includes}
use Rattle.upon_needs.specs.Names.{texts}
use Rattle.upon_calls.specs.Check.{is_missing, AreRight, IsRight}
use Rattle.upon_calls.specs.Failure.{is_memory_kind}
use Rattle.upon_calls.specs.Templates.{lent_pairs}
use Rattle.upon_calls.proofs.Kept.{first_true, second_true}

-- ---- one text
pub not_memory : (e : Error) → is_memory_kind (fault_of e).kind ≡ false → fault_of e ≡ out_of_memory → ⊥
not_memory e is out = let no : true ≡ false = sym (ap (λ f. is_memory_kind f.kind) out) ∙ is in absurd cc

-- it has a fault, so it is not right
pub not_compiled : (delimiters : List DelimiterText) (templates : Val) (name text : List ℕ) (e named : Error) {First : Type 0} → is_memory_kind (fault_of named).kind ≡ false → OrMemory (fault_with_name name (fault_of e)) (fault_of named) → (fault_of e ≡ out_of_memory) ⊎ First
    → ((fault_of e).kind ≡ syntax → (tree : Statements) → HasTree delimiters text tree → ⊥) → (First → (fault_of e).kind ≡ syntax) → (false ≡ true) ↔ IsRight delimiters templates text
not_compiled delimiters templates name text e named is (inr out) faulty none kind = absurd (not_memory named is out)
not_compiled delimiters templates name text e named is (inl same) (inl out) none kind =
    let no : true ≡ false = sym (ap (λ f. is_memory_kind f.kind) (same ∙ ap (fault_with_name name) out)) ∙ is in absurd cc
not_compiled delimiters templates name text e named is (inl same) (inr first) none kind =
    (λ no. absurd cc, λ right. absurd (none (kind first) right.0 right.1))

pub no_member : (name : List ℕ) → Contains [] name → ⊥
no_member name c = let inside : c.0 < 0 = c.1 in omega arith

pub unmissed : (b : Bool) → (b ≡ true → ⊥) → b ≡ false
unmissed true never = absurd (never refl)
unmissed false never = refl

pub no_names : (items : List (Bor (List ℕ))) (n : ℕ) → n ≡ length items → (n == 0) ≡ true → texts items ≡ []
no_names [] n len is = refl
no_names (item ∷ items) n len is =
    let none : n ≡ 0 = eqb-true n 0 is in
    let no : 1 ≤ n = subst (λ n. 1 ≤ n) (sym len) (omega arith) in absurd (omega arith)

-- no include names nothing
none_missing : (delimiters : List DelimiterText) (templates : Val) (text : List ℕ) (tree : Statements) (names : List (List ℕ)) → names ≡ [] → HasTree delimiters text tree
    → ((name : List ℕ) → Contains names name ↔ (Includes name tree × (is_missing templates name ≡ true))) → (true ≡ true) ↔ IsRight delimiters templates text
none_missing delimiters templates text tree names no_name has each =
    (λ e. (tree, has, λ name included. unmissed (is_missing templates name) (λ is. no_member name (subst (λ names. Contains names name) no_name ((each name).1 (included, is))))), λ right. refl)

pub no_name_missing : (delimiters : List DelimiterText) (templates : Val) (text : List ℕ) (tree : Statements) (items : List (Bor (List ℕ))) (n : ℕ) → n ≡ length items → (n == 0) ≡ true → HasTree delimiters text tree
    → ((name : List ℕ) → Contains (texts items) name ↔ (Includes name tree × (is_missing templates name ≡ true))) → (true ≡ true) ↔ IsRight delimiters templates text
no_name_missing delimiters templates text tree items n len is has each =
    none_missing delimiters templates text tree (texts items) (no_names items n len is) has each

-- one does
one_missing : (delimiters : List DelimiterText) (templates : Val) (text : List ℕ) (tree : Statements) (name : List ℕ) (names : List (List ℕ)) → ((other : Statements) → HasTree delimiters text other → other ≡ tree)
    → ((other : List ℕ) → Contains (name ∷ names) other ↔ (Includes other tree × (is_missing templates other ≡ true))) → (false ≡ true) ↔ IsRight delimiters templates text
one_missing delimiters templates text tree name names only each =
    let here = (each name).0 (0, omega arith, refl) in (
      λ e. absurd cc,
      λ right.
          let is : true ≡ false = sym here.1 ∙ right.2 name (subst (Includes name) (sym (only right.0 right.1)) here.0) in absurd cc,
    )

pub some_missing : (delimiters : List DelimiterText) (templates : Val) (text : List ℕ) (tree : Statements) (items : List (Bor (List ℕ))) (n : ℕ) → n ≡ length items → (n == 0) ≡ false
    → ((other : Statements) → HasTree delimiters text other → other ≡ tree)
    → ((other : List ℕ) → Contains (texts items) other ↔ (Includes other tree × (is_missing templates other ≡ true))) → (false ≡ true) ↔ IsRight delimiters templates text
some_missing delimiters templates text tree [] n len is only each =
    let no : true ≡ false = sym (ap (λ n. n == 0) len) ∙ is in absurd cc
some_missing delimiters templates text tree (item ∷ items) n len is only each =
    one_missing delimiters templates text tree item.now (texts items) only each

-- ---- one text more
both_true : (x y : Bool) → x ≡ true → y ≡ true → (x && y) ≡ true
both_true true y a b = b
both_true false y a b = a

right_more : (delimiters : List DelimiterText) (templates : Val) (sources : List (List ℕ × List ℕ)) (s : List ℕ × List ℕ) → AreRight delimiters templates (sources ++ s ∷ []) ↔ (AreRight delimiters templates sources × IsRight delimiters templates s.1)
right_more delimiters templates [] s = (λ are. (tt, are.0), λ both. (both.1, tt))
right_more delimiters templates (first ∷ rest) s =
    let later = right_more delimiters templates rest s in (
      λ are. let both = later.0 are.1 in ((are.0, both.0), both.1),
      λ both. (both.0.0, later.1 (both.0.1, both.1)),
    )

pub checked_more : (delimiters engine : List DelimiterText) (templates : Val) (sources : List (Bor (List ℕ) × Bor (List ℕ))) (i : ℕ) (d : Bor (List ℕ) × Bor (List ℕ)) (right one new : Bool) (source : List ℕ) → i < length sources → engine ≡ delimiters → (get_or sources i d).1.now ≡ source → new ≡ (right && one)
    → ((right ≡ true) ↔ AreRight delimiters templates (lent_pairs (take i sources))) → ((one ≡ true) ↔ IsRight engine templates source) → (new ≡ true) ↔ AreRight delimiters templates (lent_pairs (take (i + 1) sources))
checked_more delimiters engine templates sources i d right one new source inside same texted is so_far here =
    let s : List ℕ × List ℕ = ((get_or sources i d).0.now, (get_or sources i d).1.now) in
    let listed : lent_pairs (take i sources) ++ s ∷ [] ≡ lent_pairs (take (i + 1) sources) = sym (map-append (λ pair. (pair.0.now, pair.1.now)) (take i sources) (get_or sources i d ∷ [])) ∙ ap lent_pairs (sym (take_more sources i d inside)) in
    let more = right_more delimiters templates (lent_pairs (take i sources)) s in
    let this : (one ≡ true) ↔ IsRight delimiters templates s.1 = subst (λ text. (one ≡ true) ↔ IsRight delimiters templates text) (sym texted) (subst (λ ds. (one ≡ true) ↔ IsRight ds templates source) same here) in (
      λ e.
          let both : (right && one) ≡ true = sym is ∙ e in
          subst (AreRight delimiters templates) listed (more.1 (so_far.0 (first_true right one both), this.0 (second_true right one both))),
      λ are.
          let both = more.0 (subst (AreRight delimiters templates) (sym listed) are) in
          is ∙ both_true right one (so_far.1 both.0) (this.1 both.1),
    )

pub none_checked : (delimiters : List DelimiterText) (templates : Val) (sources : List (Bor (List ℕ) × Bor (List ℕ))) → (true ≡ true) ↔ AreRight delimiters templates (lent_pairs (take 0 sources))
none_checked delimiters templates sources = (λ e. tt, λ are. refl)

pub all_checked : (delimiters : List DelimiterText) (templates : Val) (sources : List (Bor (List ℕ) × Bor (List ℕ))) (i : ℕ) (right : Bool) → length sources ≤ i → ((right ≡ true) ↔ AreRight delimiters templates (lent_pairs (take i sources))) → (right ≡ true) ↔ AreRight delimiters templates (lent_pairs sources)
all_checked delimiters templates sources i right done so_far =
    subst (λ ss. (right ≡ true) ↔ AreRight delimiters templates (lent_pairs ss)) (take_all i sources done) so_far
