-- Texts that are refused, and texts that are right.
use Rattle.std.proofs.Common.{arith, ◌≡◌, ◌⊎◌, ◌↔◌, ◌<◌, ◌≤◌, ◌==◌, ◌∙◌, ◌∷◌, [], length, ℕ, List, Bool, true, false, Bor, Contains, refl, sym, ap, subst, inl, inr}
use Rattle.std.proofs.lemmas.Bool.{eqb-true}
use Rattle.upon_types.specs.Error.{fault_of}
use Rattle.upon_types.specs.Fault.{syntax, out_of_memory, fault_with_name, OrMemory}
use Rattle.upon_types.specs.Tree.{Statements}
use Rattle.upon_types.specs.declared.error.Error.{Error}
use Rattle.upon_language_spec.specs.Grammar.{HasTree}
use Rattle.upon_language_spec.specs.Search.{DelimiterText}
use Rattle.upon_meaning_spec.specs.Engine.{Table}
use Rattle.upon_meaning_spec.specs.Includes.{Includes}
use Rattle.upon_needs.specs.Names.{texts}
use Rattle.upon_tool_messages.specs.Judged.{calls_are_right}
use Rattle.upon_tool_messages.specs.declared.judge.Declared.{Declared}
use Rattle.upon_tool_messages.specs.Status.{is_memory_error, says_memory}
use Rattle.upon_tool_pages.specs.Missing.{is_nowhere, IsRightTemplate}
use Rattle.upon_tool_pages.proofs.Statuses.{no_success}

-- an error that is not that memory is out has another fault
pub not_memory : (e : Error) → is_memory_error e ≡ false → fault_of e ≡ out_of_memory → ⊥
not_memory e is out = let no : true ≡ false = sym (ap (λ f. says_memory f.kind) out) ∙ is in absurd cc

-- it is refused for its fault, and then it is not right
pub not_compiled : (callables : Declared) (delimiters : List DelimiterText) (table : Table) (name text : List ℕ) (e named : Error) {First : Type 0} → is_memory_error named ≡ false → OrMemory (fault_with_name name (fault_of e)) (fault_of named) → (fault_of e ≡ out_of_memory) ⊎ First
    → ((fault_of e).kind ≡ syntax → (tree : Statements) → HasTree delimiters text tree → ⊥) → (First → (fault_of e).kind ≡ syntax) → (false ≡ true) ↔ IsRightTemplate callables delimiters table name text
not_compiled callables delimiters table name text e named is (inr out) faulty none kind = absurd (not_memory named is out)
not_compiled callables delimiters table name text e named is (inl same) (inl out) none kind =
    let no : true ≡ false = sym (ap (λ f. says_memory f.kind) (same ∙ ap (fault_with_name name) out)) ∙ is in absurd cc
not_compiled callables delimiters table name text e named is (inl same) (inr first) none kind =
    (λ no. absurd cc, λ right. absurd (none (kind first) right.0 right.1))

no_member : (name : List ℕ) → Contains [] name → ⊥
no_member name c = let inside : c.0 < 0 = c.1 in omega arith

unmissed : (b : Bool) → (b ≡ true → ⊥) → b ≡ false
unmissed true never = absurd (never refl)
unmissed false never = refl

no_names : (items : List (Bor (List ℕ))) (n : ℕ) → n ≡ length items → (n == 0) ≡ true → texts items ≡ []
no_names [] n len is = refl
no_names (item ∷ items) n len is =
    let none : n ≡ 0 = eqb-true n 0 is in
    absurd (no_success n (subst (λ n. 1 ≤ n) (sym len) (omega arith)) none)

-- no include names nothing: it is right exactly if its calls are
none_missing : (callables : Declared) (delimiters : List DelimiterText) (table : Table) (own text : List ℕ) (tree : Statements) (names : List (List ℕ)) (right : Bool) → names ≡ [] → HasTree delimiters text tree
    → ((other : Statements) → HasTree delimiters text other → other ≡ tree)
    → ((name : List ℕ) → Contains names name ↔ (Includes name tree × (is_nowhere own table name ≡ true)))
    → right ≡ calls_are_right callables tree → (right ≡ true) ↔ IsRightTemplate callables delimiters table own text
none_missing callables delimiters table own text tree names right no_name has only each called = (
  λ is. (tree, has, λ name included. unmissed (is_nowhere own table name) (λ is. no_member name (subst (λ names. Contains names name) no_name ((each name).1 (included, is)))), sym called ∙ is),
  λ whole. called ∙ subst (λ tree. calls_are_right callables tree ≡ true) (only whole.0 whole.1) whole.3,
)

pub no_name_missing : (callables : Declared) (delimiters : List DelimiterText) (table : Table) (own text : List ℕ) (tree : Statements) (items : List (Bor (List ℕ))) (n : ℕ) (right : Bool) → n ≡ length items → (n == 0) ≡ true → HasTree delimiters text tree
    → ((other : Statements) → HasTree delimiters text other → other ≡ tree)
    → ((name : List ℕ) → Contains (texts items) name ↔ (Includes name tree × (is_nowhere own table name ≡ true)))
    → right ≡ calls_are_right callables tree → (right ≡ true) ↔ IsRightTemplate callables delimiters table own text
no_name_missing callables delimiters table own text tree items n right len is has only each called =
    none_missing callables delimiters table own text tree (texts items) right (no_names items n len is) has only each called

-- one does
one_missing : (callables : Declared) (delimiters : List DelimiterText) (table : Table) (own text : List ℕ) (tree : Statements) (name : List ℕ) (names : List (List ℕ)) → ((other : Statements) → HasTree delimiters text other → other ≡ tree)
    → ((other : List ℕ) → Contains (name ∷ names) other ↔ (Includes other tree × (is_nowhere own table other ≡ true))) → (false ≡ true) ↔ IsRightTemplate callables delimiters table own text
one_missing callables delimiters table own text tree name names only each =
    let here = (each name).0 (0, omega arith, refl) in (
      λ e. absurd cc,
      λ right.
          let is : true ≡ false = sym here.1 ∙ right.2 name (subst (Includes name) (sym (only right.0 right.1)) here.0) in absurd cc,
    )

pub some_missing : (callables : Declared) (delimiters : List DelimiterText) (table : Table) (own text : List ℕ) (tree : Statements) (items : List (Bor (List ℕ))) (n : ℕ) → n ≡ length items → (n == 0) ≡ false
    → ((other : Statements) → HasTree delimiters text other → other ≡ tree)
    → ((other : List ℕ) → Contains (texts items) other ↔ (Includes other tree × (is_nowhere own table other ≡ true))) → (false ≡ true) ↔ IsRightTemplate callables delimiters table own text
some_missing callables delimiters table own text tree [] n len is only each =
    let no : true ≡ false = sym (ap (λ n. n == 0) len) ∙ is in absurd cc
some_missing callables delimiters table own text tree (item ∷ items) n len is only each =
    one_missing callables delimiters table own text tree item.now (texts items) only each
