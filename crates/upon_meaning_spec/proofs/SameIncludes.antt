-- What an include means stays the same where the names that are read are found alike, and the names of includes are answered alike.
use Rattle.std.proofs.Common.{◌≡◌, ℕ, zero, suc, List, Some, refl, ◌∙◌}
use Rattle.upon_types.specs.Path.{Ident}
use Rattle.upon_lookup.specs.Environment.{Environment}
use Rattle.upon_lookup.specs.Source.{SourceAnswer, says, refuses}
use Rattle.upon_meaning_spec.specs.Alone.{running, on_template, with_template, included}
use Rattle.upon_meaning_spec.specs.Engine.{Template, Calls, Resolver}
use Rattle.upon_meaning_spec.specs.Includes.{Includes}
use Rattle.upon_types.specs.Tree.{Statements}
use Rattle.upon_meaning_spec.specs.Meaning.{RunningTemplate, statements_mean}
use Rattle.upon_meaning_spec.specs.Names.{StatementsRead}
use Rattle.upon_meaning_spec.specs.Outcome.{Outcome, States, states, too_deep_outcome}
use Rattle.upon_meaning_spec.proofs.SameLookups.{Any, FoundAlike}
use Rattle.upon_meaning_spec.proofs.SameMeaning.{Within, same_statements}

-- what is answered for one of the included names reads no other names, and includes no others
abbrev pub Closed : {T : Type 0} → Resolver T → (List ℕ → Type 0) → (List ℕ → Type 0) → Type 0
Closed {T} resolve names included_names =
    (q : T) (name : List ℕ) (t : Template) → included_names name → (resolve q name).answer ≡ says t
    → Within (λ n. StatementsRead n t.tree) names × Within (λ n. Includes n t.tree) included_names

module _ {V T : Type 0} (calls : Calls V) (names included_names : List ℕ → Type 0) (resolve resolve' : Resolver T) (closed : Closed resolve names included_names) (agree : (q : T) (name : List ℕ) → included_names name → resolve q name ≡ resolve' q name) where
  on_answer : (from : RunningTemplate) (word : Ident) (answer : SourceAnswer Template) (go go' : Template → States V T → Outcome (States V T)) (s : States V T) → ((t : Template) → answer ≡ says t → go t s ≡ go' t s) → on_template from word answer s go ≡ on_template from word answer s go'
  on_answer from word (says t) go go' s same = same t refl
  on_answer from word (refuses text) go go' s same = refl

  pub same_included : (left : ℕ) (from : RunningTemplate) (word : Ident) → included_names word.text → (env env' : Environment) → FoundAlike calls.ask names env env' → (s : States V T) → included calls resolve left from word env s ≡ included calls resolve' left from word env' s
  same_included zero from word is env env' alike s = λ i. with_template from word s.values (agree s.templates word.text is i) (λ t s'. too_deep_outcome s')
  same_included (suc left) from word is env env' alike s =
      let go : Template → States V T → Outcome (States V T) = λ t s'. statements_mean calls (included calls resolve left) (running t (Some word.text)) t.tree env s' in
      let go' : Template → States V T → Outcome (States V T) = λ t s'. statements_mean calls (included calls resolve' left) (running t (Some word.text)) t.tree env' s' in
      let r = resolve s.templates word.text in
      on_answer from word r.answer go go' (states s.values r.next)
      (λ t e.
      let inside = closed s.templates word.text t is e in
      same_statements calls (running t (Some word.text)) names included_names (included calls resolve left) (included calls resolve' left) (same_included left) t.tree inside.0 inside.1 env env' alike (states s.values r.next))
      ∙ (λ i. with_template from word s.values (agree s.templates word.text is i) go')

-- where all paths are found alike, a body and what it includes mean the same
pub alike_body : {V T : Type 0} (calls : Calls V) (resolve : Resolver T) (left : ℕ) (runs : RunningTemplate) (body : Statements) (env env' : Environment) → FoundAlike calls.ask Any env env' → (s : States V T) → statements_mean calls (included calls resolve left) runs body env s ≡ statements_mean calls (included calls resolve left) runs body env' s
alike_body calls resolve left runs body env env' alike s =
    same_statements calls runs Any Any (included calls resolve left) (included calls resolve left)
    (same_included calls Any Any resolve resolve (λ q name t h e. (λ n r. tt, λ n i. tt)) (λ q name h. refl) left)
    body (λ n r. tt) (λ n i. tt) env env' alike s
