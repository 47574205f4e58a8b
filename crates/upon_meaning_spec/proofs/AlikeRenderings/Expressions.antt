-- Expressions that are alike but for spans come to the same value, or end with the same fault but for its span.
use Rattle.std.proofs.Common.{◌≡◌, ℕ, zero, suc, List, [], ◌∷◌, length, Option, Some, None, refl, ap, ap₂, subst}
use Rattle.std.specs.Prelude.{slice_get}
use Rattle.upon_types.specs.declared.types.Span.{Span}
use Rattle.upon_types.specs.Answers.{Misfit, Answer, gives, wrong_number, wrong_argument, declines, Callable, formatter, function}
use Rattle.upon_types.specs.Expression.{Expression, base, filtered, Base, var, literal, list, mapping, paren, call, Bases, no_bases, base_then, Items, no_items, item_then, Arguments, no_arguments, arguments}
use Rattle.upon_types.specs.Path.{Ident, path_span}
use Rattle.upon_types.specs.Val.{Val, list_val, map_val, Entries, no_entries}
use Rattle.upon_types.specs.View.{vals_of}
use Rattle.upon_lookup.specs.Environment.{Environment}
use Rattle.upon_lookup.specs.Finding.{Finding, found, at_fault, Reply, reply, on_found, with_found}
use Rattle.upon_lookup.specs.Lookup.{lookup}
use Rattle.upon_meaning_spec.specs.Alike.{WordsAlike, ExpressionsAlike, BaseAlike, BasesAlike, ItemsAlike, ArgumentsAlike, without_span}
use Rattle.upon_meaning_spec.specs.CallFaults.{function_expects, argument_misfits}
use Rattle.upon_meaning_spec.specs.Engine.{Calls}
use Rattle.upon_meaning_spec.specs.Entries.{with_entry}
use Rattle.upon_meaning_spec.specs.Evaluation.{Operand, values_of, misfit_at, answer_value, call_value, with_span, prepend, append_operand, as_list, as_map, application, evaluate, evaluate_base, evaluate_bases, evaluate_items, evaluate_arguments}
use Rattle.upon_meaning_spec.proofs.AlikeRenderings.Lookups.{FoundAlike, One, ReplyAlike, lookup_alike}

abbrev pub SameValue : Operand → Operand → Type 0
SameValue a b = a.value ≡ b.value

abbrev pub SameValues : List Operand → List Operand → Type 0
SameValues [] [] = Unit {0}
SameValues (a ∷ given) (b ∷ given') = SameValue a b × SameValues given given'
SameValues _ _ = ⊥

values_same : (given given' : List Operand) → SameValues given given' → values_of given ≡ values_of given'
values_same [] [] h = refl
values_same (a ∷ given) (b ∷ given') h = ap₂ (λ (v : Val) vs. v ∷ vs) h.0 (values_same given given' h.1)
values_same [] (b ∷ given') h = absurd h
values_same (a ∷ given) [] h = absurd h

pub length_same : (given given' : List Operand) → SameValues given given' → length given ≡ length given'
length_same [] [] h = refl
length_same (a ∷ given) (b ∷ given') h = ap suc (length_same given given' h.1)
length_same [] (b ∷ given') h = absurd h
length_same (a ∷ given) [] h = absurd h

-- an argument that does not fit
abbrev Beside : Option Operand → Option Operand → Type 0
Beside None None = Unit {0}
Beside (Some a) (Some b) = SameValue a b
Beside _ _ = ⊥

given_beside : (given given' : List Operand) (i : ℕ) → SameValues given given' → Beside (slice_get given i) (slice_get given' i)
given_beside [] [] i h = tt
given_beside (a ∷ given) (b ∷ given') zero h = h.0
given_beside (a ∷ given) (b ∷ given') (suc i) h = given_beside given given' i h.1
given_beside [] (b ∷ given') i h = absurd h
given_beside (a ∷ given) [] i h = absurd h

misfit_alike : (name name' : Ident) (misfit : Misfit) (x y : Option Operand) (whole whole' : Span) → WordsAlike name name' → Beside x y → without_span (misfit_at name misfit x whole) ≡ without_span (misfit_at name' misfit y whole')
misfit_alike name name' misfit (Some a) (Some b) whole whole' n h = λ i. without_span (argument_misfits (n i) misfit (h i) whole)
misfit_alike name name' misfit None None whole whole' n h = refl
misfit_alike name name' misfit (Some a) None whole whole' n h = absurd h
misfit_alike name name' misfit None (Some b) whole whole' n h = absurd h

pub answered_alike : (name name' : Ident) (whole whole' : Span) (given given' : List Operand) (a : Answer) → WordsAlike name name' → SameValues given given' → FoundAlike One (answer_value name whole given a) (answer_value name' whole' given' a)
answered_alike name name' whole whole' given given' (gives v) n h = refl
answered_alike name name' whole whole' given given' (wrong_number k) n h = λ i. without_span (function_expects k (length_same given given' h i) whole)
answered_alike name name' whole whole' given given' (wrong_argument k misfit) n h = misfit_alike name name' misfit (slice_get given k) (slice_get given' k) whole whole' n (given_beside given given' k h)
answered_alike name name' whole whole' given given' (declines text) n h = refl

-- the function's answer is one
pub asked_alike : (name name' : Ident) (whole whole' : Span) (given given' : List Operand) (f : List Val → Answer) → WordsAlike name name' → SameValues given given' → FoundAlike One (answer_value name whole given (f (values_of given))) (answer_value name' whole' given' (f (values_of given')))
asked_alike name name' whole whole' given given' f n h =
    subst (λ vs. FoundAlike One (answer_value name whole given (f (values_of given))) (answer_value name' whole' given' (f vs))) (values_same given given' h) (answered_alike name name' whole whole' given given' (f (values_of given)) n h)

called_by : (name name' : Ident) (whole whole' : Span) (given given' : List Operand) (callable : Option Callable) → WordsAlike name name' → SameValues given given' → FoundAlike One (call_value name whole given callable) (call_value name' whole' given' callable)
called_by name name' whole whole' given given' None n h = refl
called_by name name' whole whole' given given' (Some (formatter f)) n h = refl
called_by name name' whole whole' given given' (Some (function f)) n h = asked_alike name name' whole whole' given given' f n h

module _ {V : Type 0} where
  -- one and then another
  pub then_alike : {A B : Type 0} (R : A → A → Type 0) (S : B → B → Type 0) (r r' : Reply V (Finding A)) (go go' : A → V → Reply V (Finding B)) → ReplyAlike R r r' → ((a a' : A) (q : V) → R a a' → ReplyAlike S (go a q) (go' a' q)) → ReplyAlike S (with_found r go) (with_found r' go')
  then_alike R S r r' go go' h k = by r.answer r'.answer r.next r'.next h.answer h.next
    where
      by : (x y : Finding _) (q q' : V) → FoundAlike R x y → q ≡ q' → ReplyAlike S (on_found x q go) (on_found y q' go')
      by (found a) (found a') q q' same e = subst (λ p. ReplyAlike S (go a q) (go' a' p)) e (k a a' q same)
      by (at_fault f) (at_fault g) q q' same e = record { answer = same; next = e }
      by (found a) (at_fault g) q q' same e = absurd same
      by (at_fault f) (found a') q q' same e = absurd same

  placed_alike : (r r' : Reply V (Finding Val)) (at at' : Span) → ReplyAlike One r r' → ReplyAlike SameValue (with_span r at) (with_span r' at')
  placed_alike r r' at at' h = then_alike One SameValue r r' _ _ h (λ v v' q same. record { answer = same; next = refl })

  ahead_alike : (o o' : Operand) (r r' : Reply V (Finding (List Operand))) → SameValue o o' → ReplyAlike SameValues r r' → ReplyAlike SameValues (prepend o r) (prepend o' r')
  ahead_alike o o' r r' one h = then_alike SameValues SameValues r r' _ _ h (λ os os' q same. record { answer = (one, same); next = refl })

  pub others_alike : (r r' : Reply V (Finding Operand)) (others others' : V → Reply V (Finding (List Operand))) → ReplyAlike SameValue r r' → ((q : V) → ReplyAlike SameValues (others q) (others' q)) → ReplyAlike SameValues (append_operand r others) (append_operand r' others')
  others_alike r r' others others' h k = then_alike SameValue SameValues r r' _ _ h (λ o o' q same. ahead_alike o o' (others q) (others' q) same (k q))

  as_list_alike : (r r' : Reply V (Finding (List Operand))) (at at' : Span) → ReplyAlike SameValues r r' → ReplyAlike SameValue (as_list r at) (as_list r' at')
  as_list_alike r r' at at' h = then_alike SameValues SameValue r r' _ _ h (λ os os' q same. record { answer = ap (λ vs. list_val (vals_of vs)) (values_same os os' same); next = refl })

  as_map_alike : (r r' : Reply V (Finding Entries)) (at at' : Span) → ReplyAlike One r r' → ReplyAlike SameValue (as_map r at) (as_map r' at')
  as_map_alike r r' at at' h = then_alike One SameValue r r' _ _ h (λ es es' q same. record { answer = ap map_val same; next = refl })

module _ {V : Type 0} (calls : Calls V) where
  called_alike : (name name' : Ident) (whole whole' : Span) (given given' : List Operand) → WordsAlike name name' → SameValues given given' → FoundAlike One (call_value name whole given (calls.callables name.text)) (call_value name' whole' given' (calls.callables name'.text))
  called_alike name name' whole whole' given given' n h =
      subst (λ t. FoundAlike One (call_value name whole given (calls.callables name.text)) (call_value name' whole' given' (calls.callables t))) n (called_by name name' whole whole' given given' (calls.callables name.text) n h)

  applied_alike : (name name' : Ident) (whole whole' : Span) (r r' : Reply V (Finding (List Operand))) → WordsAlike name name' → ReplyAlike SameValues r r' → ReplyAlike SameValue (application calls name whole r) (application calls name' whole' r')
  applied_alike name name' whole whole' r r' n h =
      then_alike SameValues SameValue r r' _ _ h
      (λ os os' q same. placed_alike (reply (call_value name whole os (calls.callables name.text)) q) (reply (call_value name' whole' os' (calls.callables name'.text)) q) whole whole' (record { answer = called_alike name name' whole whole' os os' n same; next = refl }))

  module _ (env : Environment) where
    mutual
      pub value_alike : (e e' : Expression) → ExpressionsAlike e e' → (q : V) → ReplyAlike SameValue (evaluate calls e env q) (evaluate calls e' env q)
      value_alike (base a) (base b) h q = base_alike a b h q
      value_alike (filtered receiver name args span) (filtered receiver' name' args' place) h q =
          applied_alike name name' span place _ _ h.1
          (others_alike (evaluate calls receiver env q) (evaluate calls receiver' env q) (evaluate_arguments calls args env) (evaluate_arguments calls args' env) (value_alike receiver receiver' h.0 q) (λ q'. arguments_alike args args' h.2 q'))
      value_alike (base a) (filtered receiver' name' args' place) h q = absurd h
      value_alike (filtered receiver name args span) (base b) h q = absurd h

      pub base_alike : (a b : Base) → BaseAlike a b → (q : V) → ReplyAlike SameValue (evaluate_base calls a env q) (evaluate_base calls b env q)
      base_alike (var first rest) (var first' rest') h q = placed_alike (lookup calls.ask env first rest q) (lookup calls.ask env first' rest' q) (path_span first rest) (path_span first' rest') (lookup_alike calls.ask first first' rest rest' h env q)
      base_alike (literal v span) (literal w place) h q = record { answer = h; next = refl }
      base_alike (list bases span) (list bases' place) h q = as_list_alike (evaluate_bases calls bases env q) (evaluate_bases calls bases' env q) span place (bases_alike bases bases' h q)
      base_alike (mapping items span) (mapping items' place) h q = as_map_alike (evaluate_items calls items no_entries env q) (evaluate_items calls items' no_entries env q) span place (items_alike items items' no_entries h q)
      base_alike (paren e span) (paren e' place) h q = value_alike e e' h q
      base_alike (call name args span) (call name' args' place) h q = applied_alike name name' span place _ _ h.0 (arguments_alike args args' h.1 q)
      base_alike _ _ h q = absurd h

      bases_alike : (as' bs : Bases) → BasesAlike as' bs → (q : V) → ReplyAlike SameValues (evaluate_bases calls as' env q) (evaluate_bases calls bs env q)
      bases_alike no_bases no_bases h q = record { answer = tt; next = refl }
      bases_alike (base_then a as') (base_then b bs) h q = others_alike (evaluate_base calls a env q) (evaluate_base calls b env q) (evaluate_bases calls as' env) (evaluate_bases calls bs env) (base_alike a b h.0 q) (λ q'. bases_alike as' bs h.1 q')
      bases_alike _ _ h q = absurd h

      items_alike : (items items' : Items) (es : Entries) → ItemsAlike items items' → (q : V) → ReplyAlike One (evaluate_items calls items es env q) (evaluate_items calls items' es env q)
      items_alike no_items no_items es h q = record { answer = refl; next = refl }
      items_alike (item_then key a items) (item_then key' b items') es h q =
          then_alike SameValue One (evaluate_base calls a env q) (evaluate_base calls b env q) _ _ (base_alike a b h.1 q)
          (λ o o' q' same. subst (λ more. ReplyAlike One (evaluate_items calls items (with_entry key.text o.value es) env q') (evaluate_items calls items' more env q')) (λ i. with_entry (h.0 i) (same i) es) (items_alike items items' (with_entry key.text o.value es) h.2 q'))
      items_alike _ _ es h q = absurd h

      pub arguments_alike : (args args' : Arguments) → ArgumentsAlike args args' → (q : V) → ReplyAlike SameValues (evaluate_arguments calls args env q) (evaluate_arguments calls args' env q)
      arguments_alike no_arguments no_arguments h q = record { answer = tt; next = refl }
      arguments_alike (arguments as' span) (arguments bs place) h q = bases_alike as' bs h q
      arguments_alike _ _ h q = absurd h
