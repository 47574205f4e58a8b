-- An outcome beside the one of a greater depth, and what keeps the relation between the two.
use Rattle.std.proofs.Common.{◌≡◌, ℕ, ◌+◌, List, [], ◌∷◌, ◌++◌, length, Bool, true, false, refl, sym, ap, ◌∙◌, append_assoc, append-nil, subst}
use Rattle.upon_types.specs.Path.{Ident}
use Rattle.upon_types.specs.Val.{Val}
use Rattle.upon_lookup.specs.Environment.{Binding, Environment, bind_all}
use Rattle.upon_lookup.specs.Finding.{Finding, found, at_fault}
use Rattle.upon_lookup.specs.Source.{SourceAnswer, says, refuses}
use Rattle.upon_meaning_spec.specs.Alone.{on_template}
use Rattle.upon_meaning_spec.specs.Engine.{Template}
use Rattle.upon_meaning_spec.specs.Evaluation.{Operand}
use Rattle.upon_meaning_spec.specs.GreaterDepth.{GoesOn}
use Rattle.upon_meaning_spec.specs.Meaning.{RunningTemplate, Body, each, each_or, on_value}
use Rattle.upon_meaning_spec.specs.Outcome.{End, good, fails, too_deep, Outcome, States, with_text_before, go_on, then_do, too_deep_outcome}

abbrev pub IsBeginning : List ℕ → List ℕ → Type 0
IsBeginning text whole = (rest : List ℕ) × (whole ≡ text ++ rest)

-- by the end of the lesser depth's outcome: the same, or a beginning of the text
abbrev pub DeeperBy : {Q : Type 0} → End → List ℕ → Q → Outcome Q → Type 0
DeeperBy good text q o = record { text = text; end = good; next = q } ≡ o
DeeperBy (fails f) text q o = record { text = text; end = fails f; next = q } ≡ o
DeeperBy too_deep text q o = IsBeginning text o.text

abbrev pub Deeper : {Q : Type 0} → Outcome Q → Outcome Q → Type 0
Deeper lesser greater = DeeperBy lesser.end lesser.text lesser.next greater

module _ {Q : Type 0} where
  by_same : (end : End) (text : List ℕ) (q : Q) → DeeperBy end text q (record { text = text; end = end; next = q })
  by_same good text q = refl
  by_same (fails f) text q = refl
  by_same too_deep text q = ([], sym (append-nil text))

  pub deeper_same : (o : Outcome Q) → Deeper o o
  deeper_same o = by_same o.end o.text o.next

  goes_on_by : (end : End) (text : List ℕ) (q : Q) (o : Outcome Q) → DeeperBy end text q o → GoesOn (record { text = text; end = end; next = q }) o
  goes_on_by good text q o h = record { same = λ n. sym h; begins = λ e. cc }
  goes_on_by (fails f) text q o h = record { same = λ n. sym h; begins = λ e. cc }
  goes_on_by too_deep text q o h = record { same = λ n. absurd (n refl); begins = λ e. h }

  pub goes_on_of_deeper : (lesser greater : Outcome Q) → Deeper lesser greater → GoesOn lesser greater
  goes_on_of_deeper lesser greater h = goes_on_by lesser.end lesser.text lesser.next greater h

  pub stopped_deeper : (q : Q) (o : Outcome Q) → Deeper (too_deep_outcome q) o
  stopped_deeper q o = (o.text, refl)

  by_after : (before : List ℕ) (end : End) (text : List ℕ) (q : Q) (o : Outcome Q) → DeeperBy end text q o → DeeperBy end (before ++ text) q (with_text_before before o)
  by_after before good text q o h = ap (with_text_before before) h
  by_after before (fails f) text q o h = ap (with_text_before before) h
  by_after before too_deep text q o h = (h.0, ap (λ l. before ++ l) h.1 ∙ sym (append_assoc before text h.0))

  begins_go_on : (text : List ℕ) (end : End) (q : Q) (go : Q → Outcome Q) → IsBeginning text (go_on text end q go).text
  begins_go_on text good q go = ((go q).text, refl)
  begins_go_on text (fails f) q go = ([], sym (append-nil text))
  begins_go_on text too_deep q go = ([], sym (append-nil text))

  begins_then : (text : List ℕ) (o : Outcome Q) (go : Q → Outcome Q) → IsBeginning text o.text → IsBeginning text (then_do o go).text
  begins_then text o go h = let more = begins_go_on o.text o.end o.next go in (h.0 ++ more.0, more.1 ∙ ap (λ l. l ++ more.0) h.1 ∙ append_assoc text h.0 more.0)

  by_then : (end : End) (text : List ℕ) (q : Q) (o : Outcome Q) (f g : Q → Outcome Q) → DeeperBy end text q o → ((q : Q) → Deeper (f q) (g q)) → Deeper (go_on text end q f) (then_do o g)
  by_then good text q o f g h k = let P : Outcome Q → Type 0 = λ o. Deeper (with_text_before text (f q)) (then_do o g) in subst P h (by_after text (f q).end (f q).text (f q).next (g q) (k q))
  by_then (fails x) text q o f g h k = ap (λ o. then_do o g) h
  by_then too_deep text q o f g h k = begins_then text o g h

  pub deeper_then : (a b : Outcome Q) (f g : Q → Outcome Q) → Deeper a b → ((q : Q) → Deeper (f q) (g q)) → Deeper (then_do a f) (then_do b g)
  deeper_then a b f g h k = by_then a.end a.text a.next b f g h k

  deeper_each : (f g : Body Q) → ((env : Environment) (q : Q) → Deeper (f env q) (g env q)) → (turns : List (List Binding)) (env : Environment) (q : Q) → Deeper (each f turns env q) (each g turns env q)
  deeper_each f g h [] env q = refl
  deeper_each f g h (bs ∷ turns) env q = deeper_then (f (bind_all bs env) q) (g (bind_all bs env) q) _ _ (h (bind_all bs env) q) (deeper_each f g h turns env)

  pub deeper_each_or : (f g f' g' : Body Q) → ((env : Environment) (q : Q) → Deeper (f env q) (g env q)) → ((env : Environment) (q : Q) → Deeper (f' env q) (g' env q)) → (from : RunningTemplate) (x : Finding (List (List Binding))) (env : Environment) (q : Q) → Deeper (each_or f f' from x env q) (each_or g g' from x env q)
  deeper_each_or f g f' g' h k from (found []) env q = k env q
  deeper_each_or f g f' g' h k from (found (bs ∷ turns)) env q = deeper_each f g h (bs ∷ turns) env q
  deeper_each_or f g f' g' h k from (at_fault x) env q = refl

  pub deeper_template : (from : RunningTemplate) (word : Ident) (x : SourceAnswer Template) (q : Q) (f g : Template → Q → Outcome Q) → ((t : Template) (q : Q) → Deeper (f t q) (g t q)) → Deeper (on_template from word x q f) (on_template from word x q g)
  deeper_template from word (says t) q f g h = h t q
  deeper_template from word (refuses x) q f g h = refl

module _ {V T : Type 0} where
  pub deeper_value : (from : RunningTemplate) (x : Finding Operand) (s : States V T) (f g : Val → States V T → Outcome (States V T)) → ((v : Val) (s : States V T) → Deeper (f v s) (g v s)) → Deeper (on_value from x s f) (on_value from x s g)
  deeper_value from (found o) s f g h = h o.value s
  deeper_value from (at_fault x) s f g h = refl
