-- Of which pieces the text of a rendering is made, in their order: by recursion on the tree, as its meaning is.
use Rattle.std.specs.Prelude.{ℕ, zero, suc, List, [], ◌∷◌, ◌++◌, Option, Some, None, Bool, true, false}
use Rattle.upon_types.specs.declared.types.Span.{Span}
use Rattle.upon_types.specs.Answers.{Formatter, Callable, formatter, function}
use Rattle.upon_types.specs.Expression.{Expression, base, filtered, Base, var, literal, list, mapping, paren, call, expression_span}
use Rattle.upon_types.specs.Path.{Ident}
use Rattle.upon_types.specs.Span.{slice}
use Rattle.upon_types.specs.BlockKinds.{opened_kind, may_have_else}
use Rattle.upon_types.specs.Tree.{Statement, raw, inline_expr, include, block, Statements, no_statements, statement_then, Else, no_else, otherwise}
use Rattle.upon_types.specs.Val.{Val}
use Rattle.upon_lookup.specs.Environment.{Binding, Environment, Root, root_environment, alone_over, bind_all}
use Rattle.upon_lookup.specs.Finding.{Finding, found, at_fault, Reply}
use Rattle.upon_lookup.specs.Source.{SourceAnswer, says, refuses}
use Rattle.upon_meaning_spec.specs.Alone.{running, included, includes_left}
use Rattle.upon_meaning_spec.specs.Engine.{Template, Calls, Resolver, Rendering}
use Rattle.upon_meaning_spec.specs.Evaluation.{Operand, values_of, answer_value, append_operand, evaluate, evaluate_base, evaluate_arguments}
use Rattle.upon_meaning_spec.specs.Meaning.{RunningTemplate, Inclusion, Body, turns, statement_means, statements_mean}
use Rattle.upon_meaning_spec.specs.Outcome.{End, good, fails, too_deep, Outcome, States, states}

-- a piece of a text: what the template that runs has at the span of a raw part, or what a formatter wrote for a value
pub data TextPiece : Type 0 where
  raw_part : RunningTemplate → Span → TextPiece
  written : Formatter → Val → TextPiece

-- its text, also if the formatter refused after it
abbrev pub piece_text : TextPiece → List ℕ
piece_text (raw_part from span) = slice from.source span
piece_text (written format v) = (format v).text

-- the texts of pieces, one after another
abbrev pub joined : List TextPiece → List ℕ
joined [] = []
joined (p ∷ ps) = piece_text p ++ joined ps

-- the pieces for what was found, or none
abbrev pub if_found : {A : Type 0} → Finding A → (A → List TextPiece) → List TextPiece
if_found (found a) go = go a
if_found (at_fault f) go = []

-- what a formatter writes, which takes one value
abbrev pub formatter_pieces : Formatter → List Operand → List TextPiece
formatter_pieces f (o ∷ []) = written f o.value ∷ []
formatter_pieces f given = []

-- what is written for values by what a name calls: a function's value goes through the default formatter
abbrev pub callable_pieces : Formatter → Ident → List Operand → Option Callable → List TextPiece
callable_pieces default name given None = []
callable_pieces default name given (Some (formatter f)) = formatter_pieces f given
callable_pieces default name given (Some (function f)) =
    if_found (answer_value name name.span given (f (values_of given))) (λ v. written default v ∷ [])

module _ {V : Type 0} (calls : Calls V) where
  -- what a filter or call writes
  abbrev pub call_pieces : Ident → Finding (List Operand) → List TextPiece
  call_pieces name x =
      if_found x (λ given. callable_pieces calls.default_formatter name given (calls.callables name.text))

  -- what the default formatter writes for a value
  abbrev pub value_pieces : Finding Operand → List TextPiece
  value_pieces x = if_found x (λ o. written calls.default_formatter o.value ∷ [])

  -- what an expression in a tag of its own writes
  abbrev mutual
    -- what an expression writes; parentheses around it make no difference
    pub emit_pieces : Expression → Environment → V → List TextPiece
    emit_pieces (base b) env q = emit_base_pieces b env q
    emit_pieces (filtered receiver name args span) env q =
        call_pieces name (append_operand (evaluate calls receiver env q) (evaluate_arguments calls args env)).answer

    -- what an expression without a filter writes; parentheses around it make no difference
    pub emit_base_pieces : Base → Environment → V → List TextPiece
    emit_base_pieces (paren e span) env q = emit_pieces e env q
    emit_base_pieces (call name args span) env q = call_pieces name (evaluate_arguments calls args env q).answer
    emit_base_pieces (var first rest) env q = value_pieces (evaluate_base calls (var first rest) env q).answer
    emit_base_pieces (literal v span) env q = value_pieces (evaluate_base calls (literal v span) env q).answer
    emit_base_pieces (list bases span) env q = value_pieces (evaluate_base calls (list bases span) env q).answer
    emit_base_pieces (mapping items span) env q = value_pieces (evaluate_base calls (mapping items span) env q).answer

-- pieces whose text ends so, and then others if it ends well
abbrev pub pieces_on : {Q : Type 0} → List TextPiece → End → Q → (Q → List TextPiece) → List TextPiece
pieces_on ps good q go = ps ++ go q
pieces_on ps (fails f) q go = ps
pieces_on ps too_deep q go = ps

-- the pieces of an outcome, and then others, up to the first fault
abbrev pub then_pieces : {Q : Type 0} → List TextPiece → Outcome Q → (Q → List TextPiece) → List TextPiece
then_pieces ps first go = pieces_on ps first.end first.next go

-- the pieces of a body in an environment
abbrev pub BodyPieces : Type 0 → Type 0
BodyPieces Q = Environment → Q → List TextPiece

-- the pieces of the body in each turn, up to the first fault
abbrev pub each_pieces : {Q : Type 0} → Body Q → BodyPieces Q → List (List Binding) → BodyPieces Q
each_pieces body pieces [] env q = []
each_pieces body pieces (bs ∷ more) env q =
    then_pieces (pieces (bind_all bs env) q) (body (bind_all bs env) q) (λ q'. each_pieces body pieces more env q')

-- the pieces of the body in each turn, up to the first fault; those of the other branch if there is no turn
abbrev pub each_or_pieces : {Q : Type 0} → Body Q → BodyPieces Q → BodyPieces Q → Finding (List (List Binding))
    → BodyPieces Q
each_or_pieces body pieces other (found []) env q = other env q
each_or_pieces body pieces other (found (bs ∷ more)) env q = each_pieces body pieces (bs ∷ more) env q
each_or_pieces body pieces other (at_fault f) env q = []

-- the pieces for the value that an expression gives, with the next state of the value source
abbrev pub value_then_pieces : {V T : Type 0} → T → Reply V (Finding Operand) → (Val → States V T → List TextPiece)
    → List TextPiece
value_then_pieces templates r go = if_found r.answer (λ o. go o.value (states r.next templates))

-- the pieces of an include of a name in an environment, where this template runs
abbrev pub InclusionPieces : Type 0 → Type 0 → Type 0
InclusionPieces V T = RunningTemplate → Ident → Environment → States V T → List TextPiece

module _ {V T : Type 0} (calls : Calls V) (include_means : Inclusion V T) (include_pieces : InclusionPieces V T)
    (running : RunningTemplate) where
  -- of which pieces the text of a part of the tree is made, in the template that runs
  abbrev mutual
    -- the pieces of a statement
    pub statement_pieces : Statement → BodyPieces (States V T)
    statement_pieces (raw span) env s = raw_part running span ∷ []
    statement_pieces (inline_expr e span) env s = emit_pieces calls e env s.values
    statement_pieces (include word None) env s = include_pieces running word env s
    statement_pieces (include word (Some e)) env s =
        value_then_pieces s.templates (evaluate calls e env s.values)
        (λ v s'. include_pieces running word (alone_over v) s')
    statement_pieces (block opening e body other) env s =
        value_then_pieces s.templates (evaluate calls e env s.values)
        (λ v s'. each_or_pieces (statements_mean calls include_means running body) (statements_pieces body)
        (else_pieces other (may_have_else (opened_kind opening))) (turns opening (expression_span e) v) env s')

    -- the pieces of statements, up to the first fault
    pub statements_pieces : Statements → BodyPieces (States V T)
    statements_pieces no_statements env s = []
    statements_pieces (statement_then t ts) env s =
        then_pieces (statement_pieces t env s) (statement_means calls include_means running t env s)
        (λ s'. statements_pieces ts env s')

    -- the pieces of the other branch of a block
    pub else_pieces : Else → Bool → BodyPieces (States V T)
    else_pieces no_else may env s = []
    else_pieces (otherwise body) false env s = []
    else_pieces (otherwise body) true env s = statements_pieces body env s

-- the pieces of the template that a source answers, or none
abbrev pub template_pieces : {Q : Type 0} → SourceAnswer Template → Q → (Template → Q → List TextPiece) → List TextPiece
template_pieces (says t) q go = go t q
template_pieces (refuses text) q go = []

module _ {V T : Type 0} (calls : Calls V) (resolve : Resolver T) where
  -- the pieces of an include, where so many includes may be one inside another below it
  abbrev pub included_pieces : ℕ → InclusionPieces V T
  included_pieces zero from word env s = []
  included_pieces (suc left) from word env s =
      let r = resolve s.templates word.text in
      template_pieces r.answer (states s.values r.next)
      (λ t s'. statements_pieces calls (included calls resolve left) (included_pieces left) (running t (Some word.text))
      t.tree env s')

  -- the pieces of a template by itself over a root, where so many includes may be one inside another
  abbrev pub pieces_within : ℕ → Template → Option (List ℕ) → Root → States V T → List TextPiece
  pieces_within left t name root s = statements_pieces calls (included calls resolve left) (included_pieces left)
      (running t name) t.tree (root_environment root) s

-- the pieces of a rendering, in their order
abbrev pub pieces_of : {V T : Type 0} → Rendering V T → Template → Option (List ℕ) → Root → States V T → List TextPiece
pieces_of rendering t name root s = pieces_within rendering.calls rendering.resolve
    (includes_left rendering.limit) t name root s
