-- Steps at an instruction, by what was taken from the operands.
use Rattle.std.proofs.Common.{◌≡◌, ℕ, List, [], ◌∷◌, Option, Some, None, Result, Ok, Err, IfOk, Bool, true, false, cond, leb, ◌||◌, refl, sym, ap, ◌∙◌, subst}
use Rattle.upon_types.specs.declared.types.Span.{Span}
use Rattle.upon_types.specs.Path.{Ident, LoopVars, item, key_value}
use Rattle.upon_machine_spec.specs.Instr.{Instr, jump, jump_if_true, jump_if_false, emit, emit_with, loop_start, with_start, include_with, apply}
use Rattle.upon_machine_spec.specs.Operands.{taken}
use Rattle.upon_shape_spec.specs.Accepted.{item_shape, iteration_names, loop_names, value_shape}
use Rattle.upon_shape_spec.specs.Declared.{Declared}
use Rattle.upon_shape_spec.specs.Doubts.{Doubt, doubt, given_doubts, has_items, if_none, if_some, is_included, or_names, or_never, shown_call_doubts, text_doubts, unless}
use Rattle.upon_shape_spec.specs.ExpressionShapes.{call_shape}
use Rattle.upon_shape_spec.specs.Paths.{takes_plain, takes_lists, takes_maps}
use Rattle.upon_shape_spec.specs.Scope.{NameShape, Scope, name_shape, scope_over, value_of}
use Rattle.upon_shape_spec.specs.Shape.{Shape, any_shape, one_of, never}
use Rattle.upon_shape_spec.specs.Known.{Known, KnownOperand, known, known_operand, with_operand, with_operands, both_shapes}
use Rattle.upon_shape_spec.specs.ProgramDoubts.{binds_shapes, include_doubts, leaves_block, other_case, shapes_of, tests, with_known_taken}
use Rattle.upon_shape_check.specs.Loops.{looped, looped_names}
use Rattle.upon_shape_check.specs.Steps.{Steps}

-- the operand on top was taken
pub after_pop : (d : Declared) (inc : List ℕ → Scope → Bool) (at : ℕ) (old mid next : Known) (o : KnownOperand) (i : Instr) (ds : List Doubt) → old ≡ with_operand o mid
    → Steps d inc at (with_operand o mid) i ds next → Steps d inc at old i ds next
after_pop d inc at old mid next o i ds e s = subst (λ k. Steps d inc at k i ds next) (sym e) s

-- there was none
pub where_none : (d : Declared) (inc : List ℕ → Scope → Bool) (at : ℕ) (old new : Known) (i : Instr) → old.operands ≡ [] → new ≡ old
    → Steps d inc at (known [] old.scope old.opens) i [] (known [] old.scope old.opens) → Steps d inc at old i [] new
where_none d inc at old new i none same s =
    let is : known [] old.scope old.opens ≡ old = ap (λ os. known os old.scope old.opens) (sym none) in
    subst (λ n. Steps d inc at old i [] n) (sym same) (subst (λ k. Steps d inc at k i [] k) is s)

-- ---- tests
pub tested_so : (d : Declared) (inc : List ℕ → Scope → Bool) (at : ℕ) (so : Bool) (to : ℕ) (mid next : Known) (o : KnownOperand) → next ≡ tests so to o mid.operands mid
    → Steps d inc at (with_operand o mid) (cond so (jump_if_false to) (jump_if_true to)) [] next
tested_so d inc at true to mid next o e = (refl, e)
tested_so d inc at false to mid next o e = (refl, e)

pub tested_none : (d : Declared) (inc : List ℕ → Scope → Bool) (at : ℕ) (so : Bool) (to : ℕ) (k : Known) → Steps d inc at (known [] k.scope k.opens) (cond so (jump_if_false to) (jump_if_true to)) [] (known [] k.scope k.opens)
tested_none d inc at true to k = (refl, refl)
tested_none d inc at false to k = (refl, refl)

-- ---- loops
abbrev names_from : LoopVars → Option Shape → Option (List NameShape)
names_from names None = None
names_from names (Some s) = Some (looped_names names s)

either : (names : LoopVars) (b : Bool) (s : Shape) → cond b None (Some (looped_names names s)) ≡ names_from names (cond b None (Some s))
either names true s = refl
either names false s = refl

loop_names-looped : (names : LoopVars) (s : Shape) → loop_names names s ≡ names_from names (looped names s)
loop_names-looped (item name) any_shape = refl
loop_names-looped (key_value key value both) any_shape = refl
loop_names-looped (item name) (one_of p l m) = either (item name) (takes_plain p || takes_maps m) (item_shape l)
loop_names-looped (key_value key value both) (one_of p l m) = either (key_value key value both) (takes_plain p || takes_lists l) (value_shape m)

never_names : (names : LoopVars) → loop_names names never ≡ Some (looped_names names never)
never_names (item name) = refl
never_names (key_value key value both) = refl

-- a loop over what has items
pub loop_over : (d : Declared) (inc : List ℕ → Scope → Bool) (at : ℕ) (names : LoopVars) (span : Span) (mid next : Known) (o : KnownOperand) (s t : Shape) → s ≡ or_never o.shape → Some t ≡ looped names s
    → next ≡ binds_shapes (iteration_names (looped_names names t)) mid.operands mid → Steps d inc at (with_operand o mid) (loop_start names span) [] next
loop_over d inc at names span mid next o s t is found e =
    let names_are : loop_names names (or_never o.shape) ≡ Some (looped_names names t) = ap (loop_names names) (sym is) ∙ (loop_names-looped names s ∙ ap (names_from names) (sym found)) in (
      sym (ap (λ n. if_none n (doubt span (has_items (or_never o.shape)))) names_are),
      e ∙ sym (ap (λ n. binds_shapes (iteration_names (or_names n (loop_names names never))) mid.operands (with_operand o mid)) names_are),
    )

-- a loop over what may have none
pub loop_in_doubt : (d : Declared) (inc : List ℕ → Scope → Bool) (at : ℕ) (names : LoopVars) (span : Span) (mid next : Known) (o : KnownOperand) (s t : Shape) → s ≡ or_never o.shape → None ≡ looped names s → t ≡ never
    → next ≡ binds_shapes (iteration_names (looped_names names t)) mid.operands mid → Steps d inc at (with_operand o mid) (loop_start names span) (doubt span (has_items s)) next
loop_in_doubt d inc at names span mid next o s t is found t_is e =
    let names_are : loop_names names (or_never o.shape) ≡ None = ap (loop_names names) (sym is) ∙ (loop_names-looped names s ∙ ap (names_from names) (sym found)) in (
      ap (λ u. doubt span (has_items u)) is ∙ sym (ap (λ n. if_none n (doubt span (has_items (or_never o.shape)))) names_are),
      e
          ∙ (ap (λ u. binds_shapes (iteration_names (looped_names names u)) mid.operands mid) t_is
          ∙ (sym (ap (λ n. binds_shapes (iteration_names (or_names None n)) mid.operands mid) (never_names names))
          ∙ sym (ap (λ n. binds_shapes (iteration_names (or_names n (loop_names names never))) mid.operands mid) names_are))),
    )

-- ---- literals of lists and maps
pub put_so : (d : Declared) (inc : List ℕ → Scope → Bool) (at : ℕ) (put : Shape → Shape → Shape) (i : Instr) (old mid low next : Known) (o into : KnownOperand) (s : Option Shape) → old ≡ with_operand o mid → mid ≡ with_operand into low
    → s ≡ both_shapes put into.shape o.shape → next ≡ with_operand (record into { shape = s }) low
    → Steps d inc at (with_operand o (with_operand into low)) i [] (with_operand (record into { shape = both_shapes put into.shape o.shape }) low) → Steps d inc at old i [] next
put_so d inc at put i old mid low next o into s first second is e so =
    let before : old ≡ with_operand o (with_operand into low) = first ∙ ap (with_operand o) second in
    let after : next ≡ with_operand (record into { shape = both_shapes put into.shape o.shape }) low = e ∙ ap (λ t. with_operand (record into { shape = t }) low) is in
    subst (λ n. Steps d inc at old i [] n) (sym after) (subst (λ k. Steps d inc at k i [] (with_operand (record into { shape = both_shapes put into.shape o.shape }) low)) (sym before) so)

-- an operand alone stays where it is
pub put_alone : (d : Declared) (inc : List ℕ → Scope → Bool) (at : ℕ) (i : Instr) (old mid low next : Known) (o : KnownOperand) → old ≡ with_operand o mid → mid.operands ≡ [] → low ≡ mid → next ≡ with_operand o low
    → Steps d inc at (known (o ∷ []) mid.scope mid.opens) i [] (known (o ∷ []) mid.scope mid.opens) → Steps d inc at old i [] next
put_alone d inc at i old mid low next o first none same e so =
    let is : known (o ∷ []) mid.scope mid.opens ≡ old = ap (λ os. known (o ∷ os) mid.scope mid.opens) (sym none) ∙ sym first in
    let after : next ≡ old = e ∙ (ap (with_operand o) same ∙ sym first) in
    subst (λ n. Steps d inc at old i [] n) (sym after) (subst (λ k. Steps d inc at k i [] k) is so)

-- ---- calls
pub few_shown : (d : Declared) (inc : List ℕ → Scope → Bool) (at : ℕ) (name : Ident) (n : ℕ) (span : Span) (old new : Known) → taken n old.operands ≡ None → new ≡ old → Steps d inc at old (emit_with name n span) [] new
few_shown d inc at name n span old new few same = (
  sym (ap (λ t. with_known_taken [] t (λ os below. if_some (shapes_of os) (shown_call_doubts d old.scope name.span span (d.callables name.text)))) few),
  same ∙ sym (ap (λ t. with_known_taken old t (λ os below. with_operands below old)) few),
)

pub shown_of : (d : Declared) (inc : List ℕ → Scope → Bool) (at : ℕ) (name : Ident) (n : ℕ) (span : Span) (old new : Known) (os : List KnownOperand) (ds : List Doubt) → taken n old.operands ≡ Some (os, new.operands) → new ≡ with_operands new.operands old
    → ds ≡ if_some (shapes_of os) (shown_call_doubts d old.scope name.span span (d.callables name.text)) → Steps d inc at old (emit_with name n span) ds new
shown_of d inc at name n span old new os ds some rest is = (
  is ∙ sym (ap (λ t. with_known_taken [] t (λ os below. if_some (shapes_of os) (shown_call_doubts d old.scope name.span span (d.callables name.text)))) some),
  rest ∙ sym (ap (λ t. with_known_taken old t (λ os below. with_operands below old)) some),
)

pub few_applied : (d : Declared) (inc : List ℕ → Scope → Bool) (at : ℕ) (name : Ident) (n : ℕ) (span : Span) (old new : Known) → taken n old.operands ≡ None → new ≡ old → Steps d inc at old (apply name n span) [] new
few_applied d inc at name n span old new few same = (
  sym (ap (λ t. with_known_taken [] t (λ os below. if_some (shapes_of os) (given_doubts name.span (d.callables name.text)))) few),
  same ∙ sym (ap (λ t. with_known_taken old t (λ os below. with_operands (known_operand (call_shape (d.callables name.text) (shapes_of os)) span None ∷ below) old)) few),
)

pub applied_to : (d : Declared) (inc : List ℕ → Scope → Bool) (at : ℕ) (name : Ident) (n : ℕ) (span : Span) (old mid new : Known) (os : List KnownOperand) (ds : List Doubt) (s : Option Shape) → taken n old.operands ≡ Some (os, mid.operands) → mid ≡ with_operands mid.operands old
    → ds ≡ if_some (shapes_of os) (given_doubts name.span (d.callables name.text)) → s ≡ call_shape (d.callables name.text) (shapes_of os) → new ≡ with_operand (known_operand s span None) mid
    → Steps d inc at old (apply name n span) ds new
applied_to d inc at name n span old mid new os ds s some rest is shape_is e = (
  is ∙ sym (ap (λ t. with_known_taken [] t (λ os below. if_some (shapes_of os) (given_doubts name.span (d.callables name.text)))) some),
  e
      ∙ (ap (with_operand (known_operand s span None)) rest
      ∙ (ap (λ t. with_operands (known_operand t span None ∷ mid.operands) old) shape_is
      ∙ sym (ap (λ t. with_known_taken old t (λ os below. with_operands (known_operand (call_shape (d.callables name.text) (shapes_of os)) span None ∷ below) old)) some))),
)

-- ---- jumps
pub jumped_out : (d : Declared) (inc : List ℕ → Scope → Bool) (at n : ℕ) (old new : Known) → leb n at ≡ true → new ≡ leaves_block old old.opens → Steps d inc at old (jump n) [] new
jumped_out d inc at n old new h e = (refl, e ∙ sym (ap (λ b. cond b (leaves_block old old.opens) (other_case n old old.opens)) h))

pub jumped_on : (d : Declared) (inc : List ℕ → Scope → Bool) (at n : ℕ) (old new : Known) → leb n at ≡ false → new ≡ other_case n old old.opens → Steps d inc at old (jump n) [] new
jumped_on d inc at n old new h e = (refl, e ∙ sym (ap (λ b. cond b (leaves_block old old.opens) (other_case n old old.opens)) h))

-- ---- what takes one operand
pub emitted : (d : Declared) (inc : List ℕ → Scope → Bool) (at : ℕ) (old mid : Known) (o : KnownOperand) (s : Option Shape) (ds : List Doubt) → old ≡ with_operand o mid → o.shape ≡ s → ds ≡ if_some s (text_doubts d mid.scope o.place)
    → Steps d inc at old emit ds mid
emitted d inc at old mid o s ds e same is = after_pop d inc at old mid mid o emit ds e (is ∙ ap (λ t. if_some t (text_doubts d mid.scope o.place)) (sym same), refl)

pub included_alone : (d : Declared) (inc : List ℕ → Scope → Bool) (at : ℕ) (old mid : Known) (o : KnownOperand) (word : Ident) (s : Option Shape) (ds : List Doubt) → old ≡ with_operand o mid → o.shape ≡ s
    → ds ≡ if_some s (λ t. include_doubts d inc word (scope_over t)) → Steps d inc at old (include_with word) ds mid
included_alone d inc at old mid o word s ds e same is =
    after_pop d inc at old mid mid o (include_with word) ds e (is ∙ ap (λ r. if_some r (λ t. include_doubts d inc word (scope_over t))) (sym same), refl)

pub named : (d : Declared) (inc : List ℕ → Scope → Bool) (at : ℕ) (old mid next : Known) (o : KnownOperand) (word : Ident) (s : Shape) → old ≡ with_operand o mid → s ≡ or_never o.shape
    → next ≡ binds_shapes (name_shape word.text (value_of s) ∷ []) mid.operands mid → Steps d inc at old (with_start word) [] next
named d inc at old mid next o word s e is b =
    after_pop d inc at old mid next o (with_start word) [] e (refl, b ∙ ap (λ t. binds_shapes (name_shape word.text (value_of t) ∷ []) mid.operands mid) is)

pub is_included_so : (d : Declared) (inc : List ℕ → Scope → Bool) (word : Ident) (scope : Scope) (b : Bool) → b ≡ inc word.text scope → b ≡ true → [] ≡ include_doubts d inc word scope
is_included_so d inc word scope b is holds = sym (ap (λ c. unless c (doubt word.span (is_included word.text scope))) (sym is ∙ holds))

pub not_included_so : (d : Declared) (inc : List ℕ → Scope → Bool) (word : Ident) (scope : Scope) (b : Bool) (ds : List Doubt) → b ≡ inc word.text scope → b ≡ false → ds ≡ doubt word.span (is_included word.text scope) → ds ≡ include_doubts d inc word scope
not_included_so d inc word scope b ds is fails e = e ∙ sym (ap (λ c. unless c (doubt word.span (is_included word.text scope))) (sym is ∙ fails))

-- ---- of what a call gives, if it does
pub if_ok_map : {A E : Type 0} {P Q : A → Type 0} (r : Result A E) → ((a : A) → P a → Q a) → IfOk r P → IfOk r Q
if_ok_map (Ok a) go h = go a h
if_ok_map (Err e) go h = h
