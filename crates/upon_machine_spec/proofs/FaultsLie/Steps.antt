-- A step keeps that spans lie in the texts of their templates, and its fault lies in the text of the template that runs.
use Rattle.std.proofs.Common.{◌≡◌, ℕ, zero, suc, List, [], ◌∷◌, Option, Some, None, Bool, true, false, inl, inr, refl, sym, subst, ◌+◌}
use Rattle.std.specs.Prelude.{slice_get}
use Rattle.upon_types.specs.declared.types.Span.{Span}
use Rattle.upon_types.specs.Path.{Ident, path_span}
use Rattle.upon_types.specs.Span.{LiesIn}
use Rattle.upon_types.specs.TreeSpans.{TreeLiesIn}
use Rattle.upon_types.specs.Val.{Val, none_val, bool_val, int_val, text_val, list_val, map_val}
use Rattle.upon_types.proofs.CombinedSpans.{combined_lies_in}
use Rattle.upon_types.proofs.ExpressionSpans.{path_place}
use Rattle.upon_lookup.specs.Environment.{Root}
use Rattle.upon_lookup.specs.Finding.{Finding, found, at_fault}
use Rattle.upon_lookup.specs.Lookup.{lookup}
use Rattle.upon_lookup.specs.Source.{SourceAnswer, says, refuses}
use Rattle.upon_meaning_spec.specs.Emission.{format_outcome, callable_outcome}
use Rattle.upon_meaning_spec.specs.Engine.{Template, Calls, Resolver}
use Rattle.upon_meaning_spec.specs.Evaluation.{Operand, operand, call_value}
use Rattle.upon_meaning_spec.specs.Outcome.{End, good, fails, too_deep, States}
use Rattle.upon_meaning_spec.specs.RenderFaults.{EachSpan, TemplatesLie}
use Rattle.upon_meaning_spec.proofs.FaultsStated.Emissions.{EndFine, default_fine, emitted_fine}
use Rattle.upon_meaning_spec.proofs.FaultsStated.Expressions.{called_fine}
use Rattle.upon_meaning_spec.proofs.FaultsStated.Lookups.{Any, FoundFine, lookup_fine}
use Rattle.upon_machine_spec.specs.Instr.{Instr, emit, emit_raw, emit_with, include, include_with, expr_start_var, expr_start_literal, expr_start_list, expr_start_map, expr_list_push, expr_map_insert, apply}
use Rattle.upon_machine_spec.specs.Operands.{taken_before, taken}
use Rattle.upon_machine_spec.specs.Spans.{InstrSpans, CodeSpans, CallersLie, StateLies, NextLies}
use Rattle.upon_machine_spec.specs.State.{Frame, scope, variable, loop, environment_of, Caller, State, at_start}
use Rattle.upon_machine_spec.specs.Step.{Next, moved, ends_with, pushes, with_top, with_taken, with_none, adds_item, adds_entry, enters_at, enters, returns, leaves, act, step}
use Rattle.upon_machine_spec.proofs.BlockCode.{IsLeft, own_step, own_fault_lies}
use Rattle.upon_machine_spec.proofs.FaultsLie.Code.{program_spans}

-- operands that are taken, and those below them
abbrev Both : (Span → Type 0) → Option (List Operand × List Operand) → Type 0
Both P None = Unit {0}
Both P (Some both) = EachSpan P both.0 × EachSpan P both.1

taken_spans : (P : Span → Type 0) (n : ℕ) (os ops : List Operand) → EachSpan P os → EachSpan P ops → Both P (taken_before n os ops)
taken_spans P zero os ops h k = (h, k)
taken_spans P (suc n) os [] h k = tt
taken_spans P (suc n) os (o ∷ ops) h k = taken_spans P n (o ∷ os) ops (k.0, h) k.1

-- operands of which one at most was taken
left_lie : (P : Span → Type 0) (all ops : List Operand) → IsLeft all ops → EachSpan P all → EachSpan P ops
left_lie P all ops (inl e) h = subst (EachSpan P) e h
left_lie P all ops (inr top) h = (subst (EachSpan P) top.1 h).1

-- the instruction at an offset
abbrev Instruction : (Span → Type 0) → Option Instr → Type 0
Instruction P None = Unit {0}
Instruction P (Some i) = InstrSpans P i

instruction_at : (P : Span → Type 0) (code : List Instr) (place : ℕ) → CodeSpans P code → Instruction P (slice_get code place)
instruction_at P [] place h = tt
instruction_at P (i ∷ is) zero h = h.0
instruction_at P (i ∷ is) (suc place) h = instruction_at P is place h.1

module _ {V T : Type 0} (calls : Calls V) (resolve : Resolver T) where
  module _ (s : State V T) (h : StateLies s) where
    abbrev source : List ℕ
    source = s.active.running.source

    abbrev P : Span → Type 0
    P = LiesIn source

    -- on in the same template, with these operands
    on_with : (ops : List Operand) (fs : List Frame) (place : ℕ) (q : States V T) → EachSpan P ops → StateLies (record s { position = place; operands = ops; frames = fs; asked = q })
    on_with ops fs place q k = record { active = h.active; callers = h.callers; operands = k }

    ends_lie : (text : List ℕ) (end : End) (ops : List Operand) → EndFine calls resolve P end → EachSpan P ops → NextLies source (ends_with text end (moved s ops s.frames s.asked.values))
    ends_lie text good ops x k = on_with ops s.frames (s.position + 1) _ k
    ends_lie text (fails f) ops x k = record { span = x.span; placed = x.placed; lies = x.lies }
    ends_lie text too_deep ops x k = tt

    pushes_lie : (x : Finding Val) (at : Span) (ops : List Operand) (q : V) → FoundFine calls resolve P Any x → P at → EachSpan P ops → NextLies source (pushes x at s ops q)
    pushes_lie (found v) at ops q x k os = on_with (operand v at ∷ ops) s.frames (s.position + 1) _ (k, os)
    pushes_lie (at_fault f) at ops q x k os = record { span = x.span; placed = x.placed; lies = x.lies }

    top_lies : (ops : List Operand) (go : Operand → List Operand → Next V T) → EachSpan P ops → ((o : Operand) (below : List Operand) → P o.span → EachSpan P below → NextLies source (go o below)) → NextLies source (with_top ops go)
    top_lies [] go k then = tt
    top_lies (o ∷ ops) go k then = then o ops k.0 k.1

    taken_lie : (x : Option (List Operand × List Operand)) (go : List Operand → List Operand → Next V T) → Both P x → ((os ops : List Operand) → EachSpan P os → EachSpan P ops → NextLies source (go os ops)) → NextLies source (with_taken x go)
    taken_lie None go k then = tt
    taken_lie (Some both) go k then = then both.0 both.1 k.0 k.1

    none_lies : (ops : List Operand) (next : Next V T) → NextLies source next → NextLies source (with_none ops next)
    none_lies [] next k = k
    none_lies (o ∷ ops) next k = tt

    item_lies : (w v : Val) (at : Span) (ops : List Operand) → P at → EachSpan P ops → NextLies source (adds_item w v at s ops)
    item_lies (list_val vs) v at ops k os = on_with _ s.frames (s.position + 1) _ (k, os)
    item_lies none_val v at ops k os = tt
    item_lies (bool_val b) v at ops k os = tt
    item_lies (int_val z) v at ops k os = tt
    item_lies (text_val t) v at ops k os = tt
    item_lies (map_val es) v at ops k os = tt

    entry_lies : (w : Val) (key : Ident) (v : Val) (at : Span) (ops : List Operand) → P at → EachSpan P ops → NextLies source (adds_entry w key v at s ops)
    entry_lies (map_val es) key v at ops k os = on_with _ s.frames (s.position + 1) _ (k, os)
    entry_lies none_val key v at ops k os = tt
    entry_lies (bool_val b) key v at ops k os = tt
    entry_lies (int_val z) key v at ops k os = tt
    entry_lies (text_val t) key v at ops k os = tt
    entry_lies (list_val vs) key v at ops k os = tt

    enters_at_lies : (left : ℕ) (t : Template) (word : Ident) (scoped : Bool) (fs : List Frame) (templates : T) → TreeLiesIn t.source t.tree → NextLies source (enters_at left t word scoped s fs templates)
    enters_at_lies zero t word scoped fs templates k = tt
    enters_at_lies (suc left) t word scoped fs templates k = record { active = program_spans (LiesIn t.source) (combined_lies_in t.source) t.tree k; callers = (h.active, h.callers); operands = tt }

    enters_lie : (x : SourceAnswer Template) (word : Ident) (scoped : Bool) (fs : List Frame) (templates : T) → ((t : Template) → x ≡ says t → TreeLiesIn t.source t.tree) → P word.span → NextLies source (enters x word scoped s fs templates)
    enters_lie (says t) word scoped fs templates k at = enters_at_lies s.active.left t word scoped fs templates (k t refl)
    enters_lie (refuses text) word scoped fs templates k at = record { span = word.span; placed = refl; lies = at }

    returns_lie : (scoped : Bool) (c : Caller) (callers : List Caller) (fs : List Frame) → CallersLie (c ∷ callers) → s.operands ≡ [] → NextLies source (returns scoped c callers fs s)
    returns_lie false c callers fs k none = record { active = k.0; callers = k.1; operands = subst (EachSpan (LiesIn c.active.running.source)) (sym none) tt }
    returns_lie true c callers (scope v ∷ fs) k none = record { active = k.0; callers = k.1; operands = subst (EachSpan (LiesIn c.active.running.source)) (sym none) tt }
    returns_lie true c callers (variable word v ∷ fs) k none = tt
    returns_lie true c callers (loop count next bs items ∷ fs) k none = tt
    returns_lie true c callers [] k none = tt

    back_lies : (ops : List Operand) (c : Caller) (callers : List Caller) → CallersLie (c ∷ callers) → s.operands ≡ ops → NextLies source (with_none ops (returns c.scoped c callers s.frames s))
    back_lies [] c callers k same = returns_lie c.scoped c callers s.frames k same
    back_lies (o ∷ ops) c callers k same = tt

    leaves_lie : (callers : List Caller) → CallersLie callers → NextLies source (leaves callers s)
    leaves_lie [] k = tt
    leaves_lie (c ∷ callers) k = back_lies s.operands c callers k refl

    act_lies : (root : Root) → TemplatesLie resolve → (i : Option Instr) → Instruction P i → NextLies source (act calls resolve root i s)
    act_lies root others None k = leaves_lie s.callers h.callers
    act_lies root others (Some emit) k = top_lies s.operands _ h.operands (λ o ops at below. ends_lie _ (format_outcome (calls.default_formatter o.value) o.span).end ops (default_fine calls resolve P o.value o.span at) below)
    act_lies root others (Some (emit_raw span)) k = on_with s.operands s.frames (s.position + 1) _ h.operands
    act_lies root others (Some (emit_with name n span)) k =
        taken_lie (taken n s.operands) _ (taken_spans P n [] s.operands tt h.operands)
        (λ os ops at below. ends_lie _ (callable_outcome calls.default_formatter name span os (calls.callables name.text)).end ops (emitted_fine calls resolve P name span os at k.0 k.1) below)
    act_lies root others (Some (include word)) k =
        let r = resolve s.asked.templates word.text in
        none_lies s.operands _ (enters_lie r.answer word false s.frames r.next (λ t e. others s.asked.templates word.text t e) k)
    act_lies root others (Some (include_with word)) k =
        let r = resolve s.asked.templates word.text in
        top_lies s.operands _ h.operands (λ o ops at below. none_lies ops _ (enters_lie r.answer word true (scope o.value ∷ s.frames) r.next (λ t e. others s.asked.templates word.text t e) k))
    act_lies root others (Some (expr_start_var first rest)) k =
        let r = lookup calls.ask (environment_of root s.frames) first rest s.asked.values in
        pushes_lie r.answer (path_span first rest) s.operands r.next (lookup_fine calls resolve P (combined_lies_in source) (environment_of root s.frames) first rest s.asked.values k.0 k.1) (path_place P (combined_lies_in source) first rest k.0 k.1) h.operands
    act_lies root others (Some (expr_start_literal v span)) k = on_with _ s.frames (s.position + 1) _ (k, h.operands)
    act_lies root others (Some (expr_start_list span)) k = on_with _ s.frames (s.position + 1) _ (k, h.operands)
    act_lies root others (Some (expr_start_map span)) k = on_with _ s.frames (s.position + 1) _ (k, h.operands)
    act_lies root others (Some expr_list_push) k = top_lies s.operands _ h.operands (λ v below at rest. top_lies below _ rest (λ o ops there left. item_lies o.value v.value o.span ops there left))
    act_lies root others (Some (expr_map_insert key)) k = top_lies s.operands _ h.operands (λ v below at rest. top_lies below _ rest (λ o ops there left. entry_lies o.value key v.value o.span ops there left))
    act_lies root others (Some (apply name n span)) k =
        taken_lie (taken n s.operands) _ (taken_spans P n [] s.operands tt h.operands)
        (λ os ops at below. pushes_lie (call_value name span os (calls.callables name.text)) span ops s.asked.values (called_fine calls resolve P name span os at k.0 k.1) k.1 below)
    act_lies root others (Some i) k = own_step calls resolve root s (NextLies source) tt (λ place ops fs q left. on_with ops fs place q (left_lie P s.operands ops left h.operands)) i tt (λ f x. let y = own_fault_lies calls resolve P i f k x in record { span = y.span; placed = y.placed; lies = y.lies })

  pub step_lies : (root : Root) (s : State V T) → TemplatesLie resolve → StateLies s → NextLies s.active.running.source (step calls resolve root s)
  step_lies root s others h = act_lies s h root others (slice_get s.active.code s.position) (instruction_at (LiesIn s.active.running.source) s.active.code s.position h.active)

pub start_lies : {V T : Type 0} (t : Template) (name : Option (List ℕ)) (left : ℕ) (q : States V T) → TreeLiesIn t.source t.tree → StateLies (at_start t name left q)
start_lies t name left q h = record { active = program_spans (LiesIn t.source) (combined_lies_in t.source) t.tree h; callers = tt; operands = tt }
