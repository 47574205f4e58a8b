-- A walk along the instructions that show an expression doubts what is in doubt of that.
use Rattle.std.proofs.Common.{◌≡◌, ℕ, suc, ◌+◌, List, [], ◌∷◌, ◌++◌, length, length-append, append_assoc, Bool, Option, Some, refl, ap, ◌∙◌, arith}
use Rattle.upon_types.specs.declared.types.Span.{Span}
use Rattle.upon_types.specs.Expression.{Expression, base, filtered, Base, var, literal, list, mapping, paren, call}
use Rattle.upon_types.specs.Path.{Ident}
use Rattle.upon_machine_spec.specs.Code.{count, expression_code, base_code, arguments_code, emission_code, base_emission_code}
use Rattle.upon_machine_spec.specs.Instr.{Instr, emit, emit_with}
use Rattle.upon_machine_spec.specs.Operands.{onto, taken}
use Rattle.upon_machine_spec.proofs.FollowsTree.Operands.{taken_onto}
use Rattle.upon_shape_spec.specs.Declared.{Declared}
use Rattle.upon_shape_spec.specs.Doubts.{Doubt, if_some, expression_doubts, base_doubts, arguments_doubts, text_doubts, shown_call_doubts, shown_doubts, base_shown_doubts}
use Rattle.upon_shape_spec.specs.ExpressionShapes.{shape_then, expression_shape, base_shape, arguments_shapes}
use Rattle.upon_shape_spec.specs.Scope.{Scope}
use Rattle.upon_shape_spec.specs.Shape.{Shape}
use Rattle.upon_shape_spec.specs.Known.{KnownOperand, Open, left_at}
use Rattle.upon_shape_spec.specs.ProgramDoubts.{shapes_of, with_known_taken}
use Rattle.upon_shape_spec.proofs.Blocks.{EndFrom, sooner}
use Rattle.upon_shape_spec.proofs.Expressions.{over, Puts, expression_walks, base_walks, arguments_walk}
use Rattle.upon_shape_spec.proofs.Operands.{operand_of, base_operand, base_value_span, arguments_operands, counted, shaped}
use Rattle.upon_shape_spec.proofs.AlongPrograms.{Walks, walk_then, walk_step, with_code, to_number}

module _ (declared : Declared) (included : List ℕ → Scope → Bool) (scope : Scope) (opens : List Open) where
  -- a walk to where the blocks are left that end there
  abbrev Ends : ℕ → List KnownOperand → List Instr → List Doubt → List KnownOperand → Type 0
  Ends at os c ds next = Walks declared included at (over declared included scope opens os) c ds (left_at (at + length c) next scope opens)

  -- what a callable gives is shown
  called : (at : ℕ) (before : List KnownOperand) (c : List Instr) (ds : List Doubt) (os below : List KnownOperand) (shapes : Option (List Shape)) (name : Ident) (n : ℕ) (span : Span) → length os ≡ n → shapes_of os ≡ shapes → Puts declared included scope opens at before c ds (onto os below)
      → Ends at before (c ++ emit_with name n span ∷ []) (ds ++ if_some shapes (shown_call_doubts declared scope name.span span (declared.callables name.text))) below
  called at before c ds os below shapes name n span counts e w =
      let t : taken n (onto os below) ≡ Some (os, below) = taken_onto n os below counts in
      let end : List Instr = emit_with name n span ∷ [] in
      let es : List Doubt = if_some shapes (shown_call_doubts declared scope name.span span (declared.callables name.text)) in
      let p : ℕ = at + length c + 1 in
      let len : p ≡ at + length (c ++ end) = omega (arith, length-append c end) in
      to_number declared included at p (at + length (c ++ end)) (over declared included scope opens before) (c ++ end) (ds ++ es) below scope opens len
      (walk_then declared included at (over declared included scope opens before) (over declared included scope opens (onto os below)) (left_at p below scope opens) c end ds es w
      (walk_step declared included (at + length c) (over declared included scope opens (onto os below)) (emit_with name n span) es below scope opens
      (ap (λ x. with_known_taken [] x (λ os below. if_some (shapes_of os) (shown_call_doubts declared scope name.span span (declared.callables name.text)))) t ∙ ap (λ x. if_some x (shown_call_doubts declared scope name.span span (declared.callables name.text))) e)
      (ap (λ x. with_known_taken (over declared included scope opens (onto os below)) x (λ os below. over declared included scope opens below)) t)))

  -- a value is shown
  shown : (b : Base) (at : ℕ) (os : List KnownOperand) → EndFrom (at + length (base_code b ++ emit ∷ [])) opens
      → Ends at os (base_code b ++ emit ∷ []) (base_doubts declared scope b ++ if_some (base_shape declared scope b) (text_doubts declared scope (base_value_span b))) os
  shown b at os h =
      let o : KnownOperand = base_operand declared scope b in
      let es : List Doubt = if_some (base_shape declared scope b) (text_doubts declared scope (base_value_span b)) in
      let p : ℕ = at + length (base_code b) + 1 in
      let len : p ≡ at + length (base_code b ++ emit ∷ []) = omega (arith, length-append (base_code b) (emit ∷ [])) in
      to_number declared included at p (at + length (base_code b ++ emit ∷ [])) (over declared included scope opens os) (base_code b ++ emit ∷ []) (base_doubts declared scope b ++ es) os scope opens len
      (walk_then declared included at (over declared included scope opens os) (over declared included scope opens (o ∷ os)) (left_at p os scope opens) (base_code b) (emit ∷ []) (base_doubts declared scope b) es
      (base_walks declared included scope opens b at os (sooner (at + length (base_code b ++ emit ∷ [])) p opens (omega arith) h))
      (walk_step declared included (at + length (base_code b)) (over declared included scope opens (o ∷ os)) emit es os scope opens refl refl))

  mutual
    pub emission_walks : (e : Expression) (at : ℕ) (os : List KnownOperand) → EndFrom (at + length (emission_code e)) opens → Ends at os (emission_code e) (shown_doubts declared scope e) os
    emission_walks (base b) at os h = base_emission_walks b at os h
    emission_walks (filtered receiver name args span) at os h =
        let a : List Instr = expression_code receiver in
        let b : List Instr = arguments_code args in
        let end : List Instr = emit_with name (suc (count args)) span ∷ [] in
        let r : KnownOperand = operand_of declared scope receiver in
        let given : List KnownOperand = arguments_operands declared scope args in
        let len : length (a ++ (b ++ end)) ≡ length a + (length b + 1) = omega (arith, length-append a (b ++ end), length-append b end) in
        let row : Puts declared included scope opens at os (a ++ b) (expression_doubts declared scope receiver ++ arguments_doubts declared scope args) (onto (r ∷ given) os) =
        walk_then declared included at (over declared included scope opens os) (over declared included scope opens (r ∷ os)) (over declared included scope opens (onto (r ∷ given) os)) a b (expression_doubts declared scope receiver) (arguments_doubts declared scope args)
        (expression_walks declared included scope opens receiver at os (sooner (at + length (a ++ (b ++ end))) (at + length a + 1) opens (omega arith) h))
        (arguments_walk declared included scope opens args (at + length a) (r ∷ os) (sooner (at + length (a ++ (b ++ end))) (at + length a + length b + 1) opens (omega arith) h)) in
        with_code declared included at (over declared included scope opens os) (left_at (at + length (a ++ (b ++ end))) os scope opens) ((a ++ b) ++ end) (a ++ (b ++ end)) _ (append_assoc a b end)
        (to_number declared included at (at + length ((a ++ b) ++ end)) (at + length (a ++ (b ++ end))) (over declared included scope opens os) ((a ++ b) ++ end) _ os scope opens (ap (λ c. at + length c) (append_assoc a b end))
        (called at os (a ++ b) (expression_doubts declared scope receiver ++ arguments_doubts declared scope args) (r ∷ given) os (shape_then (expression_shape declared scope receiver) (arguments_shapes declared scope args)) name (suc (count args)) span (ap suc (counted declared scope args)) (ap (shape_then (expression_shape declared scope receiver)) (shaped declared scope args)) row))

    base_emission_walks : (b : Base) (at : ℕ) (os : List KnownOperand) → EndFrom (at + length (base_emission_code b)) opens → Ends at os (base_emission_code b) (base_shown_doubts declared scope b) os
    base_emission_walks (paren e span) at os h = emission_walks e at os h
    base_emission_walks (call name args span) at os h =
        let b : List Instr = arguments_code args in
        let end : List Instr = emit_with name (count args) span ∷ [] in
        called at os b (arguments_doubts declared scope args) (arguments_operands declared scope args) os (arguments_shapes declared scope args) name (count args) span (counted declared scope args) (shaped declared scope args)
        (arguments_walk declared included scope opens args at os (sooner (at + length (b ++ end)) (at + length b + 1) opens (omega (arith, length-append b end)) h))
    base_emission_walks (var first rest) at os h = shown (var first rest) at os h
    base_emission_walks (literal v span) at os h = shown (literal v span) at os h
    base_emission_walks (list bases span) at os h = shown (list bases span) at os h
    base_emission_walks (mapping items span) at os h = shown (mapping items span) at os h
