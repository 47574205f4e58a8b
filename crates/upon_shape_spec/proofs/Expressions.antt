-- A walk along an expression's instructions doubts what is in doubt in the expression, and knows its value's shape then.
use Rattle.std.proofs.Common.{◌≡◌, ℕ, suc, ◌+◌, List, [], ◌∷◌, ◌++◌, length, length-append, append_assoc, Bool, Option, Some, None, option_and_then, option_map, refl, ap, ◌∙◌, arith}
use Rattle.upon_types.specs.declared.types.Span.{Span}
use Rattle.upon_types.specs.Expression.{Expression, base, filtered, Base, var, literal, list, mapping, paren, call, Bases, no_bases, base_then, Items, no_items, item_then, Arguments, no_arguments, arguments}
use Rattle.upon_types.specs.Path.{Ident}
use Rattle.upon_machine_spec.specs.Code.{count, expression_code, base_code, bases_code, arguments_code, list_code, map_code}
use Rattle.upon_machine_spec.specs.Instr.{Instr, expr_start_var, expr_start_literal, expr_start_list, expr_start_map, expr_list_push, expr_map_insert, apply}
use Rattle.upon_machine_spec.specs.Operands.{onto, taken}
use Rattle.upon_machine_spec.proofs.FollowsTree.Operands.{taken_onto}
use Rattle.upon_shape_spec.specs.Declared.{Declared}
use Rattle.upon_shape_spec.specs.Doubts.{Doubt, if_some, path_doubts, given_doubts, expression_doubts, base_doubts, bases_doubts, items_doubts, arguments_doubts}
use Rattle.upon_shape_spec.specs.ExpressionShapes.{shape_then, call_shape, expression_shape, base_shape, bases_shapes, items_keys, arguments_shapes}
use Rattle.upon_shape_spec.specs.Scope.{Scope}
use Rattle.upon_shape_spec.specs.Shape.{Shape, Keys, never, list_of, map_of, no_others}
use Rattle.upon_shape_spec.specs.Known.{KnownOperand, Open, Known, known, known_operand}
use Rattle.upon_shape_spec.specs.ProgramDoubts.{shapes_of, with_known_taken}
use Rattle.upon_shape_spec.proofs.Blocks.{EndFrom, sooner}
use Rattle.upon_shape_spec.proofs.Operands.{operand_of, base_operand, bases_operands, arguments_operands, counted, shaped, list_with, list_begun, joined_with, item_put, list_ended, list_more, keys_with, entry_put, map_ended, map_more}
use Rattle.upon_shape_spec.proofs.AlongPrograms.{Walks, walk_nothing, walk_then, walk_within, with_code, to_known}

module _ (declared : Declared) (included : List ℕ → Scope → Bool) (scope : Scope) (opens : List Open) where
  -- with these operands
  abbrev pub over : List KnownOperand → Known
  over os = known os scope opens

  -- a walk from some operands to others
  abbrev pub Puts : ℕ → List KnownOperand → List Instr → List Doubt → List KnownOperand → Type 0
  Puts at os c ds next = Walks declared included at (over os) c ds (over next)

  -- ---- calls
  applied : (at : ℕ) (os below : List KnownOperand) (shapes : Option (List Shape)) (name : Ident) (n : ℕ) (span : Span) → EndFrom (at + 1 + 1) opens → length os ≡ n → shapes_of os ≡ shapes
      → Puts at (onto os below) (apply name n span ∷ []) (if_some shapes (given_doubts name.span (declared.callables name.text))) (known_operand (call_shape (declared.callables name.text) shapes) span None ∷ below)
  applied at os below shapes name n span h counts e =
      let t : taken n (onto os below) ≡ Some (os, below) = taken_onto n os below counts in
      walk_within declared included at (over (onto os below)) (apply name n span) (if_some shapes (given_doubts name.span (declared.callables name.text))) (known_operand (call_shape (declared.callables name.text) shapes) span None ∷ below) scope opens h
      (ap (λ x. with_known_taken [] x (λ os below. if_some (shapes_of os) (given_doubts name.span (declared.callables name.text)))) t ∙ ap (λ x. if_some x (given_doubts name.span (declared.callables name.text))) e)
      (ap (λ x. with_known_taken (over (onto os below)) x (λ os below. over (known_operand (call_shape (declared.callables name.text) (shapes_of os)) span None ∷ below))) t ∙ ap (λ x. over (known_operand (call_shape (declared.callables name.text) x) span None ∷ below)) e)

  called : (at : ℕ) (before : List KnownOperand) (c : List Instr) (ds : List Doubt) (os below : List KnownOperand) (shapes : Option (List Shape)) (name : Ident) (n : ℕ) (span : Span) → EndFrom (at + length c + 1 + 1) opens → length os ≡ n → shapes_of os ≡ shapes → Puts at before c ds (onto os below)
      → Puts at before (c ++ apply name n span ∷ []) (ds ++ if_some shapes (given_doubts name.span (declared.callables name.text))) (known_operand (call_shape (declared.callables name.text) shapes) span None ∷ below)
  called at before c ds os below shapes name n span h counts e w =
      walk_then declared included at (over before) (over (onto os below)) (over (known_operand (call_shape (declared.callables name.text) shapes) span None ∷ below)) c (apply name n span ∷ []) ds (if_some shapes (given_doubts name.span (declared.callables name.text))) w
      (applied (at + length c) os below shapes name n span h counts e)

  -- ---- what is put into lists and maps
  item_walks : (at : ℕ) (os : List KnownOperand) (s t : Option Shape) (span at_item : Span) (path : _) → EndFrom (at + 1 + 1) opens
      → Puts at (known_operand t at_item path ∷ known_operand (option_map list_of s) span None ∷ os) (expr_list_push ∷ []) [] (known_operand (option_map list_of (joined_with s t)) span None ∷ os)
  item_walks at os s t span at_item path h =
      walk_within declared included at (over (known_operand t at_item path ∷ known_operand (option_map list_of s) span None ∷ os)) expr_list_push [] (known_operand (option_map list_of (joined_with s t)) span None ∷ os) scope opens h refl
      (ap (λ x. over (known_operand x span None ∷ os)) (item_put s t))

  entry_walks : (at : ℕ) (os : List KnownOperand) (key : Ident) (ks : Option Keys) (t : Option Shape) (span at_item : Span) (path : _) → EndFrom (at + 1 + 1) opens
      → Puts at (known_operand t at_item path ∷ known_operand (option_map map_of ks) span None ∷ os) (expr_map_insert key ∷ []) [] (known_operand (option_map map_of (keys_with key.text ks t)) span None ∷ os)
  entry_walks at os key ks t span at_item path h =
      walk_within declared included at (over (known_operand t at_item path ∷ known_operand (option_map map_of ks) span None ∷ os)) (expr_map_insert key) [] (known_operand (option_map map_of (keys_with key.text ks t)) span None ∷ os) scope opens h refl
      (ap (λ x. over (known_operand x span None ∷ os)) (entry_put key.text ks t))

  -- ---- places
  first_part : (at : ℕ) (a b : List Instr) → EndFrom (at + length (a ++ b) + 1) opens → EndFrom (at + length a + 1) opens
  first_part at a b h = sooner (at + length (a ++ b) + 1) (at + length a + 1) opens (omega (arith, length-append a b)) h

  last_part : (at : ℕ) (a b : List Instr) → EndFrom (at + length (a ++ b) + 1) opens → EndFrom (at + length a + length b + 1) opens
  last_part at a b h = sooner (at + length (a ++ b) + 1) (at + length a + length b + 1) opens (omega (arith, length-append a b)) h

  mutual
    pub expression_walks : (e : Expression) (at : ℕ) (os : List KnownOperand) → EndFrom (at + length (expression_code e) + 1) opens → Puts at os (expression_code e) (expression_doubts declared scope e) (operand_of declared scope e ∷ os)
    expression_walks (base b) at os h = base_walks b at os h
    expression_walks (filtered receiver name args span) at os h =
        let a : List Instr = expression_code receiver in
        let b : List Instr = arguments_code args in
        let end : List Instr = apply name (suc (count args)) span ∷ [] in
        let r : KnownOperand = operand_of declared scope receiver in
        let given : List KnownOperand = arguments_operands declared scope args in
        let row : Puts at os (a ++ b) (expression_doubts declared scope receiver ++ arguments_doubts declared scope args) (onto (r ∷ given) os) =
        walk_then declared included at (over os) (over (r ∷ os)) (over (onto (r ∷ given) os)) a b (expression_doubts declared scope receiver) (arguments_doubts declared scope args) (expression_walks receiver at os (first_part at a (b ++ end) h)) (arguments_walk args (at + length a) (r ∷ os) (first_part (at + length a) b end (last_part at a (b ++ end) h))) in
        with_code declared included at (over os) _ ((a ++ b) ++ end) (a ++ (b ++ end)) _ (append_assoc a b end)
        (called at os (a ++ b) (expression_doubts declared scope receiver ++ arguments_doubts declared scope args) (r ∷ given) os (shape_then (expression_shape declared scope receiver) (arguments_shapes declared scope args)) name (suc (count args)) span
        (sooner (at + length (a ++ (b ++ end)) + 1) _ opens (omega (arith, length-append a (b ++ end), length-append b end, length-append a b)) h)
        (ap suc (counted declared scope args)) (ap (shape_then (expression_shape declared scope receiver)) (shaped declared scope args)) row)

    pub base_walks : (b : Base) (at : ℕ) (os : List KnownOperand) → EndFrom (at + length (base_code b) + 1) opens → Puts at os (base_code b) (base_doubts declared scope b) (base_operand declared scope b ∷ os)
    base_walks (var first rest) at os h = walk_within declared included at (over os) (expr_start_var first rest) (path_doubts scope first rest) (base_operand declared scope (var first rest) ∷ os) scope opens h refl refl
    base_walks (literal v span) at os h = walk_within declared included at (over os) (expr_start_literal v span) [] (base_operand declared scope (literal v span) ∷ os) scope opens h refl refl
    base_walks (list bases span) at os h =
        let begun : List KnownOperand = known_operand (Some (list_of never)) span None ∷ os in
        let c : List Instr = list_code bases in
        to_known declared included at (over os) _ (over (base_operand declared scope (list bases span) ∷ os)) (base_code (list bases span)) (bases_doubts declared scope bases) (ap (λ s. over (known_operand s span None ∷ os)) (list_begun (bases_shapes declared scope bases) never))
        (walk_then declared included at (over os) (over begun) (over (known_operand (list_with (Some never) (bases_shapes declared scope bases)) span None ∷ os)) (expr_start_list span ∷ []) c [] (bases_doubts declared scope bases)
        (walk_within declared included at (over os) (expr_start_list span) [] begun scope opens (first_part at (expr_start_list span ∷ []) c h) refl refl)
        (list_walks bases (at + 1) os (Some never) span (last_part at (expr_start_list span ∷ []) c h)))
    base_walks (mapping items span) at os h =
        let begun : List KnownOperand = known_operand (Some (map_of no_others)) span None ∷ os in
        let c : List Instr = map_code items in
        walk_then declared included at (over os) (over begun) (over (base_operand declared scope (mapping items span) ∷ os)) (expr_start_map span ∷ []) c [] (items_doubts declared scope items)
        (walk_within declared included at (over os) (expr_start_map span) [] begun scope opens (first_part at (expr_start_map span ∷ []) c h) refl refl)
        (map_walks items (at + 1) os (Some no_others) span (last_part at (expr_start_map span ∷ []) c h))
    base_walks (paren e span) at os h = expression_walks e at os h
    base_walks (call name args span) at os h =
        let b : List Instr = arguments_code args in
        let end : List Instr = apply name (count args) span ∷ [] in
        called at os b (arguments_doubts declared scope args) (arguments_operands declared scope args) os (arguments_shapes declared scope args) name (count args) span (last_part at b end h) (counted declared scope args) (shaped declared scope args) (arguments_walk args at os (first_part at b end h))

    bases_walk : (bs : Bases) (at : ℕ) (os : List KnownOperand) → EndFrom (at + length (bases_code bs) + 1) opens → Puts at os (bases_code bs) (bases_doubts declared scope bs) (onto (bases_operands declared scope bs) os)
    bases_walk no_bases at os h = walk_nothing declared included at (over os)
    bases_walk (base_then b bs) at os h =
        let o : KnownOperand = base_operand declared scope b in
        walk_then declared included at (over os) (over (o ∷ os)) (over (onto (bases_operands declared scope bs) (o ∷ os))) (base_code b) (bases_code bs) (base_doubts declared scope b) (bases_doubts declared scope bs)
        (base_walks b at os (first_part at (base_code b) (bases_code bs) h)) (bases_walk bs (at + length (base_code b)) (o ∷ os) (last_part at (base_code b) (bases_code bs) h))

    pub arguments_walk : (args : Arguments) (at : ℕ) (os : List KnownOperand) → EndFrom (at + length (arguments_code args) + 1) opens → Puts at os (arguments_code args) (arguments_doubts declared scope args) (onto (arguments_operands declared scope args) os)
    arguments_walk no_arguments at os h = walk_nothing declared included at (over os)
    arguments_walk (arguments bases span) at os h = bases_walk bases at os h

    -- into a list of such items, if it is known of which
    list_walks : (bs : Bases) (at : ℕ) (os : List KnownOperand) (s : Option Shape) (span : Span) → EndFrom (at + length (list_code bs) + 1) opens
        → Puts at (known_operand (option_map list_of s) span None ∷ os) (list_code bs) (bases_doubts declared scope bs) (known_operand (list_with s (bases_shapes declared scope bs)) span None ∷ os)
    list_walks no_bases at os s span h =
        to_known declared included at _ _ _ [] [] (ap (λ x. over (known_operand x span None ∷ os)) (list_ended s)) (walk_nothing declared included at (over (known_operand (option_map list_of s) span None ∷ os)))
    list_walks (base_then b bs) at os s span h =
        let into : List KnownOperand = known_operand (option_map list_of s) span None ∷ os in
        let t : Option Shape = base_shape declared scope b in
        let o : KnownOperand = base_operand declared scope b in
        let more : List KnownOperand = known_operand (option_map list_of (joined_with s t)) span None ∷ os in
        let p : ℕ = at + length (base_code b) in
        let c : List Instr = expr_list_push ∷ list_code bs in
        let k = last_part at (base_code b) c h in
        to_known declared included at (over into) _ _ (base_code b ++ c) (base_doubts declared scope b ++ bases_doubts declared scope bs) (ap (λ x. over (known_operand x span None ∷ os)) (list_more s t (bases_shapes declared scope bs)))
        (walk_then declared included at (over into) (over (o ∷ into)) (over (known_operand (list_with (joined_with s t) (bases_shapes declared scope bs)) span None ∷ os)) (base_code b) c (base_doubts declared scope b) (bases_doubts declared scope bs)
        (base_walks b at into (first_part at (base_code b) c h))
        (walk_then declared included p (over (o ∷ into)) (over more) _ (expr_list_push ∷ []) (list_code bs) [] (bases_doubts declared scope bs)
        (item_walks p os s t span o.place o.path (first_part p (expr_list_push ∷ []) (list_code bs) k))
        (list_walks bs (p + 1) os (joined_with s t) span (last_part p (expr_list_push ∷ []) (list_code bs) k))))

    -- into a map with such keys, if it is known with which
    map_walks : (items : Items) (at : ℕ) (os : List KnownOperand) (ks : Option Keys) (span : Span) → EndFrom (at + length (map_code items) + 1) opens
        → Puts at (known_operand (option_map map_of ks) span None ∷ os) (map_code items) (items_doubts declared scope items) (known_operand (option_map map_of (option_and_then (items_keys declared scope items) ks)) span None ∷ os)
    map_walks no_items at os ks span h =
        to_known declared included at _ _ _ [] [] (ap (λ x. over (known_operand (option_map map_of x) span None ∷ os)) (map_ended ks)) (walk_nothing declared included at (over (known_operand (option_map map_of ks) span None ∷ os)))
    map_walks (item_then key b items) at os ks span h =
        let into : List KnownOperand = known_operand (option_map map_of ks) span None ∷ os in
        let t : Option Shape = base_shape declared scope b in
        let o : KnownOperand = base_operand declared scope b in
        let more : List KnownOperand = known_operand (option_map map_of (keys_with key.text ks t)) span None ∷ os in
        let p : ℕ = at + length (base_code b) in
        let c : List Instr = expr_map_insert key ∷ map_code items in
        let k = last_part at (base_code b) c h in
        to_known declared included at (over into) _ _ (base_code b ++ c) (base_doubts declared scope b ++ items_doubts declared scope items) (ap (λ x. over (known_operand (option_map map_of x) span None ∷ os)) (map_more key.text ks t (items_keys declared scope items)))
        (walk_then declared included at (over into) (over (o ∷ into)) (over (known_operand (option_map map_of (option_and_then (items_keys declared scope items) (keys_with key.text ks t))) span None ∷ os)) (base_code b) c (base_doubts declared scope b) (items_doubts declared scope items)
        (base_walks b at into (first_part at (base_code b) c h))
        (walk_then declared included p (over (o ∷ into)) (over more) _ (expr_map_insert key ∷ []) (map_code items) [] (items_doubts declared scope items)
        (entry_walks p os key ks t span o.place o.path (first_part p (expr_map_insert key ∷ []) (map_code items) k))
        (map_walks items (p + 1) os (keys_with key.text ks t) span (last_part p (expr_map_insert key ∷ []) (map_code items) k))))
