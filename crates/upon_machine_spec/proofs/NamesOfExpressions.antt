-- What is found in the programs of expressions is what the expressions say; these begin and end no block.
use Rattle.std.proofs.Common.{◌≡◌, ◌⊎◌, ◌↔◌, ℕ, List, [], ◌∷◌, ◌++◌, Bool, true, false, ◌||◌, bytes_eq, codes, inl, inr, refl, sym, ap, ◌∙◌}
use Rattle.std.specs.List.{list_any}
use Rattle.std.proofs.lemmas.List.Folds.{list_any-append}
use Rattle.std.proofs.lemmas.Slice.Eq.{bytes_eq-Decides}
use Rattle.upon_types.specs.Expression.{Expression, base, filtered, Base, var, literal, list, mapping, paren, call, Bases, no_bases, base_then, Items, no_items, item_then, Arguments, no_arguments, arguments}
use Rattle.upon_types.specs.Path.{Access, by_index, by_key, LoopVars, item, key_value}
use Rattle.upon_types.specs.BlockKinds.{for_tag, block_names}
use Rattle.upon_meaning_spec.specs.Needs.{Start, a_name, IsStart, OneHides, ExpressionBegins, BaseBegins, BasesBegin, ItemsBegin, ArgumentsBegin}
use Rattle.upon_machine_spec.specs.Code.{expression_code, base_code, bases_code, arguments_code, list_code, map_code, emission_code, base_emission_code}
use Rattle.upon_machine_spec.specs.Instr.{Instr, jump, emit, emit_with, loop_start, with_start, with_end, expr_start_var, expr_start_literal, expr_start_list, expr_start_map, expr_list_push, expr_map_insert, apply}
use Rattle.upon_machine_spec.specs.Instr.{include as enter, include_with as enter_with}
use Rattle.upon_machine_spec.specs.ProgramNames.{loop_binds, key_name, path_name, is_this, plain_include, any_include}
use Rattle.upon_machine_spec.proofs.Walks.{IsPlain, ArePlain, either, Walks, walk_plain}

-- an instruction of an expression
abbrev pub IsOperand : Instr → Type 0
IsOperand emit = Unit {0}
IsOperand (emit_with name n span) = Unit {0}
IsOperand (expr_start_var first rest) = Unit {0}
IsOperand (expr_start_literal v span) = Unit {0}
IsOperand (expr_start_list span) = Unit {0}
IsOperand (expr_start_map span) = Unit {0}
IsOperand expr_list_push = Unit {0}
IsOperand (expr_map_insert key) = Unit {0}
IsOperand (apply name n span) = Unit {0}
IsOperand i = ⊥

abbrev pub AreOperands : List Instr → Type 0
AreOperands [] = Unit {0}
AreOperands (i ∷ is) = IsOperand i × AreOperands is

pub also : (a b : List Instr) → AreOperands a → AreOperands b → AreOperands (a ++ b)
also [] b h k = k
also (i ∷ a) b h k = (h.0, also a b h.1 k)

mutual
  pub of_expression : (e : Expression) → AreOperands (expression_code e)
  of_expression (base b) = of_base b
  of_expression (filtered receiver name args span) = also (expression_code receiver) _ (of_expression receiver) (also (arguments_code args) _ (of_arguments args) (tt, tt))

  of_base : (b : Base) → AreOperands (base_code b)
  of_base (var first rest) = (tt, tt)
  of_base (literal v span) = (tt, tt)
  of_base (list bases span) = (tt, of_list bases)
  of_base (mapping items span) = (tt, of_map items)
  of_base (paren e span) = of_expression e
  of_base (call name args span) = also (arguments_code args) _ (of_arguments args) (tt, tt)

  of_bases : (bs : Bases) → AreOperands (bases_code bs)
  of_bases no_bases = tt
  of_bases (base_then b bs) = also (base_code b) _ (of_base b) (of_bases bs)

  of_arguments : (args : Arguments) → AreOperands (arguments_code args)
  of_arguments no_arguments = tt
  of_arguments (arguments bases span) = of_bases bases

  of_list : (bs : Bases) → AreOperands (list_code bs)
  of_list no_bases = tt
  of_list (base_then b bs) = also (base_code b) _ (of_base b) (tt, of_list bs)

  of_map : (items : Items) → AreOperands (map_code items)
  of_map no_items = tt
  of_map (item_then key b items) = also (base_code b) _ (of_base b) (tt, of_map items)

shown : (b : Base) → AreOperands (base_code b ++ (emit ∷ []))
shown b = also (base_code b) _ (of_base b) (tt, tt)

mutual
  pub of_emission : (e : Expression) → AreOperands (emission_code e)
  of_emission (base b) = of_base_emission b
  of_emission (filtered receiver name args span) = also (expression_code receiver) _ (of_expression receiver) (also (arguments_code args) _ (of_arguments args) (tt, tt))

  of_base_emission : (b : Base) → AreOperands (base_emission_code b)
  of_base_emission (paren e span) = of_emission e
  of_base_emission (call name args span) = also (arguments_code args) _ (of_arguments args) (tt, tt)
  of_base_emission (var first rest) = shown (var first rest)
  of_base_emission (literal v span) = shown (literal v span)
  of_base_emission (list bases span) = shown (list bases span)
  of_base_emission (mapping items span) = shown (mapping items span)

operand_plain : (i : Instr) → IsOperand i → IsPlain i
operand_plain (with_start word) h = h
operand_plain with_end h = h
operand_plain (loop_start names span) h = h
operand_plain (jump to) h = h
operand_plain _ h = tt

pub plain : (c : List Instr) → AreOperands c → ArePlain c
plain [] h = tt
plain (i ∷ c) h = (operand_plain i h.0, plain c h.1)

-- a name of an option is this one
pub this_name : (name word : List ℕ) → (bytes_eq name word ≡ true) ↔ (word ≡ name)
this_name name word = (λ e. sym ((bytes_eq-Decides name word).0 e), λ h. (bytes_eq-Decides name word).1 (sym h))

pub that_name : (word name : List ℕ) → (bytes_eq word name ≡ true) ↔ (word ≡ name)
that_name word name = ((bytes_eq-Decides word name).0, (bytes_eq-Decides word name).1)

pub none : (false ≡ true) ↔ ⊥
none = (λ e. absurd (cc), λ h. absurd h)

-- the last of some names is that name
pub last_name : (word name : List ℕ) → (bytes_eq word name ≡ true) ↔ OneHides (word ∷ []) (a_name name)
last_name word name = (λ e. inl ((that_name word name).0 e), λ h. that_one h)
  where
    that_one : OneHides (word ∷ []) (a_name name) → bytes_eq word name ≡ true
    that_one (inl same) = (that_name word name).1 same
    that_one (inr h) = absurd h

pub loop_names : (name : List ℕ) (names : LoopVars) → (loop_binds name names ≡ true) ↔ OneHides (block_names (for_tag names)) (a_name name)
loop_names name (item word) = either (bytes_eq (codes "loop") name) (bytes_eq word.text name) (that_name (codes "loop") name) (last_name word.text name)
loop_names name (key_value key value both) =
    either (bytes_eq (codes "loop") name) (bytes_eq key.text name || bytes_eq value.text name) (that_name (codes "loop") name)
    (either (bytes_eq key.text name) (bytes_eq value.text name) (that_name key.text name) (last_name value.text name))

-- what a test finds in one part or the other
module _ (f : Instr → Bool) where
  pub joined : (a b : List Instr) {P Q : Type 0} → ((list_any f a ≡ true) ↔ P) → ((list_any f b ≡ true) ↔ Q) → (list_any f (a ++ b) ≡ true) ↔ (P ⊎ Q)
  joined a b p q =
      let both = either (list_any f a) (list_any f b) p q in
      (λ e. both.0 (sym (list_any-append f a b) ∙ e), λ h. list_any-append f a b ∙ both.1 h)

  pub with_last : (a : List Instr) (i : Instr) {P : Type 0} → f i ≡ false → ((list_any f a ≡ true) ↔ P) → (list_any f (a ++ i ∷ []) ≡ true) ↔ P
  with_last a i {P} other p =
      let last : ((f i || false) ≡ true) ↔ ⊥ = (λ e. none.0 (sym (ap (λ x. x || false) other) ∙ e), λ h. absurd h) in
      let both = joined a (i ∷ []) p last in
      (λ e. first (both.0 e), λ h. both.1 (inl h))
    where
      first : P ⊎ ⊥ → P
      first (inl h) = h
      first (inr h) = absurd h

  pub after_none : (a b : List Instr) {Q : Type 0} → list_any f a ≡ false → ((list_any f b ≡ true) ↔ Q) → (list_any f (a ++ b) ≡ true) ↔ Q
  after_none a b nothing q =
      let same = list_any-append f a b ∙ ap (λ x. x || list_any f b) nothing in
      (λ e. q.0 (sym same ∙ e), λ h. same ∙ q.1 h)

-- where a name begins paths
module _ (name : List ℕ) where
  abbrev pub start : Start
  start = a_name name

  abbrev pub f : Instr → Bool
  f i = is_this name (path_name i)

  access_begins : (access : Access) → ((is_this name (key_name access) || false) ≡ true) ↔ IsStart start access
  access_begins (by_index n span) = none
  access_begins (by_key word) = let last = either (bytes_eq name word.text) false (this_name name word.text) none in (λ e. first (last.0 e), λ h. last.1 (inl h))
    where
      first : {P : Type 0} → P ⊎ ⊥ → P
      first (inl h) = h
      first (inr h) = absurd h

  mutual
    pub expression_begins : (e : Expression) → (list_any f (expression_code e) ≡ true) ↔ ExpressionBegins start e
    expression_begins (base b) = base_begins b
    expression_begins (filtered receiver g args span) = joined f (expression_code receiver) _ (expression_begins receiver) (with_last f (arguments_code args) _ refl (arguments_begin args))

    base_begins : (b : Base) → (list_any f (base_code b) ≡ true) ↔ BaseBegins start b
    base_begins (var first rest) = access_begins first.access
    base_begins (literal v span) = none
    base_begins (list bases span) = list_begins bases
    base_begins (mapping items span) = map_begins items
    base_begins (paren e span) = expression_begins e
    base_begins (call g args span) = with_last f (arguments_code args) _ refl (arguments_begin args)

    bases_begin : (bs : Bases) → (list_any f (bases_code bs) ≡ true) ↔ BasesBegin start bs
    bases_begin no_bases = none
    bases_begin (base_then b bs) = joined f (base_code b) (bases_code bs) (base_begins b) (bases_begin bs)

    arguments_begin : (args : Arguments) → (list_any f (arguments_code args) ≡ true) ↔ ArgumentsBegin start args
    arguments_begin no_arguments = none
    arguments_begin (arguments bases span) = bases_begin bases

    list_begins : (bs : Bases) → (list_any f (list_code bs) ≡ true) ↔ BasesBegin start bs
    list_begins no_bases = none
    list_begins (base_then b bs) = joined f (base_code b) (expr_list_push ∷ list_code bs) (base_begins b) (list_begins bs)

    map_begins : (items : Items) → (list_any f (map_code items) ≡ true) ↔ ItemsBegin start items
    map_begins no_items = none
    map_begins (item_then key b items) = joined f (base_code b) (expr_map_insert key ∷ map_code items) (base_begins b) (map_begins items)

  mutual
    pub emission_begins : (e : Expression) → (list_any f (emission_code e) ≡ true) ↔ ExpressionBegins start e
    emission_begins (base b) = base_emission_begins b
    emission_begins (filtered receiver g args span) = joined f (expression_code receiver) _ (expression_begins receiver) (with_last f (arguments_code args) _ refl (arguments_begin args))

    base_emission_begins : (b : Base) → (list_any f (base_emission_code b) ≡ true) ↔ BaseBegins start b
    base_emission_begins (paren e span) = emission_begins e
    base_emission_begins (call g args span) = with_last f (arguments_code args) _ refl (arguments_begin args)
    base_emission_begins (var first rest) = with_last f (base_code (var first rest)) emit refl (base_begins (var first rest))
    base_emission_begins (literal v span) = with_last f (base_code (literal v span)) emit refl (base_begins (literal v span))
    base_emission_begins (list bases span) = with_last f (base_code (list bases span)) emit refl (base_begins (list bases span))
    base_emission_begins (mapping items span) = with_last f (base_code (mapping items span)) emit refl (base_begins (mapping items span))

  pub in_value : (at : ℕ) (e : Expression) → Walks name f at (expression_code e) (ExpressionBegins start e)
  in_value at e = walk_plain name f at (expression_code e) (ExpressionBegins start e) (plain (expression_code e) (of_expression e)) (expression_begins e)

-- where includes hand a name on
module _ (via : List ℕ) where
  abbrev pub g : Instr → Bool
  g i = is_this via (plain_include i)

  operand_passes : (i : Instr) → IsOperand i → g i ≡ false
  operand_passes (enter word) h = absurd h
  operand_passes _ h = refl

  pub nothing_passes : (c : List Instr) → AreOperands c → list_any g c ≡ false
  nothing_passes [] h = refl
  nothing_passes (i ∷ c) h = ap (λ x. x || list_any g c) (operand_passes i h.0) ∙ nothing_passes c h.1

  operand_includes : (i : Instr) → IsOperand i → is_this via (any_include i) ≡ false
  operand_includes (enter word) h = absurd h
  operand_includes (enter_with word) h = absurd h
  operand_includes _ h = refl

  pub nothing_included : (c : List Instr) → AreOperands c → list_any (λ i. is_this via (any_include i)) c ≡ false
  nothing_included [] h = refl
  nothing_included (i ∷ c) h = ap (λ x. x || list_any (λ i. is_this via (any_include i)) c) (operand_includes i h.0) ∙ nothing_included c h.1
