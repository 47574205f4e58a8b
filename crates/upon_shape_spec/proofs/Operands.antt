-- What is known of the operands that expressions put on others.
use Rattle.std.proofs.Common.{◌≡◌, ℕ, suc, List, [], ◌∷◌, length, Bool, true, false, Option, Some, None, option_and_then, option_map, refl, ap}
use Rattle.upon_types.specs.declared.types.Span.{Span}
use Rattle.upon_types.specs.Expression.{Expression, base, filtered, Base, var, literal, list, mapping, paren, call, Bases, no_bases, base_then, Arguments, no_arguments, arguments}
use Rattle.upon_types.specs.Path.{path_span}
use Rattle.upon_machine_spec.specs.Code.{count_bases, count}
use Rattle.upon_shape_spec.specs.Added.{with_item_shape, with_entry_shape}
use Rattle.upon_shape_spec.specs.Declared.{Declared}
use Rattle.upon_shape_spec.specs.ExpressionShapes.{join_onto, shape_then, expression_shape, base_shape, bases_shapes, arguments_shapes}
use Rattle.upon_shape_spec.specs.Join.{join_shapes}
use Rattle.upon_shape_spec.specs.Narrowed.{tested_scope}
use Rattle.upon_shape_spec.specs.Scope.{Scope}
use Rattle.upon_shape_spec.specs.Shape.{Shape, Keys, key_then, list_of, map_of, keys_without}
use Rattle.upon_shape_spec.specs.Known.{KnownPath, KnownOperand, known_operand, path_tested, both_shapes}
use Rattle.upon_shape_spec.specs.ProgramDoubts.{shapes_of}

-- where the value of an expression is, without its parentheses
abbrev mutual
  pub value_span : Expression → Span
  value_span (base b) = base_value_span b
  value_span (filtered receiver name args span) = span

  pub base_value_span : Base → Span
  base_value_span (var first rest) = path_span first rest
  base_value_span (literal v span) = span
  base_value_span (list bases span) = span
  base_value_span (mapping items span) = span
  base_value_span (paren e span) = value_span e
  base_value_span (call name args span) = span

-- the path that an expression is
abbrev mutual
  pub the_path : Expression → Option KnownPath
  the_path (base b) = base_path b
  the_path (filtered receiver name args span) = None

  pub base_path : Base → Option KnownPath
  base_path (var first rest) = Some (record { first = first; rest = rest })
  base_path (literal v span) = None
  base_path (list bases span) = None
  base_path (mapping items span) = None
  base_path (paren e span) = the_path e
  base_path (call name args span) = None

-- ---- tests
untested : (so : Bool) (scope : Scope) → path_tested so None scope ≡ scope
untested true scope = refl
untested false scope = refl

mutual
  true_path : (e : Expression) (scope : Scope) → path_tested true (the_path e) scope ≡ tested_scope true e scope
  true_path (base b) scope = true_base b scope
  true_path (filtered receiver name args span) scope = refl

  true_base : (b : Base) (scope : Scope) → path_tested true (base_path b) scope ≡ tested_scope true (base b) scope
  true_base (var first rest) scope = refl
  true_base (literal v span) scope = refl
  true_base (list bases span) scope = refl
  true_base (mapping items span) scope = refl
  true_base (paren e span) scope = true_path e scope
  true_base (call name args span) scope = refl

pub tested : (so : Bool) (e : Expression) (scope : Scope) → path_tested so (the_path e) scope ≡ tested_scope so e scope
tested true e scope = true_path e scope
tested false e scope = refl

module _ (declared : Declared) (scope : Scope) where
  abbrev pub operand_of : Expression → KnownOperand
  operand_of e = known_operand (expression_shape declared scope e) (value_span e) (the_path e)

  abbrev pub base_operand : Base → KnownOperand
  base_operand b = known_operand (base_shape declared scope b) (base_value_span b) (base_path b)

  abbrev pub bases_operands : Bases → List KnownOperand
  bases_operands no_bases = []
  bases_operands (base_then b bs) = base_operand b ∷ bases_operands bs

  abbrev pub arguments_operands : Arguments → List KnownOperand
  arguments_operands no_arguments = []
  arguments_operands (arguments bases span) = bases_operands bases

  -- ---- arguments
  bases_counted : (bs : Bases) → length (bases_operands bs) ≡ count_bases bs
  bases_counted no_bases = refl
  bases_counted (base_then b bs) = ap suc (bases_counted bs)

  pub counted : (args : Arguments) → length (arguments_operands args) ≡ count args
  counted no_arguments = refl
  counted (arguments bases span) = bases_counted bases

  bases_shaped : (bs : Bases) → shapes_of (bases_operands bs) ≡ bases_shapes declared scope bs
  bases_shaped no_bases = refl
  bases_shaped (base_then b bs) = ap (shape_then (base_shape declared scope b)) (bases_shaped bs)

  pub shaped : (args : Arguments) → shapes_of (arguments_operands args) ≡ arguments_shapes declared scope args
  shaped no_arguments = refl
  shaped (arguments bases span) = bases_shaped bases

-- ---- lists
-- a list of items of this shape, with others joined, if these and it are known
abbrev pub list_with : Option Shape → Option (List Shape) → Option Shape
list_with None shapes = None
list_with (Some s) None = None
list_with (Some s) (Some shapes) = Some (list_of (join_onto s shapes))

pub list_begun : (shapes : Option (List Shape)) (s : Shape) → list_with (Some s) shapes ≡ option_map (λ shapes. list_of (join_onto s shapes)) shapes
list_begun None s = refl
list_begun (Some shapes) s = refl

-- the items so far, joined, and one more
abbrev pub joined_with : Option Shape → Option Shape → Option Shape
joined_with s t = both_shapes join_shapes s t

pub item_put : (s t : Option Shape) → both_shapes with_item_shape (option_map list_of s) t ≡ option_map list_of (joined_with s t)
item_put None t = refl
item_put (Some s) None = refl
item_put (Some s) (Some t) = refl

pub list_ended : (s : Option Shape) → option_map list_of s ≡ list_with s (Some [])
list_ended None = refl
list_ended (Some s) = refl

pub list_more : (s t : Option Shape) (shapes : Option (List Shape)) → list_with (joined_with s t) shapes ≡ list_with s (shape_then t shapes)
list_more None t shapes = refl
list_more (Some s) None shapes = refl
list_more (Some s) (Some t) None = refl
list_more (Some s) (Some t) (Some shapes) = refl

-- ---- maps
-- keys so far, if they are known, with this at a key
abbrev pub keys_with : List ℕ → Option Keys → Option Shape → Option Keys
keys_with key None s = None
keys_with key (Some ks) None = None
keys_with key (Some ks) (Some s) = Some (key_then key true s (keys_without key ks))

pub entry_put : (key : List ℕ) (ks : Option Keys) (s : Option Shape) → both_shapes (with_entry_shape key) (option_map map_of ks) s ≡ option_map map_of (keys_with key ks s)
entry_put key None s = refl
entry_put key (Some ks) None = refl
entry_put key (Some ks) (Some s) = refl

pub map_ended : (ks : Option Keys) → ks ≡ option_and_then (λ ks. Some ks) ks
map_ended None = refl
map_ended (Some ks) = refl

pub map_more : (key : List ℕ) (ks : Option Keys) (s : Option Shape) (keys : Keys → Option Keys) → option_and_then keys (keys_with key ks s) ≡ option_and_then (λ ks. option_and_then (λ s. keys (key_then key true s (keys_without key ks))) s) ks
map_more key None s keys = refl
map_more key (Some ks) None keys = refl
map_more key (Some ks) (Some s) keys = refl
