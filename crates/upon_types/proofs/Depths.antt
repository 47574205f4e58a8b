-- How deep a value is, as the prover counts it, and whether it holds values.
use Rattle.std.proofs.Common.{◌≡◌, ◌⊎◌, inl, inr, ap, ◌++◌, ℕ, suc, ◌<◌, ◌≤◌, List, [], ◌∷◌, Bool, true, false, cond, String, Vec, BTreeMap, Global, refl, sym, ◌∙◌, subst, rules, arith, nat_lt, length, map, max, ℤ}
use denote.Param.Weighed.{most}
use Rattle.std.specs.BTreeMap.{values}
use Rattle.std.specs.Map.{values_of}
use Rattle.upon_types.specs.Weight.{holds, all_bare, IsMap, HasHolder}
use Rattle.upon_types.specs.Val.{Entries, map_val}
use Rattle.upon_types.specs.View.{view}
use Rattle.upon_types.proofs.Views.{view-Map}
use Rattle.upon_types.proofs.Weights.{holds-None, holds-Bool, holds-Integer, holds-String, holds-List, holds-Map}
use Rattle.upon_types.proofs.value.Value.TheLaws.{the_size}
use Rattle.upon_types.specs.declared.value.Value.{Value, None as NoneValue, Bool as BoolValue, Integer as IntegerValue, String as StringValue, List as ListValue, Map as MapValue, the_lemmas}
use Rattle.upon_types.specs.declared.value.Value.TheOpen.{Value-F}
use Rattle.upon_types.specs.declared.value.Value.TheViews.{out-Value, roll-Value, roll-out-Value, rolls-None, rolls-Bool, rolls-Integer, rolls-String, rolls-List, rolls-Map}

each_layer : (P : Value → Type 0) → P NoneValue → ((b : Bool) → P (BoolValue b)) → ((n : ℤ) → P (IntegerValue n)) → ((s : String Global) → P (StringValue s)) → ((items : Vec Value Global) → P (ListValue items)) → ((m : BTreeMap (String Global) Value) → P (MapValue m)) → (x : Value-F Value) → P (roll-Value x)
each_layer P none truth integer text list map Value-F.None = subst P (sym rolls-None) none
each_layer P none truth integer text list map (Value-F.Bool b) = subst P (sym (rolls-Bool b)) (truth b)
each_layer P none truth integer text list map (Value-F.Integer n) = subst P (sym (rolls-Integer n)) (integer n)
each_layer P none truth integer text list map (Value-F.String s) = subst P (sym (rolls-String s)) (text s)
each_layer P none truth integer text list map (Value-F.List items) = subst P (sym (rolls-List items)) (list items)
each_layer P none truth integer text list map (Value-F.Map m) = subst P (sym (rolls-Map m)) (map m)

-- what holds at each kind of value holds of each value
each_value : (P : Value → Type 0) → P NoneValue → ((b : Bool) → P (BoolValue b)) → ((n : ℤ) → P (IntegerValue n)) → ((s : String Global) → P (StringValue s)) → ((items : Vec Value Global) → P (ListValue items)) → ((m : BTreeMap (String Global) Value) → P (MapValue m)) → (x : Value) → P x
each_value P none truth integer text list map x = subst P (roll-out-Value x) (each_layer P none truth integer text list map (out-Value x))

pub depth-None : the_size NoneValue ≡ 1
depth-None = search (rules, the_lemmas)

pub depth-Bool : (b : Bool) → the_size (BoolValue b) ≡ 1
depth-Bool b = search (rules, the_lemmas)

pub depth-Integer : (n : ℤ) → the_size (IntegerValue n) ≡ 1
depth-Integer n = search (rules, the_lemmas)

pub depth-String : (s : String Global) → the_size (StringValue s) ≡ 1
depth-String s = search (rules, the_lemmas)

pub depth-List : (items : Vec Value Global) → the_size (ListValue items) ≡ suc (most the_size items.items)
depth-List items = search (rules, the_lemmas)

pub depth-Map : (m : BTreeMap (String Global) Value) → the_size (MapValue m) ≡ suc (most the_size (values m))
depth-Map m = search (rules, the_lemmas)

-- each value is one level deep at least
pub positive_depth : (v : Value) → 0 < the_size v
positive_depth = each_value (λ v. 0 < the_size v) (omega (arith, depth-None)) (λ b. omega (arith, depth-Bool b)) (λ n. omega (arith, depth-Integer n)) (λ s. omega (arith, depth-String s)) (λ items. omega (arith, depth-List items)) (λ m. omega (arith, depth-Map m))

most_of_some : (vs : List Value) → nat_lt 0 (length vs) ≡ true → 0 < most the_size vs
most_of_some [] some = absurd cc
most_of_some (v ∷ vs) some = omega (arith, positive_depth v)

most_of_none : (vs : List Value) → nat_lt 0 (length vs) ≡ false → most the_size vs ≡ 0
most_of_none [] none = refl
most_of_none (v ∷ vs) none = absurd (grind (arith, none))

most_of_values : (es : List (String Global × Value)) → nat_lt 0 (length es) ≡ true → 0 < most the_size (values_of es)
most_of_values [] some = absurd cc
most_of_values (e ∷ es) some = omega (arith, positive_depth e.1)

most_of_no_values : (es : List (String Global × Value)) → nat_lt 0 (length es) ≡ false → most the_size (values_of es) ≡ 0
most_of_no_values [] none = refl
most_of_no_values (e ∷ es) none = absurd (grind (arith, none))

-- a value that holds none is one level deep
pub bare_depth : (v : Value) → holds v ≡ false → the_size v ≤ 1
bare_depth = each_value (λ v. holds v ≡ false → the_size v ≤ 1) (λ _. omega (arith, depth-None)) (λ b _. omega (arith, depth-Bool b)) (λ n _. omega (arith, depth-Integer n)) (λ s _. omega (arith, depth-String s)) (λ items h. omega (arith, depth-List items, most_of_none items.items (sym (holds-List items) ∙ h))) (λ m h. omega (arith, depth-Map m, most_of_no_values m.entries (sym (holds-Map m) ∙ h)))

not_both : false ≡ true → ⊥
not_both e = absurd cc

-- one that holds a value is two levels deep at least
pub holder_depth : (v : Value) → holds v ≡ true → 1 < the_size v
holder_depth = each_value (λ v. holds v ≡ true → 1 < the_size v) (λ h. absurd (not_both (sym holds-None ∙ h))) (λ b h. absurd (not_both (sym (holds-Bool b) ∙ h))) (λ n h. absurd (not_both (sym (holds-Integer n) ∙ h))) (λ s h. absurd (not_both (sym (holds-String s) ∙ h))) (λ items h. omega (arith, depth-List items, most_of_some items.items (sym (holds-List items) ∙ h))) (λ m h. omega (arith, depth-Map m, most_of_values m.entries (sym (holds-Map m) ∙ h)))

next_bare : (v : Value) (n : ℕ) (b rest : Bool) → holds v ≡ b → cond b false rest ≡ true → (rest ≡ true → n ≤ 1) → max (the_size v) n ≤ 1
next_bare v n true rest is all later = absurd cc
next_bare v n false rest is all later = omega (arith, bare_depth v is, later all)

-- values of which none holds any are one level deep
pub all_bare_depth : (vs : List Value) → all_bare vs ≡ true → most the_size vs ≤ 1
all_bare_depth [] all = omega arith
all_bare_depth (v ∷ vs) all = next_bare v (most the_size vs) (holds v) (all_bare vs) refl all (all_bare_depth vs)

next_holder : (v : Value) (n : ℕ) (b rest : Bool) → holds v ≡ b → cond b false rest ≡ false → (rest ≡ false → 1 < n) → 1 < max (the_size v) n
next_holder v n true rest is some later = omega (arith, holder_depth v is)
next_holder v n false rest is some later = omega (arith, later some)

-- where one of them holds some, they are two levels deep at least
pub some_holder_depth : (vs : List Value) → all_bare vs ≡ false → 1 < most the_size vs
some_holder_depth [] some = absurd cc
some_holder_depth (v ∷ vs) some = next_holder v (most the_size vs) (holds v) (all_bare vs) refl some (some_holder_depth vs)

pub most_last : (vs : List Value) (v : Value) → the_size v ≤ most the_size (vs ++ v ∷ [])
most_last [] v = omega arith
most_last (w ∷ vs) v = omega (arith, most_last vs v)

-- a list with an item that holds a value is three levels deep at least
pub left_depth : (v left : Value) → IsMap left ⊎ HasHolder v → ((es : Entries) → view left ≡ map_val es → ⊥) → 2 < the_size v
left_depth v left (inl map) other = absurd (other _ (ap view map.1 ∙ view-Map map.0))
left_depth v left (inr list) other =
    let deep : 1 < most the_size list.0.items = some_holder_depth list.0.items list.2 in
    omega (arith, deep, depth-List list.0, ap the_size list.1)
