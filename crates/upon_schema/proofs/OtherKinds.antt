-- Values that are not of a kind.
use Rattle.std.proofs.Common.{◌≡◌, ℤ, Bool, false, String, Vec, BTreeMap, Global, refl, sym, ap, subst}
use Rattle.upon_types.specs.View.{view}
use Rattle.upon_types.specs.declared.value.Value.{Value, None as NoneValue, Bool as BoolValue, Integer as IntegerValue, String as StringValue, List as ListValue, Map as MapValue}
use Rattle.upon_types.specs.declared.value.Value.TheOpen.{Value-F}
use Rattle.upon_types.specs.declared.value.Value.TheViews.{out-Value, roll-Value, roll-out-Value, rolls-None, rolls-Bool, rolls-Integer, rolls-String, rolls-List, rolls-Map}
use Rattle.upon_types.proofs.Views.{view-None, view-Bool, view-Integer, view-String, view-List, view-Map}
use Rattle.upon_schema.specs.Refused.{is_list, is_map, is_bool, is_type, is_type_or_types, is_list_of_texts}

each_layer : (P : Value → Type 0) → P NoneValue → ((b : Bool) → P (BoolValue b)) → ((n : ℤ) → P (IntegerValue n)) → ((s : String Global) → P (StringValue s)) → ((vs : Vec Value Global) → P (ListValue vs))
    → ((m : BTreeMap (String Global) Value) → P (MapValue m)) → (f : Value-F Value) → P (roll-Value f)
each_layer P none truth integer text list map Value-F.None = subst P (sym rolls-None) none
each_layer P none truth integer text list map (Value-F.Bool b) = subst P (sym (rolls-Bool b)) (truth b)
each_layer P none truth integer text list map (Value-F.Integer n) = subst P (sym (rolls-Integer n)) (integer n)
each_layer P none truth integer text list map (Value-F.String s) = subst P (sym (rolls-String s)) (text s)
each_layer P none truth integer text list map (Value-F.List vs) = subst P (sym (rolls-List vs)) (list vs)
each_layer P none truth integer text list map (Value-F.Map m) = subst P (sym (rolls-Map m)) (map m)

pub each_value : (P : Value → Type 0) → P NoneValue → ((b : Bool) → P (BoolValue b)) → ((n : ℤ) → P (IntegerValue n)) → ((s : String Global) → P (StringValue s)) → ((vs : Vec Value Global) → P (ListValue vs))
    → ((m : BTreeMap (String Global) Value) → P (MapValue m)) → (x : Value) → P x
each_value P none truth integer text list map x = subst P (roll-out-Value x) (each_layer P none truth integer text list map (out-Value x))

pub not_type : (x : Value) → ((s : String Global) → x ≡ StringValue s → ⊥) → is_type (view x) ≡ false
not_type =
    each_value (λ x. ((s : String Global) → x ≡ StringValue s → ⊥) → is_type (view x) ≡ false)
    (λ other. ap is_type view-None) (λ b other. ap is_type (view-Bool b)) (λ n other. ap is_type (view-Integer n)) (λ s other. absurd (other s refl)) (λ vs other. ap is_type (view-List vs)) (λ m other. ap is_type (view-Map m))

pub not_list : (x : Value) → ((vs : Vec Value Global) → x ≡ ListValue vs → ⊥) → is_list (view x) ≡ false
not_list =
    each_value (λ x. ((vs : Vec Value Global) → x ≡ ListValue vs → ⊥) → is_list (view x) ≡ false)
    (λ other. ap is_list view-None) (λ b other. ap is_list (view-Bool b)) (λ n other. ap is_list (view-Integer n)) (λ s other. ap is_list (view-String s)) (λ vs other. absurd (other vs refl)) (λ m other. ap is_list (view-Map m))

pub not_map : (x : Value) → ((m : BTreeMap (String Global) Value) → x ≡ MapValue m → ⊥) → is_map (view x) ≡ false
not_map =
    each_value (λ x. ((m : BTreeMap (String Global) Value) → x ≡ MapValue m → ⊥) → is_map (view x) ≡ false)
    (λ other. ap is_map view-None) (λ b other. ap is_map (view-Bool b)) (λ n other. ap is_map (view-Integer n)) (λ s other. ap is_map (view-String s)) (λ vs other. ap is_map (view-List vs)) (λ m other. absurd (other m refl))

pub not_types : (x : Value) → ((s : String Global) → x ≡ StringValue s → ⊥) → ((vs : Vec Value Global) → x ≡ ListValue vs → ⊥) → is_type_or_types (view x) ≡ false
not_types =
    each_value (λ x. ((s : String Global) → x ≡ StringValue s → ⊥) → ((vs : Vec Value Global) → x ≡ ListValue vs → ⊥) → is_type_or_types (view x) ≡ false)
    (λ other neither. ap is_type_or_types view-None) (λ b other neither. ap is_type_or_types (view-Bool b)) (λ n other neither. ap is_type_or_types (view-Integer n)) (λ s other neither. absurd (other s refl)) (λ vs other neither. absurd (neither vs refl)) (λ m other neither. ap is_type_or_types (view-Map m))

pub not_bool : (x : Value) → ((b : Bool) → x ≡ BoolValue b → ⊥) → is_bool (view x) ≡ false
not_bool =
    each_value (λ x. ((b : Bool) → x ≡ BoolValue b → ⊥) → is_bool (view x) ≡ false)
    (λ other. ap is_bool view-None) (λ b other. absurd (other b refl)) (λ n other. ap is_bool (view-Integer n)) (λ s other. ap is_bool (view-String s)) (λ vs other. ap is_bool (view-List vs)) (λ m other. ap is_bool (view-Map m))

pub not_texts : (x : Value) → ((vs : Vec Value Global) → x ≡ ListValue vs → ⊥) → is_list_of_texts (view x) ≡ false
not_texts =
    each_value (λ x. ((vs : Vec Value Global) → x ≡ ListValue vs → ⊥) → is_list_of_texts (view x) ≡ false)
    (λ other. ap is_list_of_texts view-None) (λ b other. ap is_list_of_texts (view-Bool b)) (λ n other. ap is_list_of_texts (view-Integer n)) (λ s other. ap is_list_of_texts (view-String s)) (λ vs other. absurd (other vs refl)) (λ m other. ap is_list_of_texts (view-Map m))
