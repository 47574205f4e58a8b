-- What a value denotes, one level at a time, and what a look-up in its entries finds.
use Rattle.std.proofs.Common.{◌≡◌, ℕ, List, [], ◌∷◌, Option, Some, None, option_map, Bool, true, false, cond, String, Vec, BTreeMap, Global, Bor, string_bytes, nat_cmp, refl, rules}
use Rattle.std.proofs.lemmas.Map.Text.{is_eq-slice_cmp}
use Rattle.std.specs.BTreeMap.{is_at}
use Rattle.std.specs.Cmp.Lexicographic.{slice_cmp}
use Rattle.std.specs.Map.{lookup}
use Rattle.upon_types.specs.Val.{Val, none_val, bool_val, int_val, text_val, list_val, map_val, entry_at}
use Rattle.upon_types.specs.View.{view, vals_view, entries_view}
use Rattle.upon_types.specs.declared.value.Value.{Value, None as NoneValue, Bool as BoolValue, Integer as IntegerValue, String as StringValue, List as ListValue, Map as MapValue, the_lemmas}

-- ---- one level
pub view-None : view NoneValue ≡ none_val
view-None = search (rules, the_lemmas)

pub view-Bool : (b : Bool) → view (BoolValue b) ≡ bool_val b
view-Bool b = search (rules, the_lemmas)

pub view-Integer : (n : _) → view (IntegerValue n) ≡ int_val n
view-Integer n = search (rules, the_lemmas)

pub view-String : (s : String Global) → view (StringValue s) ≡ text_val (string_bytes s)
view-String s = search (rules, the_lemmas)

pub view-List : (items : Vec Value Global) → view (ListValue items) ≡ list_val (vals_view items.items)
view-List items = search (rules, the_lemmas)

pub view-Map : (m : BTreeMap (String Global) Value) → view (MapValue m) ≡ map_val (entries_view m.entries)
view-Map m = search (rules, the_lemmas)

pub ruleset views = (view-None, view-Bool, view-Integer, view-String, view-List, view-Map)

-- ---- look-ups
abbrev pub Entry : Type 0
Entry = String Global × Value

found_or_later : (here : Bool) (v : Value) (later : Option Value) (d : Option Val) → option_map view later ≡ d → option_map view (cond here (Some v) later) ≡ cond here (Some (view v)) d
found_or_later true v later d is = refl
found_or_later false v later d is = is

-- what the library's look-up by a text finds is what is at that key
pub view-lookup : (key : List ℕ) (es : List Entry) → option_map view (lookup (is_at (λ k. slice_cmp nat_cmp key (string_bytes k))) es) ≡ entry_at key (entries_view es)
view-lookup key [] = refl
view-lookup key (e ∷ es) = rw is_eq-slice_cmp (found_or_later _ _ _ _ (view-lookup key es))

-- lent values denote what they point to
pub view-lent : (found : Option (Bor Value)) → option_map (λ v. view v.now) found ≡ option_map view (option_map (λ v. v.now) found)
view-lent None = refl
view-lent (Some v) = refl
