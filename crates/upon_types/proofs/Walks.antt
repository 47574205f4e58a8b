-- The parts that are left of what a walk is inside of, when it goes into a list or a map, on in it and out of it.
use Rattle.std.proofs.Common.{◌≡◌, ◌+◌, ◌∙◌, ℕ, List, [], ◌∷◌, ◌++◌, Option, Some, None, is_some, Bor, Vec, BTreeMap, String, Global, true, false, sym, ap, take, get_or, length, append_assoc, append-nil, arith}
use Rattle.std.proofs.Math.ListN.{set}
use Rattle.std.proofs.lemmas.List.{take_more, length-set, take_more_set, take_all, take-set}
use Rattle.std.specs.Slice.Iter.{iter_rest}
use Rattle.std.specs.declared.slice.Iter.{Iter}
use Rattle.upon_types.specs.Val.{Val}
use Rattle.upon_types.specs.View.{view}
use Rattle.upon_types.specs.Walk.{ValuePart, list_begins, map_begins, parts_of_value}
use Rattle.upon_types.specs.Walked.{parts_of_next, parts_after, parts_of_rest, parts_in, parts_inside}
use Rattle.upon_types.specs.declared.value.Value.{Value, List as ListValue, Map as MapValue}
use Rattle.upon_types.specs.declared.value.walk.Inside.{Inside}
use Rattle.upon_types.specs.declared.value.walk.Rest.TheVariants.{List as ListRest, Map as MapRest}
use Rattle.upon_types.proofs.Views.{view-List, view-Map}

-- those of what a walk goes into come first
pub pieces_inside-push : (outer : List Inside) (inner : Inside) → parts_inside (outer ++ inner ∷ []) ≡ parts_in inner ++ parts_inside outer
pieces_inside-push [] inner = sym (append-nil (parts_in inner))
pieces_inside-push (i ∷ is) inner = rw (pieces_inside-push is inner, append_assoc)

-- those of the innermost, which is the `n`th, come first, and then those of the others
pub pieces_inside-last : (is : List Inside) (n : ℕ) (d : Inside) → n + 1 ≡ length is → parts_inside is ≡ parts_in (get_or is n d) ++ parts_inside (take n is)
pieces_inside-last is n d at =
    let parts : is ≡ take n is ++ get_or is n d ∷ [] = sym (take_all (n + 1) is (omega arith)) ∙ take_more is n d (omega arith) in
    ap parts_inside parts ∙ pieces_inside-push (take n is) (get_or is n d)

-- the same when the innermost has changed
pub pieces_inside-set : (is : List Inside) (n : ℕ) (inner : Inside) → n + 1 ≡ length is → parts_inside (set is n inner) ≡ parts_in inner ++ parts_inside (take n is)
pieces_inside-set is n inner at =
    let parts : set is n inner ≡ take n is ++ inner ∷ [] = sym (take_all (n + 1) (set is n inner) (omega (arith, length-set is n inner))) ∙ take_more_set is n inner (omega arith) in
    ap parts_inside parts ∙ pieces_inside-push (take n is) inner

-- a list begins, and then all its items are left
pub begins-List : (v : Value) (items : Vec Value Global) (rest : Iter Value) → v ≡ ListValue items → iter_rest rest ≡ items.items → parts_of_value (view v) ≡ list_begins ∷ parts_of_rest (ListRest rest) true
begins-List v items rest is all = rw (is, view-List, all)

-- a map begins, and then all its entries are left
pub begins-Map : (v : Value) (m : BTreeMap (String Global) Value) (rest : List (String Global × Value)) → v ≡ MapValue m → rest ≡ m.entries → parts_of_value (view v) ≡ map_begins ∷ parts_of_rest (MapRest rest) true
begins-Map v m rest is all = rw (is, view-Map, all)

-- a walk goes into the value that comes next
pub goes-in : (v : Val) (first : ValuePart) (next : Option (Bor Value)) (outer all : List Inside) (inner : Inside) → next ≡ None → parts_of_value v ≡ first ∷ parts_in inner → all ≡ outer ++ inner ∷ [] → parts_of_value v ++ (parts_of_next next ++ parts_inside outer) ≡ first ∷ (parts_of_next next ++ parts_inside all)
goes-in v first next outer all inner none begins pushed = rw (none, begins, pushed, pieces_inside-push)

-- a walk goes on in the innermost: the value of the item or entry that begins comes next
pub goes-on : (next after : Option (Bor Value)) (old all : List Inside) (n : ℕ) (before inner : Inside) (first : ValuePart) → next ≡ None → n + 1 ≡ length old → before ≡ get_or old n before → parts_in before ≡ first ∷ parts_after after inner → is_some after ≡ true → all ≡ set old n inner → parts_of_next next ++ parts_inside old ≡ first ∷ (parts_of_next after ++ parts_inside all)
goes-on next None old all n before inner first none at is_last step is_more set_there = cc
goes-on next (Some value) old all n before inner first none at is_last step is_more set_there =
    let parts : parts_inside old ≡ parts_in before ++ parts_inside (take n old) = rw (← is_last) at (pieces_inside-last old n before at) in
    rw (none, parts, step, set_there, pieces_inside-set old n inner at, append_assoc)

-- a walk goes out of the innermost, which ends
pub goes-out : (next after : Option (Bor Value)) (old all : List Inside) (n : ℕ) (before inner : Inside) (last : ValuePart) → next ≡ None → n + 1 ≡ length old → before ≡ get_or old n before → parts_in before ≡ last ∷ parts_after after inner → is_some after ≡ false → all ≡ take n (set old n inner) → parts_of_next next ++ parts_inside old ≡ last ∷ (parts_of_next after ++ parts_inside all)
goes-out next (Some value) old all n before inner last none at is_last step is_end popped = cc
goes-out next None old all n before inner last none at is_last step is_end popped =
    let parts : parts_inside old ≡ parts_in before ++ parts_inside (take n old) = rw (← is_last) at (pieces_inside-last old n before at) in
    rw (none, parts, step, popped, take-set)
