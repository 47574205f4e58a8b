-- What reading JSON has made, a token at a time: single values, and lists and objects up to some of their parts.
use Rattle.std.proofs.Common.{◌≡◌, ℕ, zero, ◌+◌, ◌-◌, ◌<◌, ◌≤◌, List, [], ◌∷◌, ◌++◌, length, Bool, Option, None, Some, refl, sym, ap, subst, ◌∙◌, arith}
use Rattle.json.specs.Token.{Token}
use Rattle.json.specs.Json.{Json, array, object, Items, item, Members, member, parse_map, after_end_array, read_key, items, members, value}
use Rattle.json.proofs.Grammar.{value_is, value-begin_array, value-begin_object, items_end, items_fail, items_more, members_end, members_no_key, members_fail, members_more}
use Rattle.upon_types.specs.Val.{Val, none_val, bool_val, text_val, list_val, map_val, Vals, no_vals, val_then, Entries, no_entries}
use Rattle.upon_types.specs.View.{view, vals_view}
use Rattle.upon_types.specs.declared.value.Value.{Value}
use Rattle.upon_json.specs.Reads.{reads, reads_items, reads_members}
use Rattle.upon_json.specs.Value.{number_val, value_of_json, items_values, members_over, put}

-- ---- a value of one token
pub reads-null : (depth : ℕ) (ts : List Token) → reads depth (Token.null ∷ ts) ≡ Some (none_val, ts)
reads-null depth ts = ap (parse_map value_of_json) (value_is depth (Token.null ∷ ts))

pub reads-boolean : (depth : ℕ) (b : Bool) (ts : List Token) → reads depth (Token.boolean b ∷ ts) ≡ Some (bool_val b, ts)
reads-boolean depth b ts = ap (parse_map value_of_json) (value_is depth (Token.boolean b ∷ ts))

pub reads-number : (depth : ℕ) (text : List ℕ) (ts : List Token) → reads depth (Token.number text ∷ ts) ≡ Some (number_val text, ts)
reads-number depth text ts = ap (parse_map value_of_json) (value_is depth (Token.number text ∷ ts))

pub reads-string : (depth : ℕ) (text : List ℕ) (ts : List Token) → reads depth (Token.string text ∷ ts) ≡ Some (text_val text, ts)
reads-string depth text ts = ap (parse_map value_of_json) (value_is depth (Token.string text ∷ ts))

pub reads-nothing : (depth : ℕ) → reads depth [] ≡ None
reads-nothing depth = ap (parse_map value_of_json) (value_is depth [])

-- ---- a list and an object
abbrev in_list : Option (Vals × List Token) → Option (Val × List Token)
in_list r = parse_map list_val r

abbrev in_map : Option (Entries × List Token) → Option (Val × List Token)
in_map r = parse_map map_val r

turned : {A B C D : Type 0} (f : A → B) (g : B → D) (h : A → C) (k : C → D) (r : Option (A × List Token)) → ((a : A) → g (f a) ≡ k (h a)) → parse_map g (parse_map f r) ≡ parse_map k (parse_map h r)
turned f g h k None same = refl
turned f g h k (Some p) same = ap (λ d. Some (d, p.1)) (same p.0)

pub reads-begin_array : (depth inner : ℕ) (ts : List Token) → depth ≡ inner + 1 → reads depth (Token.begin_array ∷ ts) ≡ in_list (reads_items inner ts)
reads-begin_array depth inner ts deeper =
    let some : 0 < depth = omega arith in
    let less : depth - 1 ≡ inner = omega arith in
    ap (parse_map value_of_json) (value-begin_array depth ts some ∙ ap (λ d. parse_map array (items (value d) (length ts) ts)) less)
    ∙ turned array value_of_json items_values list_val (items (value inner) (length ts) ts) (λ js. refl)

pub reads-begin_object : (depth inner : ℕ) (ts : List Token) → depth ≡ inner + 1 → reads depth (Token.begin_object ∷ ts) ≡ in_map (reads_members inner ts)
reads-begin_object depth inner ts deeper =
    let some : 0 < depth = omega arith in
    let less : depth - 1 ≡ inner = omega arith in
    ap (parse_map value_of_json) (value-begin_object depth ts some ∙ ap (λ d. parse_map object (members (value d) (length ts) ts)) less)
    ∙ turned object value_of_json (λ ms. members_over ms no_entries) map_val (members (value inner) (length ts) ts) (λ ms. refl)

pub reads-array-too_deep : (depth : ℕ) (ts : List Token) → depth ≡ 0 → reads depth (Token.begin_array ∷ ts) ≡ None
reads-array-too_deep depth ts none = ap (λ d. reads d (Token.begin_array ∷ ts)) none ∙ ap (parse_map value_of_json) (value_is zero (Token.begin_array ∷ ts))

pub reads-object-too_deep : (depth : ℕ) (ts : List Token) → depth ≡ 0 → reads depth (Token.begin_object ∷ ts) ≡ None
reads-object-too_deep depth ts none = ap (λ d. reads d (Token.begin_object ∷ ts)) none ∙ ap (parse_map value_of_json) (value_is zero (Token.begin_object ∷ ts))

-- ---- the JSON behind what was read
abbrev IsNone : {A : Type 0} → Option A → Type 0
IsNone None = Unit {0}
IsNone (Some a) = ⊥

unmapped : {A B : Type 0} (f : A → B) (r : Option (A × List Token)) → parse_map f r ≡ None → r ≡ None
unmapped f None none = refl
unmapped f (Some p) none = absurd (subst IsNone (sym none) tt)

abbrev or_given : {A : Type 0} → A → Option A → A
or_given a None = a
or_given a (Some b) = b

mapped : {A B : Type 0} (f : A → B) (r : Option (A × List Token)) (b : B) (ts : List Token) → parse_map f r ≡ Some (b, ts) → (a : A) × (r ≡ Some (a, ts)) × (f a ≡ b)
mapped f None b ts is = absurd (subst IsNone is tt)
mapped f (Some p) b ts is =
    let same = ap (or_given (f p.0, p.1)) is in
    (p.0, ap (λ rest. Some (p.0, rest)) (ap (λ q. q.1) same), ap (λ q. q.0) same)

-- ---- a list, as far as it was read
abbrev vals_joined : Vals → Vals → Vals
vals_joined no_vals ws = ws
vals_joined (val_then v vs) ws = val_then v (vals_joined vs ws)

vals_joined-none : (vs : Vals) → vals_joined vs no_vals ≡ vs
vals_joined-none no_vals = refl
vals_joined-none (val_then v vs) = ap (val_then v) (vals_joined-none vs)

vals_joined-next : (vs : List Value) (v : Value) (ws : Vals) → vals_joined (vals_view vs) (val_then (view v) ws) ≡ vals_joined (vals_view (vs ++ v ∷ [])) ws
vals_joined-next [] v ws = refl
vals_joined-next (w ∷ vs) v ws = ap (val_then (view w)) (vals_joined-next vs v ws)

-- what the tokens hold of a list of which these values were read, in as many turns at most
abbrev pub list_from : List Value → ℕ → ℕ → List Token → Option (Vals × List Token)
list_from vs depth turns ts = parse_map (λ js. vals_joined (vals_view vs) (items_values js)) (items (value depth) turns ts)

joined_next : (vs : List Value) (v : Value) (j : Json) (r : Option (Items × List Token)) → value_of_json j ≡ view v
    → parse_map (λ js. vals_joined (vals_view vs) (items_values js)) (parse_map (item j) r) ≡ parse_map (λ js. vals_joined (vals_view (vs ++ v ∷ [])) (items_values js)) r
joined_next vs v j None is = refl
joined_next vs v j (Some p) is = ap (λ ws. Some (ws, p.1)) (ap (λ w. vals_joined (vals_view vs) (val_then w (items_values p.0))) is ∙ vals_joined-next vs v (items_values p.0))

pub list_next : (vs : List Value) (v : Value) (depth turns : ℕ) (ts rest : List Token) → 0 < turns → after_end_array ts ≡ None → reads depth ts ≡ Some (view v, rest)
    → list_from vs depth turns ts ≡ list_from (vs ++ v ∷ []) depth (turns - 1) rest
list_next vs v depth turns ts rest some more is =
    let json = mapped value_of_json (value depth ts) (view v) rest is in
    ap (parse_map (λ js. vals_joined (vals_view vs) (items_values js))) (items_more (value depth) turns ts rest json.0 some more json.1)
    ∙ joined_next vs v json.0 (items (value depth) (turns - 1) rest) json.2

pub list_stops : (vs : List Value) (depth turns : ℕ) (ts : List Token) → after_end_array ts ≡ None → reads depth ts ≡ None → list_from vs depth turns ts ≡ None
list_stops vs depth turns ts more none =
    ap (parse_map (λ js. vals_joined (vals_view vs) (items_values js))) (items_fail (value depth) turns ts more (unmapped value_of_json (value depth ts) none))

pub list_ends : (vs : List Value) (depth turns : ℕ) (ts rest : List Token) → length ts ≤ turns → after_end_array ts ≡ Some rest → list_from vs depth turns ts ≡ Some (vals_view vs, rest)
list_ends vs depth turns ts rest enough ends =
    ap (parse_map (λ js. vals_joined (vals_view vs) (items_values js))) (items_end (value depth) turns ts rest enough ends) ∙ ap (λ ws. Some (ws, rest)) (vals_joined-none (vals_view vs))

-- ---- an object, as far as it was read
abbrev pub map_from : Entries → ℕ → ℕ → List Token → Option (Entries × List Token)
map_from es depth turns ts = parse_map (λ ms. members_over ms es) (members (value depth) turns ts)

put_next : (es : Entries) (k : List ℕ) (v : Val) (j : Json) (r : Option (Members × List Token)) → value_of_json j ≡ v
    → parse_map (λ ms. members_over ms es) (parse_map (member k j) r) ≡ parse_map (λ ms. members_over ms (put k v es)) r
put_next es k v j None is = refl
put_next es k v j (Some p) is = ap (λ w. Some (members_over p.0 (put k w es), p.1)) is

pub map_next : (es : Entries) (k : List ℕ) (v : Val) (depth turns : ℕ) (ts after rest : List Token) → 0 < turns → read_key ts ≡ Some (Some k, after) → reads depth after ≡ Some (v, rest)
    → map_from es depth turns ts ≡ map_from (put k v es) depth (turns - 1) rest
map_next es k v depth turns ts after rest some key is =
    let json = mapped value_of_json (value depth after) v rest is in
    ap (parse_map (λ ms. members_over ms es)) (members_more (value depth) turns k ts after rest json.0 some key json.1)
    ∙ put_next es k v json.0 (members (value depth) (turns - 1) rest) json.2

pub map_stops : (es : Entries) (k : List ℕ) (depth turns : ℕ) (ts after : List Token) → read_key ts ≡ Some (Some k, after) → reads depth after ≡ None → map_from es depth turns ts ≡ None
map_stops es k depth turns ts after key none =
    ap (parse_map (λ ms. members_over ms es)) (members_fail (value depth) turns k ts after key (unmapped value_of_json (value depth after) none))

pub map_lacks_key : (es : Entries) (depth turns : ℕ) (ts : List Token) → read_key ts ≡ None → map_from es depth turns ts ≡ None
map_lacks_key es depth turns ts none = ap (parse_map (λ ms. members_over ms es)) (members_no_key (value depth) turns ts none)

pub map_ends : (es : Entries) (depth turns : ℕ) (ts rest : List Token) → length ts ≤ turns → read_key ts ≡ Some (None, rest) → map_from es depth turns ts ≡ Some (es, rest)
map_ends es depth turns ts rest enough ends = ap (parse_map (λ ms. members_over ms es)) (members_end (value depth) turns ts rest enough ends)
