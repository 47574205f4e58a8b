-- How many schemas are read, step by step.
use Rattle.std.proofs.Common.{◌≡◌, ◌⊎◌, inl, inr, ◌+◌, ◌<◌, ◌++◌, ℕ, zero, suc, List, [], ◌∷◌, codes, Bool, false, Option, Some, None, Result, Ok, Err, IfOk, IfErr, IsErrAnd, Bor, map, refl, sym, ap, ◌∙◌, arith, if◌then◌else◌}
use Rattle.upon_types.specs.Val.{Val, bool_val, text_val, Entries, entry_then, key_of}
use Rattle.upon_types.specs.View.{view}
use Rattle.upon_types.specs.declared.value.Value.{Value}
use Rattle.upon_shape_spec.specs.Wider.{is_listed}
use Rattle.upon_schema.specs.Counted.{count_entries, count_inside, count_keywords, count_there, count_reference, referred_in, schemas_read}
use Rattle.upon_schema.specs.Place.{count_at, references_at}
use Rattle.upon_schema.specs.Refusal.{Refusal, refusal, unknown_keyword, wrong_value, no_definition, too_deep, too_large, out_of_memory, behind, SaysRefusal, IsCounted}
use Rattle.upon_schema.specs.Refused.{is_bool}
use Rattle.upon_schema.specs.declared.fault.SchemaFault.{SchemaFault}
use Rattle.upon_schema.specs.declared.place.Place.{Place}

-- ---- faults
pub handed_count : {A : Type 0} (f : SchemaFault) (r : Result A SchemaFault) (left rest count : ℕ) → IsErrAnd r (λ x. x ≡ f) → (refusal f ≡ too_large → left < count) → IsCounted r left rest count
handed_count f (Ok a) left rest count is more = absurd is
handed_count f (Err x) left rest count is more = λ e. more (sym (ap refusal is) ∙ e)

large_inside : (begin : List ℕ) (r : Refusal) → behind begin r ≡ too_large → r ≡ too_large
large_inside begin (unknown_keyword path) e = absurd (cc)
large_inside begin (wrong_value path) e = absurd (cc)
large_inside begin (no_definition path) e = absurd (cc)
large_inside begin too_deep e = absurd (cc)
large_inside begin too_large e = refl
large_inside begin out_of_memory e = absurd (cc)

memory_large : (r : Refusal) → r ≡ out_of_memory → r ≡ too_large → ⊥
memory_large r e d = cc

-- a fault that is put behind a step says that there are too many if it did before
pub says_large : (begin : List ℕ) (r : Refusal) (f : SchemaFault) → SaysRefusal (behind begin r) f → refusal f ≡ too_large → r ≡ too_large
says_large begin r f (inl e) d = large_inside begin r (sym e ∙ d)
says_large begin r f (inr e) d = absurd (memory_large (refusal f) e d)

pub says_not_large : (r : Refusal) (f : SchemaFault) → (r ≡ too_large → ⊥) → SaysRefusal r f → refusal f ≡ too_large → ⊥
says_not_large r f other (inl e) d = other (sym e ∙ d)
says_not_large r f other (inr e) d = memory_large (refusal f) e d

pub wrong_is_not_large : (path : List ℕ) → wrong_value path ≡ too_large → ⊥
wrong_is_not_large path e = cc

pub none_is_not_large : (path : List ℕ) → no_definition path ≡ too_large → ⊥
none_is_not_large path e = cc

-- ---- one schema
pub counted_more : {A : Type 0} (r : Result A SchemaFault) (all left rest count more : ℕ) → all ≡ left + 1 → more ≡ count + 1 → IsCounted r left rest count → IsCounted r all rest more
counted_more (Ok a) all left rest count more e f h = omega (arith, e, f, h)
counted_more (Err x) all left rest count more e f h = λ large. omega (arith, e, f, h large)

next : (depth inner : ℕ) → depth ≡ inner + 1 → depth ≡ suc inner
next depth inner e = omega (arith, e)

turned : (n : ℕ) → 1 + n ≡ n + 1
turned n = omega arith

-- what is read here is the schema and what is read inside it
pub read_count : (depth inner : ℕ) (root schema : Val) (opened : List (List ℕ)) (o : Option Val) → depth ≡ inner + 1 → o ≡ key_of (codes "$ref") schema → schemas_read depth root opened schema ≡ count_inside (schemas_read inner root) root opened schema o + 1
read_count depth inner root schema opened o e at =
    ap (λ (d : ℕ). schemas_read d root opened schema) (next depth inner e) ∙ ap (λ (x : Option Val). 1 + count_inside (schemas_read inner root) root opened schema x) (sym at)
    ∙ turned (count_inside (schemas_read inner root) root opened schema o)

pub some_read : (depth : ℕ) (root schema : Val) (opened : List (List ℕ)) → 0 < depth → 0 < schemas_read depth root opened schema
some_read zero root schema opened h = absurd (omega (arith, h))
some_read (suc depth) root schema opened h = omega arith

pub inner_count : (count : List (List ℕ) → Val → ℕ) (root v s : Val) (opened more : List (List ℕ)) (reference : List ℕ) → v ≡ text_val reference → is_listed reference opened ≡ false → Some s ≡ referred_in root reference → more ≡ opened ++ reference ∷ []
    → count_reference count root opened v ≡ count more s
inner_count count root v s opened more reference is listed to same =
    ap (count_reference count root opened) is ∙ ap (λ (b : Bool). if b then 0 else count_there (count (opened ++ reference ∷ [])) (referred_in root reference)) listed
    ∙ ap (count_there (count (opened ++ reference ∷ []))) (sym to) ∙ ap (λ (xs : List (List ℕ)). count xs s) (sym same)

pub read_count_at : (place inner : Place) (schema : Val) (o : Option Val) → place.depth ≡ inner.depth + 1 → inner.root ≡ place.root → inner.references ≡ place.references → o ≡ key_of (codes "$ref") schema
    → count_at place schema ≡ count_inside (schemas_read inner.depth (view inner.root.now)) (view inner.root.now) (references_at inner) schema o + 1
read_count_at place inner schema o e root references at =
    read_count place.depth inner.depth (view place.root.now) schema (references_at place) o e at
    ∙ ap (λ (r : Bor Value). count_inside (schemas_read inner.depth (view r.now)) (view r.now) (references_at place) schema o + 1) (sym root)
    ∙ ap (λ (rs : Bor (List (Bor (List ℕ)))). count_inside (schemas_read inner.depth (view inner.root.now)) (view inner.root.now) (map (λ r. r.now) rs.now) schema o + 1) (sym references)

no_keywords : (count : Val → ℕ) (schema : Val) (b : Bool) → schema ≡ bool_val b → count_keywords count schema ≡ 0
no_keywords count schema b e = ap (count_keywords count) e

pub truth_counted : {A : Type 0} (place inner : Place) (schema : Val) (r : Result A SchemaFault) (P : A → Type 0) (left rest : ℕ) → ((a : A) → P a → (b : Bool) × (schema ≡ bool_val b)) → IfOk r P → IfErr r (λ f. (refusal f ≡ wrong_value []) × (is_bool schema ≡ false))
    → place.depth ≡ inner.depth + 1 → inner.root ≡ place.root → inner.references ≡ place.references → left ≡ rest + 1 → IsCounted r left rest (count_at place schema)
truth_counted place inner schema (Ok a) P left rest truth h g e root references less =
    let b = truth a h in
    let count = read_count_at place inner schema None e root references (sym (ap (key_of (codes "$ref")) b.1)) in
    let none = no_keywords (schemas_read inner.depth (view inner.root.now) (references_at inner)) schema b.0 b.1 in
    omega (arith, less, count, none)
truth_counted place inner schema (Err f) P left rest truth h g e root references less = λ large. absurd (wrong_is_not_large [] (sym g.0 ∙ large))

deep_not_large : (r : Refusal) → r ≡ too_deep → r ≡ too_large → ⊥
deep_not_large r e d = cc

pub none_left : (place : Place) (schema : Val) (f : SchemaFault) (left : ℕ) → ((refusal f ≡ too_deep) × (place.depth ≡ 0)) ⊎ ((refusal f ≡ too_large) × ((left ≡ 0) × (0 < place.depth))) → refusal f ≡ too_large → left < count_at place schema
none_left place schema f left (inl h) large = absurd (deep_not_large (refusal f) h.0 large)
none_left place schema f left (inr h) large = omega (arith, some_read place.depth (view place.root.now) schema (references_at place) h.1.1, h.1.0)

-- ---- properties
pub count_step : (count : Val → ℕ) (k : List ℕ) (v : Val) (here es : Entries) (old left new all : ℕ) → here ≡ entry_then k v es → old + count_entries count here ≡ left + all → left ≡ new + count v → old + count_entries count es ≡ new + all
count_step count k v here es old left new all is before read = omega (arith, ap (count_entries count) is, before, read)

pub count_over : (count : Val → ℕ) (k : List ℕ) (v : Val) (here es : Entries) (old left all : ℕ) → here ≡ entry_then k v es → old + count_entries count here ≡ left + all → left < count v → old < all
count_over count k v here es old left all is before more = omega (arith, ap (count_entries count) is, before, more)

-- ---- open references
now_append : (rs : List (Bor (List ℕ))) (r : Bor (List ℕ)) → map (λ (x : Bor (List ℕ)). x.now) (rs ++ r ∷ []) ≡ map (λ (x : Bor (List ℕ)). x.now) rs ++ r.now ∷ []
now_append [] r = refl
now_append (x ∷ rs) r = ap (λ (xs : List (List ℕ)). x.now ∷ xs) (now_append rs r)

pub one_more_open : (rs more copied : List (Bor (List ℕ))) (r : Bor (List ℕ)) (reference : List ℕ) → more ≡ copied ++ r ∷ [] → copied ≡ rs → r.now ≡ reference → map (λ (x : Bor (List ℕ)). x.now) more ≡ map (λ (x : Bor (List ℕ)). x.now) rs ++ reference ∷ []
one_more_open rs more copied r reference is copy same =
    ap (map (λ (x : Bor (List ℕ)). x.now)) (is ∙ ap (λ (xs : List (Bor (List ℕ))). xs ++ r ∷ []) copy)
    ∙ now_append rs r ∙ ap (λ (x : List ℕ). map (λ (y : Bor (List ℕ)). y.now) rs ++ x ∷ []) same
