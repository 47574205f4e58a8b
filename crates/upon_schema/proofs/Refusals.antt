-- What is wrong inside a schema is wrong in it.
use Rattle.std.proofs.Common.{◌≡◌, inl, inr, ℕ, zero, suc, ◌+◌, ◌<◌, List, [], ◌∷◌, ◌++◌, codes, length, get_or, Bool, true, false, Option, Some, bytes_eq, if◌then◌else◌, Result, Ok, Err, IfErr, IsErrAnd, ◌&&◌, ◌||◌, refl, sym, ap, subst, ◌∙◌, append_assoc, append-nil, arith}
use Rattle.std.proofs.lemmas.Slice.Eq.{bytes_eq-Decides}
use Rattle.upon_types.specs.Val.{Val, text_val, Entries, entry_then, entry_at, key_of}
use Rattle.upon_types.specs.View.{view, vals_view}
use Rattle.upon_types.specs.declared.value.Value.{Value}
use Rattle.upon_schema.specs.Place.{IsCauseAround, IsCauseAt}
use Rattle.upon_schema.specs.declared.place.Place.{Place}
use Rattle.upon_schema.specs.Reference.{RefersTo}
use Rattle.upon_schema.specs.Valid.{IsThere}
use Rattle.upon_schema.specs.Refusal.{Refusal, refusal, unknown_keyword, wrong_value, no_definition, too_deep, too_large, out_of_memory, behind, step_spelled, SaysRefusal, SaysWrongIf}
use Rattle.upon_schema.specs.Refused.{each_is, is_known_keyword, Step, step_path, way_path, StepsTo, IsSomewhere, IsCause, IsCauseHere, IsWrongAt, HasUnknown, HasWrong, HasNoDefinition, is_schema, is_bool, is_map}
use Rattle.upon_schema.specs.declared.fault.SchemaFault.{SchemaFault}

-- ---- paths
pub behind-twice : (a b : List ℕ) (r : Refusal) → behind a (behind b r) ≡ behind (a ++ b) r
behind-twice a b (unknown_keyword path) = ap unknown_keyword (sym (append_assoc a b path))
behind-twice a b (wrong_value path) = ap wrong_value (sym (append_assoc a b path))
behind-twice a b (no_definition path) = ap no_definition (sym (append_assoc a b path))
behind-twice a b too_deep = refl
behind-twice a b too_large = refl
behind-twice a b out_of_memory = refl

-- a fault that is put behind one step and then behind another, the outer one
pub says-twice : (a b : List ℕ) (r : Refusal) (f g : SchemaFault) → SaysRefusal (behind b r) f → SaysRefusal (behind a (refusal f)) g → SaysRefusal (behind (a ++ b) r) g
says-twice a b r f g (inl e) (inl d) = inl (d ∙ ap (behind a) e ∙ behind-twice a b r)
says-twice a b r f g (inl e) (inr d) = inr d
says-twice a b r f g (inr e) (inl d) = inr (d ∙ ap (behind a) e)
says-twice a b r f g (inr e) (inr d) = inr d

-- ---- causes
pub memory_cause : (depth : ℕ) (root schema : Val) (r : Refusal) → r ≡ out_of_memory → IsCause depth root schema r
memory_cause depth root schema r e = subst (IsCause depth root schema) (sym e) tt

pub says_cause : (depth : ℕ) (root schema : Val) (r : Refusal) (f : SchemaFault) → SaysRefusal r f → IsCause depth root schema r → IsCause depth root schema (refusal f)
says_cause depth root schema r f (inl e) h = subst (IsCause depth root schema) (sym e) h
says_cause depth root schema r f (inr e) h = memory_cause depth root schema (refusal f) e

somewhere_behind : (Has : Val → List ℕ → Type 0) (root schema s : Val) (step : Step) (path : List ℕ) → StepsTo root step schema s → IsSomewhere Has root s path → IsSomewhere Has root schema (step_path step ++ path)
somewhere_behind Has root schema s step path to h =
    (step ∷ h.0, h.1, h.2, (s, to, h.3), (h.4.0, ap (λ (p : List ℕ). step_path step ++ p) h.4.1 ∙ sym (append_assoc (step_path step) (way_path h.0) h.2)))

pub cause_behind : (depth : ℕ) (root schema s : Val) (step : Step) (r : Refusal) → StepsTo root step schema s → IsCause depth root s r → IsCause (depth + 1) root schema (behind (step_path step) r)
cause_behind depth root schema s step (unknown_keyword path) to h = somewhere_behind HasUnknown root schema s step path to h
cause_behind depth root schema s step (wrong_value path) to h = somewhere_behind HasWrong root schema s step path to h
cause_behind depth root schema s step (no_definition path) to h = somewhere_behind (HasNoDefinition root) root schema s step path to h
cause_behind depth root schema s step too_deep to h = (step ∷ h.0, h.1, (s, to, h.2), omega (arith, h.3))
cause_behind depth root schema s step too_large to h = tt
cause_behind depth root schema s step out_of_memory to h = tt

-- the fault of a schema inside, behind the step to it
pub inner_cause : (depth : ℕ) (root schema s : Val) (step : Step) (r : Refusal) (f : SchemaFault) → StepsTo root step schema s → IsCause depth root s r → SaysRefusal (behind (step_path step) r) f → IsCause (depth + 1) root schema (refusal f)
inner_cause depth root schema s step r f to h says =
    says_cause (depth + 1) root schema (behind (step_path step) r) f says (cause_behind depth root schema s step r to h)

-- ---- what is wrong here
here : (Has : Val → List ℕ → Type 0) (root schema : Val) (path : List ℕ) → Has schema path → IsSomewhere Has root schema path
here Has root schema path h = ([], schema, path, refl, (h, refl))

pub no_schema : (depth : ℕ) (root schema : Val) (empty : List ℕ) → empty ≡ [] → is_schema schema ≡ false → IsCause depth root schema (wrong_value empty)
no_schema depth root schema empty e fails = here HasWrong root schema empty (inl (e, fails))

both_fail : (a b : Bool) → a ≡ false → b ≡ false → (a || b) ≡ false
both_fail true b e f = absurd (cc)
both_fail false b e f = f

-- a value that is neither a truth value nor a map
pub no_truth : (p : Place) (schema : Val) (f : SchemaFault) → refusal f ≡ wrong_value [] → is_bool schema ≡ false → is_map schema ≡ false → IsCauseAt p schema (refusal f)
no_truth p schema f e a b =
    subst (IsCause p.depth (view p.root.now) schema) (sym e) (no_schema p.depth (view p.root.now) schema [] refl (both_fail (is_bool schema) (is_map schema) a b))

-- what `$ref` has refers to nothing
pub nothing_there : (depth : ℕ) (root schema : Val) (reference empty : List ℕ) (f : SchemaFault) → key_of (codes "$ref") schema ≡ Some (text_val reference) → empty ≡ [] → ((s : Val) → RefersTo root reference s → ⊥)
    → SaysRefusal (behind (step_spelled (codes "$ref")) (no_definition empty)) f → IsCause depth root schema (refusal f)
nothing_there depth root schema reference empty f at none fails says =
    says_cause depth root schema (no_definition (step_spelled (codes "$ref") ++ empty)) f says
    (here (HasNoDefinition root) root schema (step_spelled (codes "$ref") ++ empty) (ap (λ (e : List ℕ). step_spelled (codes "$ref") ++ e) none ∙ append-nil (step_spelled (codes "$ref")), (reference, at, fails)))

memory_not_large : (f : SchemaFault) → refusal f ≡ out_of_memory → refusal f ≡ too_large → ⊥
memory_not_large f e d = cc

pub memory_here : (schema : Val) (f : SchemaFault) → refusal f ≡ out_of_memory → IsCauseHere schema (refusal f)
memory_here schema f e = (memory_not_large f e, λ plain depth root. memory_cause depth root schema (refusal f) e)

pub wrong_not_large : (f : SchemaFault) (path : List ℕ) → refusal f ≡ wrong_value path → refusal f ≡ too_large → ⊥
wrong_not_large f path e d = cc

unknown_not_large : (f : SchemaFault) (path : List ℕ) → refusal f ≡ unknown_keyword path → refusal f ≡ too_large → ⊥
unknown_not_large f path e d = cc

pub wrong_here : (keyword : List ℕ) (schema : Val) (f : SchemaFault) → IsWrongAt keyword schema → SaysRefusal (wrong_value (step_spelled keyword)) f → IsCauseHere schema (refusal f)
wrong_here keyword schema f h (inl e) = (
  wrong_not_large f (step_spelled keyword) e,
  λ plain depth root. subst (IsCause depth root schema) (sym e) (here HasWrong root schema (step_spelled keyword) (inr (inr (keyword, refl, (plain, h))))),
)
wrong_here keyword schema f h (inr e) = memory_here schema f e

pub says_wrong_here : (keyword : List ℕ) (schema : Val) (f : SchemaFault) (P : Type 0) → (P → IsWrongAt keyword schema) → SaysWrongIf keyword P f → IsCauseHere schema (refusal f)
says_wrong_here keyword schema f P g (inl h) = wrong_here keyword schema f (g h.1) (inl h.0)
says_wrong_here keyword schema f P g (inr e) = memory_here schema f e

there_if : (b : Bool) (v : Val) (o : Option Val) → b ≡ true → IsThere (if b then Some v else o)
there_if true v o e = tt
there_if false v o e = absurd (cc)

pub first_there : (key k : List ℕ) (v : Val) (es : Entries) → key ≡ k → IsThere (entry_at key (entry_then k v es))
first_there key k v es same = there_if (bytes_eq key k) v (entry_at key es) ((bytes_eq-Decides key k).1 same)

pub unknown_here : (keyword empty : List ℕ) (schema : Val) (f : SchemaFault) → empty ≡ [] → IsThere (key_of keyword schema) → is_known_keyword keyword ≡ false → SaysRefusal (behind (step_spelled keyword) (unknown_keyword empty)) f → IsCauseHere schema (refusal f)
unknown_here keyword empty schema f none at fails (inl e) = (
  unknown_not_large f (step_spelled keyword ++ empty) e,
  λ plain depth root. subst (IsCause depth root schema) (sym e)
      (here HasUnknown root schema (step_spelled keyword ++ empty) (keyword, ap (λ (x : List ℕ). step_spelled keyword ++ x) none ∙ append-nil (step_spelled keyword), (plain, (at, fails)))),
)
unknown_here keyword empty schema f none at fails (inr e) = memory_here schema f e

-- ---- handed on
pub handed_on : {A : Type 0} (P : SchemaFault → Type 0) (f : SchemaFault) (r : Result A SchemaFault) → IsErrAnd r (λ x. x ≡ f) → P f → IfErr r P
handed_on P f (Ok a) is said = absurd is
handed_on P f (Err x) is said = subst P (sym is) said

pub err_more : {A : Type 0} (r : Result A SchemaFault) (P Q : SchemaFault → Type 0) → ((f : SchemaFault) → P f → Q f) → IfErr r P → IfErr r Q
err_more (Ok a) P Q g p = tt
err_more (Err f) P Q g p = g f p

pub around : (p : Place) (schema : Val) (r : Refusal) → IsCauseHere schema r → IsCauseAround p schema r
around p schema r h plain = h.1 plain (p.depth + 1) (view p.root.now)

pub says_if : (keyword : List ℕ) (P : Type 0) (f : SchemaFault) → P → SaysRefusal (wrong_value (step_spelled keyword)) f → SaysWrongIf keyword P f
says_if keyword P f p (inl e) = inl (e, p)
says_if keyword P f p (inr e) = inr e

pub says_more : (keyword : List ℕ) (P Q : Type 0) (f : SchemaFault) → (P → Q) → SaysWrongIf keyword P f → SaysWrongIf keyword Q f
says_more keyword P Q f g (inl h) = inl (h.0, g h.1)
says_more keyword P Q f g (inr e) = inr e

-- ---- each of some values
second_fails : (a b : Bool) → b ≡ false → (a && b) ≡ false
second_fails true b e = e
second_fails false b e = refl

pub each_not : (test : Val → Bool) (vs : List Value) (i : ℕ) (x : Value) → i < length vs → x ≡ get_or vs i x → test (view x) ≡ false → each_is test (vals_view vs) ≡ false
each_not test [] i x less is fails = absurd (omega (arith, less))
each_not test (v ∷ vs) zero x less is fails = ap (λ (y : Value). test (view y) && each_is test (vals_view vs)) (sym is) ∙ ap (λ (b : Bool). b && each_is test (vals_view vs)) fails
each_not test (v ∷ vs) (suc i) x less is fails = second_fails (test (view v)) (each_is test (vals_view vs)) (each_not test vs i x (omega (arith, less)) is fails)
