-- What a reference is to, and which are to nothing.
use Rattle.std.proofs.Common.{◌≡◌, ◌==◌, ◌++◌, ℕ, List, [], ◌∷◌, codes, Bool, true, false, Option, Some, None, arith, refl, sym, ap, ◌∙◌, inl, inr, bytes_eq, if◌then◌else◌}
use Rattle.std.proofs.lemmas.Slice.Eq.{bytes_eq-Decides}
use Rattle.std.proofs.lemmas.Bool.Decides.{nat_tests}
use Rattle.std.specs.Prelude.{option_and_then}
use Rattle.upon_types.specs.Val.{Val, none_val, bool_val, int_val, text_val, list_val, map_val, Entries, no_entries, entry_then, entry_at, key_of}
use Rattle.upon_schema.specs.Counted.{after_begin, definition_or, referred_in, spelled_entry}
use Rattle.upon_schema.specs.Reference.{RefersTo, spelled}
use Rattle.upon_schema.specs.Valid.{entries_or_none}

some_none : (v : Val) → Some v ≡ None → ⊥
some_none v e = cc

either_way : (b : Bool) → (b ≡ true → ⊥) → (b ≡ false → ⊥) → ⊥
either_way true f g = f refl
either_way false f g = g refl

none_if : (b : Bool) (v : Val) (o : Option Val) → b ≡ true → (if b then Some v else o) ≡ None → ⊥
none_if true v o e h = cc
none_if false v o e h = absurd (cc)

none_else : (b : Bool) (v : Val) (o : Option Val) → (if b then Some v else o) ≡ None → o ≡ None
none_else true v o h = absurd (cc)
none_else false v o h = h

found_else : (b : Bool) (v s : Val) (o : Option Val) → b ≡ false → (if b then Some v else o) ≡ Some s → o ≡ Some s
found_else true v s o e h = absurd (cc)
found_else false v s o e h = h

-- what is at a key is found where the key is spelled
pub no_entry : (key : List ℕ) (es : Entries) (s : Val) → entry_at key es ≡ Some s → spelled_entry (spelled key) es ≡ None → ⊥
no_entry key no_entries s at none = cc
no_entry key (entry_then k v es) s at none =
    either_way (bytes_eq key k)
    (λ same. none_if (bytes_eq (spelled key) (spelled k)) v (spelled_entry (spelled key) es) ((bytes_eq-Decides (spelled key) (spelled k)).1 (ap spelled ((bytes_eq-Decides key k).0 same))) none)
    (λ other. no_entry key es s (found_else (bytes_eq key k) v s (entry_at key es) other at) (none_else (bytes_eq (spelled key) (spelled k)) v (spelled_entry (spelled key) es) none))

no_group : (key : List ℕ) (s : Val) (o : Option Val) → option_and_then (key_of key) o ≡ Some s → spelled_entry (spelled key) (entries_or_none o) ≡ None → ⊥
no_group key s None at none = cc
no_group key s (Some none_val) at none = cc
no_group key s (Some (bool_val b)) at none = cc
no_group key s (Some (int_val n)) at none = cc
no_group key s (Some (text_val bytes)) at none = cc
no_group key s (Some (list_val vs)) at none = cc
no_group key s (Some (map_val es)) at none = no_entry key es s at none

pub nothing_referred : (root : Val) (reference : List ℕ) → referred_in root reference ≡ None → (s : Val) → RefersTo root reference s → ⊥
nothing_referred root reference none s (inl h) = absurd (some_none root (sym (ap (referred_in root) h.0) ∙ none))
nothing_referred root reference none s (inr (inl h)) =
    no_group h.0 s (key_of (codes "$defs") root) h.2 (sym (ap (referred_in root) h.1) ∙ none)
nothing_referred root reference none s (inr (inr h)) =
    no_group h.0 s (key_of (codes "definitions") root) h.2 (sym (ap (referred_in root) h.1) ∙ none)

same_byte : (b c : ℕ) → (b == c) ≡ true → b ≡ c
same_byte b c e = grind (arith, nat_tests)

none_by : (b : Bool) (o : Option (List ℕ)) → (b ≡ true → o ≡ None) → (if b then o else None) ≡ None
none_by true o f = f refl
none_by false o f = refl

pub after_other : (begin text : List ℕ) → ((rest : List ℕ) → text ≡ begin ++ rest → ⊥) → after_begin begin text ≡ None
after_other [] text lacks = absurd (lacks text refl)
after_other (b ∷ bs) [] lacks = refl
after_other (b ∷ bs) (c ∷ cs) lacks =
    none_by (b == c) (after_begin bs cs) (λ same. after_other bs cs (λ rest e. lacks rest (ap (λ (x : ℕ). x ∷ cs) (sym (same_byte b c same)) ∙ ap (λ (xs : List ℕ). b ∷ xs) e)))

no_whole : (b : Bool) (v : Val) (o : Option Val) → b ≡ false → (if b then Some v else o) ≡ o
no_whole true v o e = absurd (cc)
no_whole false v o e = refl

-- behind the first begin there is nothing
pub referred_later : (root : Val) (reference : List ℕ) → bytes_eq reference (codes "#") ≡ false → ((rest : List ℕ) → reference ≡ codes "#/$defs/" ++ rest → ⊥) → referred_in root reference ≡ definition_or (codes "definitions") root (after_begin (codes "#/definitions/") reference) None
referred_later root reference other lacks =
    no_whole (bytes_eq reference (codes "#")) root (definition_or (codes "$defs") root (after_begin (codes "#/$defs/") reference) (definition_or (codes "definitions") root (after_begin (codes "#/definitions/") reference) None)) other
    ∙ ap (λ (x : Option (List ℕ)). definition_or (codes "$defs") root x (definition_or (codes "definitions") root (after_begin (codes "#/definitions/") reference) None)) (after_other (codes "#/$defs/") reference lacks)

pub referred_never : (root : Val) (reference : List ℕ) → bytes_eq reference (codes "#") ≡ false → ((rest : List ℕ) → reference ≡ codes "#/$defs/" ++ rest → ⊥) → ((rest : List ℕ) → reference ≡ codes "#/definitions/" ++ rest → ⊥)
    → referred_in root reference ≡ None
referred_never root reference other lacks never =
    referred_later root reference other lacks ∙ ap (λ (x : Option (List ℕ)). definition_or (codes "definitions") root x None) (after_other (codes "#/definitions/") reference never)

-- ---- entries one after the other
differs : (b : Bool) → (b ≡ true → ⊥) → b ≡ false
differs true f = absurd (f refl)
differs false f = refl

if_so : (b : Bool) (v : Val) (o : Option Val) → b ≡ true → (if b then Some v else o) ≡ Some v
if_so true v o e = refl
if_so false v o e = absurd (cc)

not_equal : (a b : List ℕ) → (a ≡ b → ⊥) → bytes_eq a b ≡ false
not_equal a b other = differs (bytes_eq a b) (λ e. other ((bytes_eq-Decides a b).0 e))

pub found_spelled : (name key k : List ℕ) (v : Val) (here es all : Entries) (definitions : Val) (o : Option Val) → here ≡ entry_then k v es → key ≡ k → name ≡ spelled k → o ≡ key_of key definitions
    → entry_at key here ≡ key_of key definitions → spelled_entry name here ≡ spelled_entry name all → o ≡ spelled_entry name all
found_spelled name key k v here es all definitions o is same spells found at later =
    found ∙ sym at ∙ ap (entry_at key) is ∙ if_so (bytes_eq key k) v (entry_at key es) ((bytes_eq-Decides key k).1 same)
    ∙ sym (if_so (bytes_eq name (spelled k)) v (spelled_entry name es) ((bytes_eq-Decides name (spelled k)).1 spells)) ∙ sym (ap (spelled_entry name) is) ∙ later

pub found_later : (name k : List ℕ) (v : Val) (here es all : Entries) → here ≡ entry_then k v es → (name ≡ spelled k → ⊥) → spelled_entry name here ≡ spelled_entry name all → spelled_entry name es ≡ spelled_entry name all
found_later name k v here es all is other before =
    sym (ap (spelled_entry name) is ∙ no_whole (bytes_eq name (spelled k)) v (spelled_entry name es) (not_equal name (spelled k) other)) ∙ before

pub at_later : (name key k : List ℕ) (v : Val) (here es : Entries) (o : Option Val) → here ≡ entry_then k v es → (name ≡ spelled k → ⊥) → name ≡ spelled key → entry_at key here ≡ o → entry_at key es ≡ o
at_later name key k v here es o is other spells before =
    sym (ap (entry_at key) is ∙ no_whole (bytes_eq key k) v (entry_at key es) (not_equal key k (λ same. other (spells ∙ ap spelled same)))) ∙ before
