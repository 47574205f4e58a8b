-- A spelling is of one value only, whatever comes after it.
use Rattle.std.proofs.Common.{◌≡◌, ℕ, ℤ, pos, negsuc, suc, Bool, true, false, cond, List, [], ◌∷◌, ◌++◌, get_or, refl, ap, ap₂, sym, ◌∙◌, append_assoc, arith}
use Rattle.upon_types.specs.Val.{Val, none_val, bool_val, int_val, text_val, list_val, map_val, Vals, no_vals, val_then, Entries, no_entries, entry_then}
use Rattle.upon_std.specs.Ordering.Spelling.{integer_spelling, text_spelling, spelling, items_spelling, entries_spelling}

-- the number of a truth value
abbrev bit : Bool → ℕ
bit b = cond b 1 0

-- what is read is the same, and what is left
abbrev pub SameReading : {A : Type 0} → A → A → List ℕ → List ℕ → Type 0
SameReading x y rest others = (x ≡ y) × (rest ≡ others)

heads : (x y : ℕ) (xs ys : List ℕ) → x ∷ xs ≡ y ∷ ys → x ≡ y
heads x y xs ys e = cc

tails : (x y : ℕ) (xs ys : List ℕ) → x ∷ xs ≡ y ∷ ys → xs ≡ ys
tails x y xs ys e = cc

read_bool : (a b : Bool) → bit a ≡ bit b → a ≡ b
read_bool true true e = refl
read_bool true false e = absurd (omega (arith, e))
read_bool false true e = absurd (omega (arith, e))
read_bool false false e = refl

read_integer : (y z : ℤ) (r s : List ℕ) → integer_spelling y ++ r ≡ integer_spelling z ++ s → SameReading y z r s
read_integer (pos m) (pos n) r s e = let is : m ≡ n = cc in let rest : r ≡ s = cc in (ap pos is, rest)
read_integer (negsuc m) (negsuc n) r s e = let is : m ≡ n = cc in let rest : r ≡ s = cc in (ap negsuc is, rest)
read_integer (pos m) (negsuc n) r s e = let h : 0 ≡ 1 = heads _ _ _ _ e in absurd (omega (arith, h))
read_integer (negsuc m) (pos n) r s e = let h : 1 ≡ 0 = heads _ _ _ _ e in absurd (omega (arith, h))

read_text : (s t : List ℕ) (p q : List ℕ) → text_spelling s ++ p ≡ text_spelling t ++ q → SameReading s t p q
read_text [] [] p q e = (refl, tails _ _ _ _ e)
read_text [] (d ∷ ds) p q e = let h : 0 ≡ suc d = heads _ _ _ _ e in absurd (omega (arith, h))
read_text (c ∷ cs) [] p q e = let h : suc c ≡ 0 = heads _ _ _ _ e in absurd (omega (arith, h))
read_text (c ∷ cs) (d ∷ ds) p q e =
    let h : suc c ≡ suc d = heads _ _ _ _ e in
    let is : c ≡ d = omega (arith, h) in
    let rest = read_text cs ds p q (tails _ _ _ _ e) in
    (ap₂ ◌∷◌ is rest.0, rest.1)

mutual
  read_items : (vs ws : Vals) (r s : List ℕ) → items_spelling vs ++ r ≡ items_spelling ws ++ s → SameReading vs ws r s
  read_items no_vals no_vals r s e = (refl, tails _ _ _ _ e)
  read_items no_vals (val_then w ws) r s e = let h : 0 ≡ 1 = heads _ _ _ _ e in absurd (omega (arith, h))
  read_items (val_then v vs) no_vals r s e = let h : 1 ≡ 0 = heads _ _ _ _ e in absurd (omega (arith, h))
  read_items (val_then v vs) (val_then w ws) r s e =
      let first = read v w (items_spelling vs ++ r) (items_spelling ws ++ s)
      (sym (append_assoc (spelling v) (items_spelling vs) r) ∙ tails _ _ _ _ e ∙ append_assoc (spelling w) (items_spelling ws) s) in
      let rest = read_items vs ws r s first.1 in
      (ap₂ val_then first.0 rest.0, rest.1)

  read_entries : (es fs : Entries) (r s : List ℕ) → entries_spelling es ++ r ≡ entries_spelling fs ++ s → SameReading es fs r s
  read_entries no_entries no_entries r s e = (refl, tails _ _ _ _ e)
  read_entries no_entries (entry_then l w fs) r s e = let h : 0 ≡ 1 = heads _ _ _ _ e in absurd (omega (arith, h))
  read_entries (entry_then k v es) no_entries r s e = let h : 1 ≡ 0 = heads _ _ _ _ e in absurd (omega (arith, h))
  read_entries (entry_then k v es) (entry_then l w fs) r s e =
      let keys = read_text k l ((spelling v ++ entries_spelling es) ++ r) ((spelling w ++ entries_spelling fs) ++ s)
      (sym (append_assoc (text_spelling k) _ r) ∙ tails _ _ _ _ e ∙ append_assoc (text_spelling l) _ s) in
      let values = read v w (entries_spelling es ++ r) (entries_spelling fs ++ s)
      (sym (append_assoc (spelling v) (entries_spelling es) r) ∙ keys.1 ∙ append_assoc (spelling w) (entries_spelling fs) s) in
      let rest = read_entries es fs r s values.1 in
      ((λ i. entry_then (keys.0 i) (values.0 i) (rest.0 i)), rest.1)

  read : (v w : Val) (r s : List ℕ) → spelling v ++ r ≡ spelling w ++ s → SameReading v w r s
  read none_val none_val r s e = (refl, tails _ _ _ _ e)
  read (bool_val a) (bool_val b) r s e =
      let inner = tails _ _ _ _ e in
      (ap bool_val (read_bool a b (heads _ _ _ _ inner)), tails _ _ _ _ inner)
  read (int_val y) (int_val z) r s e = let inner = read_integer y z r s (tails _ _ _ _ e) in (ap int_val inner.0, inner.1)
  read (text_val a) (text_val b) r s e = let inner = read_text a b r s (tails _ _ _ _ e) in (ap text_val inner.0, inner.1)
  read (list_val vs) (list_val ws) r s e = let inner = read_items vs ws r s (tails _ _ _ _ e) in (ap list_val inner.0, inner.1)
  read (map_val es) (map_val fs) r s e = let inner = read_entries es fs r s (tails _ _ _ _ e) in (ap map_val inner.0, inner.1)
  read v w r s e = let h = ap (λ xs. get_or xs 0 0) e in absurd (omega (arith, h))

-- values with one spelling are one
pub one_spelling : (v w : Val) → spelling v ≡ spelling w → v ≡ w
one_spelling v w e = (read v w [] [] (ap (λ xs. xs ++ []) e)).0
