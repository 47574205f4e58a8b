-- The places of values that are found in maps: of integers, of texts and of spellings.
use Rattle.std.proofs.Common.{◌≡◌, ℕ, ℤ, Bool, true, false, cond, String, List, Option, Some, Decides, Vec, Global, nat_cmp, int_cmp, bytes_eq, refl, ap, sym, subst, ◌∙◌}
use Rattle.std.specs.BTreeMap.{BTreeMap, get_by, Updates, UpdatesBy}
use Rattle.std.specs.Cmp.{eq_by_cmp_equiv}
use Rattle.std.specs.Cmp.Lexicographic.{slice_cmp, nat_list_cmp_total}
use Rattle.std.specs.Map.{lookup, IsKeyTest, AreApart, KeepsOthers}
use Rattle.std.specs.Ordering.{is_eq, eq_by_cmp}
use Rattle.std.proofs.lemmas.Bool.{false≢true}
use Rattle.std.proofs.lemmas.Bool.Decides.{same_from_decides}
use Rattle.std.proofs.lemmas.Cmp.{tied_itself, int_cmp_total}
use Rattle.std.proofs.lemmas.Map.Lookups.{exact_signed}
use Rattle.std.proofs.lemmas.Map.Text.{is_eq-slice_cmp}
use Rattle.std.proofs.lemmas.Map.Views.{tells_apart}
use Rattle.std.proofs.lemmas.Slice.Eq.{bytes_eq-Decides}
use denote.Ref.{Bor}
use mathlib.Core.Bool.{decide}
use Rattle.upon_types.specs.Same.{val_eq}
use Rattle.upon_types.specs.Val.{Val, int_val, text_val}
use Rattle.upon_types.specs.View.{view}
use Rattle.upon_types.specs.declared.value.Value.{Value, Integer as IntegerValue, String as StringValue}
use Rattle.upon_types.specs.declared.value.Value.TheOpen.{Value-F}
use Rattle.upon_types.specs.declared.value.Value.TheViews.{out-Value, roll-Value, roll-out-Value, rolls-None, rolls-Bool, rolls-Integer, rolls-String, rolls-List, rolls-Map}
use Rattle.upon_types.proofs.Views.{view-None, view-Bool, view-List, view-Map}
use Rattle.upon_std.specs.Ordering.Places.{place_met}
use Rattle.upon_std.specs.Ordering.Spelling.{spelling}
use Rattle.upon_std.specs.declared.ordering.places.Places.{Places}
use Rattle.upon_std.proofs.OrderingLemmas.Readings.{one_spelling}
use Rattle.upon_std.proofs.OrderingLemmas.Repeats.{val_eq-Decides}

-- ---- a map whose keys are told apart by numbers
kept_apart : {K X : Type 0} (eq : K → K → Bool) (test : K → Bool) (old new : List (K × X)) → KeepsOthers eq test old new
    → (other : K → Bool) → IsKeyTest eq other → AreApart test other → lookup other new ≡ lookup other old
unfolding KeepsOthers
kept_apart eq test old new h = h

false_unless : (b : Bool) → (b ≡ true → ⊥) → b ≡ false
false_unless true h = absurd (h refl)
false_unless false h = refl

turned : (xs ys : List ℕ) → bytes_eq xs ys ≡ false → bytes_eq ys xs ≡ false
turned xs ys differ = false_unless (bytes_eq ys xs) (λ h. false≢true (sym differ ∙ (bytes_eq-Decides xs ys).1 (sym ((bytes_eq-Decides ys xs).0 h))))

not_at : {K : Type 0} (at : K → List ℕ) (xs ys : List ℕ) → bytes_eq xs ys ≡ false → (k : K) → is_eq (slice_cmp nat_cmp xs (at k)) ≡ true → is_eq (slice_cmp nat_cmp ys (at k)) ≡ false
not_at at xs ys differ k is =
    let same : xs ≡ at k = (bytes_eq-Decides xs (at k)).0 (sym (is_eq-slice_cmp xs (at k)) ∙ is) in
    is_eq-slice_cmp ys (at k) ∙ ap (bytes_eq ys) (sym same) ∙ turned xs ys differ

module _ {K X : Type 0} (at : K → List ℕ) where
  -- what is at numbers
  abbrev pub found_at : BTreeMap K X → List ℕ → Option X
  found_at m xs = get_by (λ k. slice_cmp nat_cmp xs (at k)) m

  by_test : (m n : BTreeMap K X) (xs ys : List ℕ) (w : Option X) (b : Bool) → UpdatesBy (λ x y. slice_cmp nat_cmp (at x) (at y)) (λ k. slice_cmp nat_cmp xs (at k)) m n w
      → bytes_eq xs ys ≡ b → found_at n ys ≡ cond b w (found_at m ys)
  by_test m n xs ys w true up e = ap (found_at n) (sym ((bytes_eq-Decides xs ys).0 e)) ∙ up.1
  by_test m n xs ys w false up e =
      kept_apart (eq_by_cmp (λ x y. slice_cmp nat_cmp (at x) (at y))) (λ k. is_eq (slice_cmp nat_cmp xs (at k))) m.entries n.entries up.3
      (λ k. is_eq (slice_cmp nat_cmp ys (at k))) (λ x y. (eq_by_cmp_equiv nat_list_cmp_total).congr ys (at x) (at y)) (not_at at xs ys e)

  pub found_after : (m n : BTreeMap K X) (xs ys : List ℕ) (w : Option X) → UpdatesBy (λ x y. slice_cmp nat_cmp (at x) (at y)) (λ k. slice_cmp nat_cmp xs (at k)) m n w
      → found_at n ys ≡ cond (bytes_eq xs ys) w (found_at m ys)
  found_after m n xs ys w up = by_test m n xs ys w (bytes_eq xs ys) up refl

-- ---- tests of keys are tests of values
same_test : (b : Bool) (v w : Val) → Decides b (v ≡ w) → b ≡ val_eq v w
same_test b v w decides = same_from_decides b (val_eq v w) decides (val_eq-Decides v w)

integer_test : (y z : ℤ) → is_eq (int_cmp y z) ≡ val_eq (int_val y) (int_val z)
integer_test y z =
    same_test (is_eq (int_cmp y z)) (int_val y) (int_val z) (
      λ h. ap int_val (tells_apart exact_signed y z h),
      λ h. let same : y ≡ z = cc in subst (λ x. is_eq (int_cmp y x) ≡ true) same (ap is_eq (tied_itself int_cmp_total y)),
    )

text_test : (s t : List ℕ) → bytes_eq s t ≡ val_eq (text_val s) (text_val t)
text_test s t =
    same_test (bytes_eq s t) (text_val s) (text_val t) (
      λ h. ap text_val ((bytes_eq-Decides s t).0 h),
      λ h. let same : s ≡ t = cc in (bytes_eq-Decides s t).1 same,
    )

spelling_test : (v w : Val) → bytes_eq (spelling v) (spelling w) ≡ val_eq v w
spelling_test v w =
    same_test (bytes_eq (spelling v) (spelling w)) v w (
      λ h. one_spelling v w ((bytes_eq-Decides (spelling v) (spelling w)).0 h),
      λ is. (bytes_eq-Decides (spelling v) (spelling w)).1 (ap spelling is),
    )

-- ---- one place more
pub integer_placed : (old : Places) (new : BTreeMap ℤ ℕ) (z : ℤ) (place : ℕ) → Updates int_cmp old.integers new z (Some place)
    → (v : Val) → place_met (record old { integers = new }) v ≡ cond (val_eq (int_val z) v) (Some place) (place_met old v)
unfolding decide
integer_placed old new z place up (int_val y) = up.0 y ∙ ap (λ b. cond b (Some place) (place_met old (int_val y))) (integer_test z y)
integer_placed old new z place up _ = refl

pub text_placed : (old : Places) (new : BTreeMap (Bor (List ℕ)) ℕ) (s : List ℕ) (place : ℕ)
    → UpdatesBy (λ x y. slice_cmp nat_cmp x.now y.now) (λ k. slice_cmp nat_cmp s k.now) old.texts new (Some place)
    → (v : Val) → place_met (record old { texts = new }) v ≡ cond (val_eq (text_val s) v) (Some place) (place_met old v)
unfolding decide
text_placed old new s place up (text_val t) =
    found_after (λ k. k.now) old.texts new s t (Some place) up ∙ ap (λ b. cond b (Some place) (place_met old (text_val t))) (text_test s t)
text_placed old new s place up _ = refl

-- a value that is found by its spelling
abbrev pub IsSpelled : Val → Type 0
IsSpelled (int_val z) = ⊥
IsSpelled (text_val s) = ⊥
IsSpelled v = Unit {0}

no_integer : (v : Val) (z : ℤ) → IsSpelled v → val_eq v (int_val z) ≡ false
unfolding decide
no_integer (int_val y) z spelled = absurd spelled
no_integer (text_val s) z spelled = absurd spelled
no_integer _ z spelled = refl

no_text : (v : Val) (s : List ℕ) → IsSpelled v → val_eq v (text_val s) ≡ false
unfolding decide
no_text (int_val y) s spelled = absurd spelled
no_text (text_val t) s spelled = absurd spelled
no_text _ s spelled = refl

pub spelled_place : (places : Places) (v : Val) → IsSpelled v → place_met places v ≡ found_at (λ k. k.items) places.others (spelling v)
spelled_place places (int_val z) spelled = absurd spelled
spelled_place places (text_val s) spelled = absurd spelled
spelled_place places _ spelled = refl

pub other_placed : (old : Places) (new : BTreeMap (Vec ℕ Global) ℕ) (v : Val) (numbers : List ℕ) (place : ℕ) → IsSpelled v → numbers ≡ spelling v
    → UpdatesBy (λ x y. slice_cmp nat_cmp x.items y.items) (λ k. slice_cmp nat_cmp numbers k.items) old.others new (Some place)
    → (w : Val) → place_met (record old { others = new }) w ≡ cond (val_eq v w) (Some place) (place_met old w)
other_placed old new v numbers place spelled of_v up (int_val y) = sym (ap (λ b. cond b (Some place) (place_met old (int_val y))) (no_integer v y spelled))
other_placed old new v numbers place spelled of_v up (text_val t) = sym (ap (λ b. cond b (Some place) (place_met old (text_val t))) (no_text v t spelled))
other_placed old new v numbers place spelled of_v up w =
    found_after (λ k. k.items) old.others new numbers (spelling w) (Some place) up
    ∙ ap (λ b. cond b (Some place) (place_met old w)) (ap (λ xs. bytes_eq xs (spelling w)) of_v ∙ spelling_test v w)

-- ---- the value that is looked up
pub of_same : (old new : Places) (v w : Val) (place : ℕ) → v ≡ w → ((u : Val) → place_met new u ≡ cond (val_eq w u) (Some place) (place_met old u))
    → (u : Val) → place_met new u ≡ cond (val_eq v u) (Some place) (place_met old u)
of_same old new v w place same placed = λ u. placed u ∙ ap (λ t. cond (val_eq t u) (Some place) (place_met old u)) (sym same)

-- a value that is neither an integer nor a text
abbrev IsOther : Value → Type 0
IsOther value = ((z : ℤ) → value ≡ IntegerValue z → ⊥) × ((s : String Global) → value ≡ StringValue s → ⊥)

layer_spelled : (x : Value-F Value) → IsOther (roll-Value x) → IsSpelled (view (roll-Value x))
layer_spelled Value-F.None other = subst IsSpelled (sym (ap view rolls-None ∙ view-None)) tt
layer_spelled (Value-F.Bool b) other = subst IsSpelled (sym (ap view (rolls-Bool b) ∙ view-Bool b)) tt
layer_spelled (Value-F.Integer z) other = absurd (other.0 z (rolls-Integer z))
layer_spelled (Value-F.String s) other = absurd (other.1 s (rolls-String s))
layer_spelled (Value-F.List items) other = subst IsSpelled (sym (ap view (rolls-List items) ∙ view-List items)) tt
layer_spelled (Value-F.Map entries) other = subst IsSpelled (sym (ap view (rolls-Map entries) ∙ view-Map entries)) tt

pub is_spelled : (value : Value) → ((z : ℤ) → value ≡ IntegerValue z → ⊥) → ((s : String Global) → value ≡ StringValue s → ⊥) → IsSpelled (view value)
is_spelled value integer text = subst (λ v. IsOther v → IsSpelled (view v)) (roll-out-Value value) (layer_spelled (out-Value value)) (integer, text)
