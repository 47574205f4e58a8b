-- Two values agree part by part exactly where they are one, so that `val_eq` may be computed part by part.
use Rattle.std.specs.Prelude.{◌≡◌, Bool, true, false, ◌&&◌, bytes_eq, refl}
use Rattle.std.specs.Bool.{Decides}
use Rattle.std.proofs.Common.{ap, ap₂, sym, ◌∙◌}
use Rattle.std.proofs.Math.Bool.{beq, decide_iff}
use Rattle.std.proofs.lemmas.Bool.{and_parts, and_from, false≢true}
use Rattle.std.proofs.lemmas.Bool.Decides.{Decides-int_eq, same_from_decides}
use Rattle.std.proofs.lemmas.Slice.Eq.{bytes_eq-Decides}
use Rattle.upon_types.specs.Same.{one_or_two, val_eq, val_agrees, vals_agree, entries_agree}
use Rattle.upon_types.specs.Val.{Val, none_val, bool_val, int_val, text_val, list_val, map_val, Vals, no_vals, val_then, Entries, no_entries, entry_then}

-- ---- only one value agrees with another
bools_one : (a b : Bool) → beq a b ≡ true → a ≡ b
bools_one true true h = refl
bools_one true false h = absurd (false≢true h)
bools_one false true h = absurd (false≢true h)
bools_one false false h = refl

mutual
  vals_one : (vs ws : Vals) → vals_agree vs ws ≡ true → vs ≡ ws
  vals_one no_vals no_vals h = refl
  vals_one (val_then v vs) (val_then w ws) h =
      let parts = and_parts (val_agrees v w) (vals_agree vs ws) h in
      ap₂ val_then (val_one v w parts.0) (vals_one vs ws parts.1)
  vals_one _ _ h = absurd (false≢true h)

  entries_one : (es fs : Entries) → entries_agree es fs ≡ true → es ≡ fs
  entries_one no_entries no_entries h = refl
  entries_one (entry_then k v es) (entry_then l w fs) h =
      let parts = and_parts (bytes_eq k l) (val_agrees v w && entries_agree es fs) h in
      let rest_of = and_parts (val_agrees v w) (entries_agree es fs) parts.1 in
      let keys : k ≡ l = (bytes_eq-Decides k l).0 parts.0 in
      let values : v ≡ w = val_one v w rest_of.0 in
      let rest : es ≡ fs = entries_one es fs rest_of.1 in
      λ i. entry_then (keys i) (values i) (rest i)
  entries_one _ _ h = absurd (false≢true h)

  val_one : (v w : Val) → val_agrees v w ≡ true → v ≡ w
  val_one none_val none_val h = refl
  val_one (bool_val a) (bool_val b) h = ap bool_val (bools_one a b h)
  val_one (int_val m) (int_val n) h = ap int_val ((Decides-int_eq m n).0 h)
  val_one (text_val s) (text_val t) h = ap text_val ((bytes_eq-Decides s t).0 h)
  val_one (list_val vs) (list_val ws) h = ap list_val (vals_one vs ws h)
  val_one (map_val es) (map_val fs) h = ap map_val (entries_one es fs h)
  val_one _ _ h = absurd (false≢true h)

-- ---- and each value agrees with itself
bool_itself : (a : Bool) → beq a a ≡ true
bool_itself true = refl
bool_itself false = refl

mutual
  vals_itself : (vs : Vals) → vals_agree vs vs ≡ true
  vals_itself no_vals = refl
  vals_itself (val_then v vs) = and_from _ _ (val_itself v) (vals_itself vs)

  entries_itself : (es : Entries) → entries_agree es es ≡ true
  entries_itself no_entries = refl
  entries_itself (entry_then k v es) =
      and_from _ _ ((bytes_eq-Decides k k).1 refl) (and_from _ _ (val_itself v) (entries_itself es))

  val_itself : (v : Val) → val_agrees v v ≡ true
  val_itself none_val = refl
  val_itself (bool_val a) = bool_itself a
  val_itself (int_val n) = (Decides-int_eq n n).1 refl
  val_itself (text_val s) = (bytes_eq-Decides s s).1 refl
  val_itself (list_val vs) = vals_itself vs
  val_itself (map_val es) = entries_itself es

-- ---- so both tests decide whether two are one
pub val_eq-Decides : (v w : Val) → Decides (val_eq v w) (v ≡ w)
val_eq-Decides v w = decide_iff (one_or_two v w)

val_agrees-Decides : (v w : Val) → Decides (val_agrees v w) (v ≡ w)
val_agrees-Decides v w = (val_one v w, λ is. ap (val_agrees v) (sym is) ∙ val_itself v)

-- the test of maps decides whether two maps' entries are one
pub entries_agree-Decides : (es fs : Entries) → Decides (entries_agree es fs) (es ≡ fs)
entries_agree-Decides es fs = (entries_one es fs, λ are. ap (entries_agree es) (sym are) ∙ entries_itself es)

-- the two tests are one
pub part_by_part : (v w : Val) → val_agrees v w ≡ val_eq v w
part_by_part v w = same_from_decides _ _ (val_agrees-Decides v w) (val_eq-Decides v w)
