-- What a library has after a name was added.
use Rattle.std.proofs.Common.{◌≡◌, ◌++◌, ◌∷◌, [], ℕ, List, map, Option, String, Global, BTreeMap, string_bytes, string_cmp, nat_cmp, ap, ◌∙◌}
use Rattle.std.specs.Cmp.Lexicographic.{slice_cmp}
use Rattle.std.specs.Map.{update}
use Rattle.std.specs.Str.{bytes_eq}
use Rattle.std.specs.BTreeMap.{get_by_text, UpdatesBy}
use Rattle.std.proofs.lemmas.List.{map-append}
use Rattle.std.proofs.lemmas.Map.Text.{btree_map_updates_text}

-- a name that was added is the last
pub name_listed : (old new : List (String Global)) (text : String Global) (name : List ℕ) → new ≡ old ++ text ∷ [] → string_bytes text ≡ name → map string_bytes new ≡ map string_bytes old ++ name ∷ []
name_listed old new text name is same =
    ap (map string_bytes) is ∙ map-append string_bytes old (text ∷ []) ∙ ap (λ name. map string_bytes old ++ name ∷ []) same

-- what was put at a name is there, and at each other name what was
pub entry_added : {Y X : Type 0} (text name : List ℕ) (m n : BTreeMap (String Y) X) (w : Option X) → text ≡ name → UpdatesBy string_cmp (λ k. slice_cmp nat_cmp text (string_bytes k)) m n w
    → (other : List ℕ) → get_by_text n other ≡ update bytes_eq (get_by_text m) name w other
entry_added text name m n w same updates other =
    btree_map_updates_text text m n w updates other ∙ ap (λ t. update bytes_eq (get_by_text m) t w other) same
