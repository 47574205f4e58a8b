-- What a change under one path leaves, and what is answered by what a map holds.
use Rattle.std.proofs.Common.{◌≡◌, ℕ, List, Option, Some, None, String, BTreeMap, option_map, string_bytes, string_cmp, nat_cmp, refl, sym, ap, subst, ◌∙◌, false}
use Rattle.std.specs.Cmp.Lexicographic.{slice_cmp}
use Rattle.std.specs.Str.{bytes_eq}
use Rattle.std.specs.BTreeMap.{get_by_text, UpdatesBy}
use Rattle.std.proofs.lemmas.Map.{update_other}
use Rattle.std.proofs.lemmas.Map.Text.{btree_map_updates_text}
use Rattle.upon_engine.specs.HandsOn.{shown_answer}
use Rattle.upon_store.specs.Stored.{path_answer}

-- a change at a text, which is a path, keeps what each other path shows
pub others_kept : {X Y Z : Type 0} (shows : X → Z) (text path : List ℕ) (m n : BTreeMap (String Y) X) (w : Option X)
    → text ≡ path → UpdatesBy string_cmp (λ k. slice_cmp nat_cmp text (string_bytes k)) m n w → (other : List ℕ)
    → bytes_eq path other ≡ false → option_map shows (get_by_text n other) ≡ option_map shows (get_by_text m other)
others_kept shows text path m n w same updates other apart =
    let differs : bytes_eq text other ≡ false = subst (λ p. bytes_eq p other ≡ false) (sym same) apart in
    ap (option_map shows) (btree_map_updates_text text m n w updates other ∙ update_other bytes_eq (get_by_text m) text w other differs)

-- and is what the path shows
pub put_there : {X Y Z : Type 0} (shows : X → Z) (text path : List ℕ) (m n : BTreeMap (String Y) X) (w : Option X)
    → text ≡ path → UpdatesBy string_cmp (λ k. slice_cmp nat_cmp text (string_bytes k)) m n w
    → option_map shows (get_by_text n path) ≡ option_map shows w
put_there shows text path m n w same updates = ap (option_map shows) (subst (λ p. get_by_text n p ≡ w) same updates.1)

-- what is answered shows what is held
pub shown_path : {X A : Type 0} (shows : X → A) (o : Option X) → shown_answer shows (path_answer o) ≡ path_answer (option_map shows o)
shown_path shows None = refl
shown_path shows (Some x) = refl
