-- What is declared after one more.
use Rattle.std.proofs.Common.{◌≡◌, ℕ, List, Bool, true, false, cond, Option, Some, String, Global, BTreeMap, string_bytes, string_cmp, nat_cmp, option_map, refl, ap, ◌∙◌}
use Rattle.std.specs.Cmp.Lexicographic.{slice_cmp}
use Rattle.std.specs.Map.{update}
use Rattle.std.specs.Str.{bytes_eq}
use Rattle.std.specs.BTreeMap.{get_by_text, UpdatesBy}
use Rattle.std.proofs.lemmas.Map.Text.{btree_map_updates_text}
use Rattle.upon_shape_check.specs.Callables.{callable_view}
use Rattle.upon_shape_check.specs.declared.declared.DeclaredCallable.{DeclaredCallable}

either : (b : Bool) (x y : Option DeclaredCallable) → option_map callable_view (cond b x y) ≡ cond b (option_map callable_view x) (option_map callable_view y)
either true x y = refl
either false x y = refl

pub declared_more : (name : List ℕ) (m n : BTreeMap (String Global) DeclaredCallable) (w : DeclaredCallable) → UpdatesBy string_cmp (λ k. slice_cmp nat_cmp name (string_bytes k)) m n (Some w)
    → (other : List ℕ) → option_map callable_view (get_by_text n other) ≡ update bytes_eq (λ t. option_map callable_view (get_by_text m t)) name (Some (callable_view w)) other
declared_more name m n w updates other =
    ap (option_map callable_view) (btree_map_updates_text name m n (Some w) updates other) ∙ either (bytes_eq name other) (Some w) (get_by_text m other)
