-- What equality says of lists and maps of values.
use Rattle.std.proofs.Common.{◌≡◌, ◌≢◌, ◌↔◌, ℕ, suc, List, [], ◌∷◌, length, Bool, true, false, IsTrue, refl, sym, ap, ◌∙◌}
use Rattle.std.proofs.lemmas.Bool.{and_right}
use Rattle.upon_types.specs.Same.{vals_agree, entries_agree}
use Rattle.upon_types.proofs.ValueEquality.{entries_agree-Decides}
use Rattle.upon_types.specs.Val.{Entries, entry_at, rises}
use Rattle.upon_types.specs.View.{vals_view, entries_view}
use Rattle.upon_types.specs.declared.value.Value.{Value}
use Rattle.upon_types.proofs.Bindings.{one_map}
use Rattle.upon_types.proofs.Views.{Entry}

-- ---- lengths say them apart
pub apart_items : (vs ws : List Value) → length vs ≢ length ws → vals_agree (vals_view vs) (vals_view ws) ≡ false
apart_items [] [] apart = absurd (apart refl)
apart_items [] (w ∷ ws) apart = refl
apart_items (v ∷ vs) [] apart = refl
apart_items (v ∷ vs) (w ∷ ws) apart = and_right _ _ (apart_items vs ws (λ even. apart (ap suc even)))

pub apart_entries : (es fs : List Entry) → length es ≢ length fs → entries_agree (entries_view es) (entries_view fs) ≡ false
apart_entries [] [] apart = absurd (apart refl)
apart_entries [] (f ∷ fs) apart = refl
apart_entries (e ∷ es) [] apart = refl
apart_entries (e ∷ es) (f ∷ fs) apart = and_right _ _ (and_right _ _ (apart_entries es fs (λ even. apart (ap suc even))))

-- ---- what an answer about two maps says
pub says_one_map : (r : Bool) (es fs : Entries) → r ≡ entries_agree es fs → IsTrue r ↔ (es ≡ fs)
says_one_map r es fs is = let decided = entries_agree-Decides es fs in (λ h. decided.0 (sym is ∙ h), λ one. is ∙ decided.1 one)

pub says_by_key : (r : Bool) (es fs : Entries) → rises es ≡ true → rises fs ≡ true → r ≡ entries_agree es fs
    → IsTrue r ↔ ((key : List ℕ) → entry_at key es ≡ entry_at key fs)
says_by_key r es fs es_rise fs_rise is =
    let says = says_one_map r es fs is in
    (λ h key. ap (entry_at key) (says.0 h), λ agree. says.1 (one_map es fs es_rise fs_rise agree))
