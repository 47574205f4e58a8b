-- What is at each key as one more text is set over entries.
use Rattle.std.proofs.Common.{◌≡◌, ℕ, List, [], ◌∷◌, ◌+◌, ◌<◌, take, get_or, length, Option, None, Some, Bor, refl, sym, ap, ◌∙◌}
use Rattle.std.proofs.lemmas.List.{map-append, take_more}
use Rattle.std.specs.Prelude.{bytes_eq, if◌then◌else◌}
use Rattle.upon_types.specs.Conversions.{last_at, or_else}
use Rattle.upon_types.specs.Val.{Val, text_val}
use Rattle.upon_types.proofs.ConversionLemmas.{last_at-append}
use Rattle.upon_json.specs.Context.{set_pairs}

or_else-assoc : {A : Type 0} (a b c : Option A) → or_else a (or_else b c) ≡ or_else (or_else a b) c
or_else-assoc (Some x) b c = refl
or_else-assoc None b c = refl

pub set_last : (key : List ℕ) (set : List (Bor (List ℕ) × Bor (List ℕ))) (i : ℕ) (d : Bor (List ℕ) × Bor (List ℕ)) (base : Option Val) → i < length set
    → or_else (if bytes_eq key (get_or set i d).0.now then Some (text_val (get_or set i d).1.now) else None) (or_else (last_at key (set_pairs (take i set))) base)
    ≡ or_else (last_at key (set_pairs (take (i + 1) set))) base
set_last key set i d base inside =
    let p = get_or set i d in
    or_else-assoc _ (last_at key (set_pairs (take i set))) base
    ∙ ap (λ o. or_else o base) (sym (last_at-append key (set_pairs (take i set)) (p.0.now, text_val p.1.now)))
    ∙ ap (λ ps. or_else (last_at key ps) base) (sym (map-append (λ pair. (pair.0.now, text_val pair.1.now)) (take i set) (p ∷ [])))
    ∙ ap (λ ps. or_else (last_at key (set_pairs ps)) base) (sym (take_more set i d inside))
