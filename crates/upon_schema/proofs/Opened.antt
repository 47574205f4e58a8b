-- References that are open.
use Rattle.std.proofs.Common.{◌≡◌, ◌||◌, ◌+◌, ◌<◌, ℕ, List, Bool, true, false, Bor, length, get_or, drop, map, sym, ap, ◌∙◌, bytes_eq}
use Rattle.std.proofs.lemmas.List.{drop_more}
use Rattle.upon_shape_spec.proofs.Tests.{or_first}
use Rattle.upon_shape_spec.specs.Wider.{is_listed}

abbrev pub texts : List (Bor (List ℕ)) → List (List ℕ)
texts rs = map (λ r. r.now) rs

opened_cut : (reference : List ℕ) (rs : List (Bor (List ℕ))) (i : ℕ) (d : Bor (List ℕ)) → i < length rs → is_listed reference (texts (drop i rs)) ≡ (bytes_eq reference (get_or rs i d).now || is_listed reference (texts (drop (i + 1) rs)))
opened_cut reference rs i d less = ap (λ (xs : List (Bor (List ℕ))). is_listed reference (texts xs)) (drop_more rs i d less)

pub opened_here : (reference : List ℕ) (rs : List (Bor (List ℕ))) (i : ℕ) (d : Bor (List ℕ)) (b : Bool) → i < length rs → is_listed reference (texts (drop i rs)) ≡ is_listed reference (texts rs) → b ≡ bytes_eq reference (get_or rs i d).now → b ≡ true
    → true ≡ is_listed reference (texts rs)
opened_here reference rs i d b less rest is e =
    sym (or_first (bytes_eq reference (get_or rs i d).now) (is_listed reference (texts (drop (i + 1) rs))) (sym is ∙ e)) ∙ sym (opened_cut reference rs i d less) ∙ rest

pub opened_later : (reference : List ℕ) (rs : List (Bor (List ℕ))) (i : ℕ) (d : Bor (List ℕ)) (b : Bool) → i < length rs → is_listed reference (texts (drop i rs)) ≡ is_listed reference (texts rs) → b ≡ bytes_eq reference (get_or rs i d).now → b ≡ false
    → is_listed reference (texts (drop (i + 1) rs)) ≡ is_listed reference (texts rs)
opened_later reference rs i d b less rest is e =
    sym (opened_cut reference rs i d less ∙ ap (λ (x : Bool). x || is_listed reference (texts (drop (i + 1) rs))) (sym is ∙ e)) ∙ rest
