use Rattle.std.proofs.Common.{rules, arith, ◌≡◌, ◌∙◌, ◌<◌, ◌≤◌, ◌+◌, ◌∷◌, ◌++◌, [], ℕ, List, Bor, map, length, drop, get_or, sym, ap, append_assoc, append-nil}
use Rattle.std.proofs.lemmas.List.{drop_all, drop_more, map-append}
use Rattle.serde_json.specs.Data.{Data, string}
use Rattle.serde_json.specs.View.{view, items_of, items_view}
use Rattle.serde_json.specs.declared.value.Value.{Value}
use Rattle.upon_needs.specs.Names.{texts}
use Rattle.upon_calls.proofs.names.strings.Goals as goal

-- one value more
strings_step : (vs new : List Value) (v : Value) (names : List (Bor (List ℕ))) (i : ℕ) (d : Bor (List ℕ)) → i < length names
    → map view vs ++ map string (texts (drop i names)) ≡ map string (texts names) → view v ≡ string (get_or names i d).now → new ≡ vs ++ v ∷ []
    → map view new ++ map string (texts (drop (i + 1) names)) ≡ map string (texts names)
strings_step vs new v names i d inside so_far is pushed =
    let rest : List Data = map string (texts (drop (i + 1) names)) in
    ap (λ ws. map view ws ++ rest) pushed
    ∙ ap (λ ds. ds ++ rest) (map-append view vs (v ∷ []))
    ∙ append_assoc (map view vs) (view v ∷ []) rest
    ∙ ap (λ one. map view vs ++ one ∷ rest) is
    ∙ ap (λ ns. map view vs ++ map string (texts ns)) (sym (drop_more names i d inside))
    ∙ so_far

strings_done : (vs : List Value) (names : List (Bor (List ℕ))) (i : ℕ) → length names ≤ i
    → map view vs ++ map string (texts (drop i names)) ≡ map string (texts names) → items_view vs ≡ items_of (map string (texts names))
strings_done vs names i past so_far =
    ap items_of (sym (append-nil (map view vs)) ∙ ap (λ ns. map view vs ++ map string (texts ns)) (sym (drop_all i names past)) ∙ so_far)

pub loop-name-preserved : goal.loop-name-preserved
loop-name-preserved c =
    let names = c.args.names.now in
    let at = c.loop-name.name-index in
    let inside : at < length names = search rules in
    strings_step c.loop-name.items.items _ _ names at _ inside c.loop-name.invariant c.in_ok-try_from_str.ensures c.in_ok-push.ensures.items

pub returns : goal.returns
returns c = strings_done c.loop-name.items.items c.args.names.now c.loop-name.name-index (omega (arith, c.loop-name-test.false)) c.loop-name.invariant
