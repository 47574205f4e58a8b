use Rattle.std.proofs.Common.{rules, arith, ◌≡◌, ◌∙◌, ◌<◌, ◌≤◌, ◌+◌, ◌∷◌, ◌++◌, [], ℕ, List, Bor, length, drop, get_or, sym, ap, append_assoc, append-nil}
use Rattle.std.proofs.lemmas.List.{drop_all, drop_more}
use Rattle.upon_needs.specs.Names.{texts}
use Rattle.upon_tool.specs.Names.{lines_of, one_line}
use Rattle.upon_tool.proofs.names_text.push_lines.Goals as goal

-- one line more
lines_step : (kind start done begun named new : List ℕ) (names : List (Bor (List ℕ))) (i : ℕ) (d : Bor (List ℕ)) → i < length names
    → done ++ lines_of kind (texts (drop i names)) ≡ start ++ lines_of kind (texts names)
    → begun ≡ done ++ kind → named ≡ begun ++ one_line (get_or names i d).now → new ≡ named ++ 10 ∷ []
    → new ++ lines_of kind (texts (drop (i + 1) names)) ≡ start ++ lines_of kind (texts names)
lines_step kind start done begun named new names i d inside so_far begins goes ends =
    let rest : List ℕ = lines_of kind (texts (drop (i + 1) names)) in
    let line : List ℕ = one_line (get_or names i d).now in
    ap (λ t. t ++ rest) (ends ∙ ap (λ t. t ++ 10 ∷ []) (goes ∙ ap (λ t. t ++ line) begins))
    ∙ append_assoc ((done ++ kind) ++ line) (10 ∷ []) rest
    ∙ append_assoc (done ++ kind) line (10 ∷ rest)
    ∙ append_assoc done kind (line ++ 10 ∷ rest)
    ∙ ap (λ ns. done ++ lines_of kind (texts ns)) (sym (drop_more names i d inside))
    ∙ so_far

lines_done : (kind start done : List ℕ) (names : List (Bor (List ℕ))) (i : ℕ) → length names ≤ i
    → done ++ lines_of kind (texts (drop i names)) ≡ start ++ lines_of kind (texts names) → done ≡ start ++ lines_of kind (texts names)
lines_done kind start done names i past so_far =
    sym (append-nil done) ∙ ap (λ ns. done ++ lines_of kind (texts ns)) (sym (drop_all i names past)) ∙ so_far

pub loop-name-preserved : goal.loop-name-preserved
loop-name-preserved c =
    let names = c.args.names.now in
    let at = c.loop-name.name-index in
    let inside : at < length names = search rules in
    lines_step c.args.kind.now c.args.text.now.items c.loop-name.text.items _ _ _ names at _ inside c.loop-name.invariant c.in_ok-extend_from_slice.ensures.items c.in_ok-push_name.ensures c.in_ok-push.ensures.items

pub returns : goal.returns
returns c = lines_done c.args.kind.now c.args.text.now.items c.loop-name.text.items c.args.names.now c.loop-name.name-index (omega (arith, c.loop-name-test.false)) c.loop-name.invariant
