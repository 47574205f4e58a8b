use Rattle.std.proofs.Common.{◌≡◌, ◌∷◌, ◌≢◌, List, ℕ, Some, None, IfOk, option_map, string_bytes, ap, sym, subst, ◌∙◌, lit<}
use Rattle.std.proofs.lemmas.Str.Pattern.{strip_prefix_char}
use Rattle.upon_store.specs.Paths.{path_texts, found_path, path_steps, segments, resolved}
use Rattle.upon_store.proofs.Steps.{resolved_from_top, resolved_from_folder}
use Rattle.upon_store.proofs.path.resolve.Goals as goal

pub returns-in-Some : goal.returns-in-Some
returns-in-Some c =
    let starts : c.args.name.now ≡ 47 ∷ c.in-Some.rest.now =
    strip_prefix_char 47 c.args.name.now (Some c.in-Some.rest) c.in-Some.ensures.cases (lit< tt) in
    let same : found_path (path_steps (path_texts c.new.result.items) (segments c.in-Some.rest.now)) ≡ resolved c.args.path.now c.args.name.now =
    ap (λ ts. found_path (path_steps (path_texts ts) (segments c.in-Some.rest.now))) c.new.ensures.items
    ∙ sym (resolved_from_top c.args.path.now c.args.name.now c.in-Some.rest.now starts) in
    subst (λ p. IfOk c.walk.result (λ found. option_map string_bytes found ≡ p)) same c.walk.ensures

pub returns-in_ok-folder-in-None : goal.returns-in_ok-folder-in-None
returns-in_ok-folder-in-None c =
    let starts : (rest : List ℕ) → c.args.name.now ≢ 47 ∷ rest =
    strip_prefix_char 47 c.args.name.now None c.in-None.ensures.cases (lit< tt) in
    let same : found_path (path_steps (path_texts c.in_ok-folder-in-None.folder.items) (segments c.args.name.now)) ≡ resolved c.args.path.now c.args.name.now =
    ap (λ ts. found_path (path_steps ts (segments c.args.name.now))) c.in_ok-folder-in-None.ensures
    ∙ sym (resolved_from_folder c.args.path.now c.args.name.now starts) in
    subst (λ p. IfOk c.walk-in-None.result (λ found. option_map string_bytes found ≡ p)) same c.walk-in-None.ensures
