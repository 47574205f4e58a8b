-- A mapping of case by tables: where each character that the tables give stays as it is, so does each that the mapping gives.
-- That of the tables is a test that computes.
use Rattle.std.proofs.Common.{◌≡◌, ◌⊎◌, ℕ, ◌+◌, ◌-◌, ◌%◌, ◌<◌, Bool, true, false, not, ◌&&◌, ◌||◌, ◌==◌, nat_le, List, [], ◌∷◌, refl, sym, ap, subst, ◌∙◌, inl, inr, ⊎_elim, arith, leb-true, eqb-true, eq-eqb}
use Rattle.std.specs.List.{list_all}
use Rattle.std.specs.Char.Unicode.Rows.{Row, in_run, by_runs, string_of, by_strings, case_mapping}
use Rattle.std.proofs.lemmas.Bool.{and_parts, and_from, cond_both, cases_Bool, agree_below, agree_below_at}

-- the list is this character alone
abbrev pub is_alone : ℕ → List ℕ → Bool
is_alone x [] = false
is_alone x (y ∷ []) = y == x
is_alone x (y ∷ (z ∷ zs)) = false

pub alone : (x : ℕ) (xs : List ℕ) → is_alone x xs ≡ true → xs ≡ x ∷ []
alone x [] h = cc
alone x (y ∷ []) h = ap (λ z. z ∷ []) (eqb-true y x h)
alone x (y ∷ (z ∷ zs)) h = cc

-- the mapping leaves the character alone
abbrev pub stays : (ℕ → List ℕ) → ℕ → Bool
stays mapping x = is_alone x (mapping x)

-- what the run makes of each character that it holds passes
abbrev run_passes : (ℕ → Bool) → Row → Bool
run_passes test run = agree_below (λ n. not (n % run.2 == 0) || test (run.3 + n)) (λ _. true) (run.1 - run.0 + 1)

run_passes-at : (test : ℕ → Bool) (run : Row) (c : ℕ) → run_passes test run ≡ true → in_run run c ≡ true → test (run.3 + (c - run.0)) ≡ true
run_passes-at test run c h inside =
    let first = and_parts (nat_le run.0 c && nat_le c run.1) ((c - run.0) % run.2 == 0) inside in
    let ends = and_parts (nat_le run.0 c) (nat_le c run.1) first.0 in
    let near : c - run.0 < run.1 - run.0 + 1 = omega (arith, leb-true run.0 c ends.0, leb-true c run.1 ends.1) in
    subst (λ b. (not b || test (run.3 + (c - run.0))) ≡ true) first.1
    (agree_below_at (λ n. not (n % run.2 == 0) || test (run.3 + n)) (λ _. true) (run.1 - run.0 + 1) (c - run.0) h near)

-- a character that the runs change becomes one that passes
by_runs-passes : (test : ℕ → Bool) (runs : List Row) (c : ℕ) → list_all (run_passes test) runs ≡ true → (by_runs runs c ≡ c) ⊎ (test (by_runs runs c) ≡ true)
unfolding by_runs
by_runs-passes test [] c h = inl refl
by_runs-passes test (run ∷ runs) c h =
    let parts = and_parts (run_passes test run) (list_all (run_passes test) runs) h in
    cond_both (in_run run c) (run.3 + (c - run.0)) (by_runs runs c) (λ v. (v ≡ c) ⊎ (test v ≡ true))
    (λ inside. inr (run_passes-at test run c parts.0 inside))
    (λ _. by_runs-passes test runs c parts.1)

-- a character without a string becomes the default, and one with a string becomes characters that pass
by_strings-passes : (test : ℕ → Bool) (strings : List Row) (c : ℕ) → list_all (λ row. list_all test (string_of row)) strings ≡ true
    → ((default : List ℕ) → by_strings default strings c ≡ default) ⊎ ((default : List ℕ) → list_all test (by_strings default strings c) ≡ true)
unfolding by_strings
by_strings-passes test [] c h = inl (λ default. refl)
by_strings-passes test (row ∷ rows) c h =
    let parts = and_parts (list_all test (string_of row)) (list_all (λ r. list_all test (string_of r)) rows) h in
    ⊎_elim
    (λ here. inr (λ default. rw here parts.0))
    (λ elsewhere.
    ⊎_elim (λ none. inl (λ default. rw elsewhere (none default))) (λ some. inr (λ default. rw elsewhere (some default)))
    (by_strings-passes test rows c parts.1))
    (cases_Bool (row.0 == c))

-- each character that the runs or the strings give stays
abbrev pub tables_stay : List Row → List Row → Bool
tables_stay runs strings =
    list_all (run_passes (stays (case_mapping runs strings))) runs
    && list_all (λ row. list_all (stays (case_mapping runs strings)) (string_of row)) strings

pub mapping_stays : (runs strings : List Row) → tables_stay runs strings ≡ true
    → (c : ℕ) → list_all (stays (case_mapping runs strings)) (case_mapping runs strings c) ≡ true
mapping_stays runs strings h c =
    let mapping = case_mapping runs strings in
    let parts = and_parts (list_all (run_passes (stays mapping)) runs) (list_all (λ row. list_all (stays mapping) (string_of row)) strings) h in
    ⊎_elim
    (λ default.
    let one : mapping c ≡ by_runs runs c ∷ [] = default (by_runs runs c ∷ []) in
    subst (λ xs. list_all (stays mapping) xs ≡ true) (sym one)
    (and_from (stays mapping (by_runs runs c)) true
    (⊎_elim
    (λ same. rw same (subst (λ xs. is_alone c xs ≡ true) (sym (one ∙ ap (λ x. x ∷ []) same)) (eq-eqb c c refl)))
    (λ passes. passes)
    (by_runs-passes (stays mapping) runs c parts.0))
    refl))
    (λ strings_pass. strings_pass (by_runs runs c ∷ []))
    (by_strings-passes (stays mapping) strings c parts.1)
