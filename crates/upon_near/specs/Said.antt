-- What is said of the names that there are.
use Rattle.std.specs.Prelude.{ℕ, List, [], ◌∷◌, ◌++◌, length, take, nat_lt, Option, Some, None, codes, if◌then◌else◌}
use Rattle.std.specs.Borrow.{Bor}
use Rattle.std.specs.List.{join_by}

-- what is said of two names
abbrev pub two_text : List ℕ → List ℕ → List ℕ
two_text first second = codes "there are `" ++ (first ++ (codes "` and `" ++ (second ++ codes "`")))

-- names with commas between them
abbrev pub with_commas : List (Bor (List ℕ)) → List ℕ
with_commas names = join_by (λ name. name.now) (codes ", ") names

-- a list of names: of more than eight, the first eight
abbrev pub names_list_text : List (Bor (List ℕ)) → List ℕ
names_list_text names = codes "there are: "
    ++ (if nat_lt 8 (length names) then with_commas (take 8 names) ++ codes ", .." else with_commas names)

-- what is said of names: each of one or two, and a list of more
abbrev pub names_text : List (Bor (List ℕ)) → Option (List ℕ)
names_text [] = None
names_text (name ∷ []) = Some (codes "there is `" ++ (name.now ++ codes "`"))
names_text (first ∷ (second ∷ [])) = Some (two_text first.now second.now)
names_text (first ∷ (second ∷ (third ∷ more))) = Some (names_list_text (first ∷ (second ∷ (third ∷ more))))
