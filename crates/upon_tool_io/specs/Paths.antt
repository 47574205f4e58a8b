-- The paths of files in folders.
use Rattle.std.specs.Prelude.{ℕ, List, [], ◌∷◌, ◌++◌}
use Rattle.std.specs.Str.{byte}

-- the path of a name in a folder: with a `/` between them, unless the folder's name is empty
abbrev pub joined_path : List ℕ → List ℕ → List ℕ
joined_path [] name = name
joined_path (b ∷ bs) name = (b ∷ bs) ++ byte "/" ∷ name
