-- Rows of a program, of which the last is on top.
use Rattle.std.specs.Prelude.{List, [], ◌∷◌}

-- what these denote on top of others, the last of them on top
abbrev pub on_top : {A B : Type 0} → (A → B) → List A → List B → List B
on_top denotes [] below = below
on_top denotes (x ∷ xs) below = on_top denotes xs (denotes x ∷ below)
