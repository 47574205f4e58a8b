-- Texts that are cut to a number of columns.
use Rattle.std.specs.Prelude.{ℕ, zero, suc, ◌-◌, List, [], ◌∷◌, ◌++◌, nat_le, if◌then◌else◌}
use Rattle.upon_std.specs.Encoding.Columns.{columns_of, width}

-- the longest front of characters that takes no more than so many columns
abbrev pub front : ℕ → List ℕ → List ℕ
front n [] = []
front n (c ∷ cs) = if nat_le (width c) n then c ∷ front (n - width c) cs else []

-- `…`, which takes one column
abbrev pub ellipsis : ℕ
ellipsis = 0x2026

-- what is left of characters that take more than so many columns: a front, and `…` where there is a column for it
abbrev pub cut : ℕ → List ℕ → List ℕ
cut zero cs = []
cut (suc n) cs = front n cs ++ (ellipsis ∷ [])

-- the characters if they take no more than so many columns, else what is left of them
abbrev pub truncated : ℕ → List ℕ → List ℕ
truncated n cs = if nat_le (columns_of cs) n then cs else cut n cs
