-- The names of files in a folder.
use Rattle.std.specs.Prelude.{◌≡◌, ◌==◌, ◌<◌, ◌-◌, ◌&&◌, ℕ, List, [], ◌∷◌, length, map, take, Bool, not, Option, Some, None, codes, string_bytes, bytes_eq, nat_eq, slice_index_or, if◌then◌else◌}
use Rattle.std.specs.List.{list_all, list_any, slice_split, ends_with}
use Rattle.std.specs.Str.{byte}
use Rattle.upon_tool_many.specs.declared.pages.Page.{Page}

-- a slash, which is between the parts of a path
abbrev pub is_part_end : ℕ → Bool
is_part_end b = b == byte "/"

-- the name of a file in its folder (POSIX, 3.170 and 4.16): some bytes without NUL, that name neither the folder nor
-- the one above it
abbrev pub is_file_name : List ℕ → Bool
is_file_name part = ((not (length part == 0) && not (bytes_eq part (codes "."))) && not (bytes_eq part (codes "..")))
    && not (list_any (λ b. b == 0) part)

-- a name that stays in its folder: each part between slashes is the name of a file
abbrev pub stays_inside : List ℕ → Bool
stays_inside name = list_all is_file_name (slice_split is_part_end name)

-- the extension of a template's file
abbrev pub extension : List ℕ
extension = codes ".upon"

-- a path without the extension of a template, at its end
abbrev pub without_extension : List ℕ → List ℕ
without_extension path = take (length path - length extension) path

-- whether a path without its extension is still that of a file
abbrev pub has_stem : List ℕ → Bool
has_stem stem = not (length stem == 0) && not (ends_with nat_eq stem (byte "/" ∷ []))

-- the name of the page that a template's file is rendered to: its path without the extension, if it has that
abbrev pub page_name : List ℕ → Option (List ℕ)
page_name path =
    if ends_with nat_eq path extension && has_stem (without_extension path) then Some (without_extension path) else None

-- the names of pages
abbrev pub page_names : {T : Type 0} → List (Page T) → List (List ℕ)
page_names pages = map (λ page. string_bytes page.name) pages

-- no two of the first so many names are equal
abbrev pub DifferBelow : List (List ℕ) → ℕ → Type 0
DifferBelow names n =
    (i j : ℕ) → i < j → j < n → slice_index_or names i [] ≡ slice_index_or names j [] → ⊥

-- the places of the first name that is equal to an earlier one, of that one and its own; none if no two are equal
abbrev pub IsFirstAgain : List (List ℕ) → Option (ℕ × ℕ) → Type 0
IsFirstAgain names None = DifferBelow names (length names)
IsFirstAgain names (Some places) = (places.0 < places.1) × (places.1 < length names)
    × (slice_index_or names places.0 [] ≡ slice_index_or names places.1 []) × DifferBelow names places.1
