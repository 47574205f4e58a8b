-- Paths of templates, and the path that a name denotes in the folder of a path.
use Rattle.std.specs.Prelude.{ℕ, List, [], ◌∷◌, ◌++◌, ◌==◌, ◌-◌, Bool, ◌||◌, not, cond, Option, Some, None, bytes_eq, codes, length, take, map}
use Rattle.std.specs.Borrow.{Bor}
use Rattle.std.specs.List.{slice_split, join_with_byte, list_all}

-- the byte `/`
abbrev pub is_slash : ℕ → Bool
is_slash b = b == 47

-- what lies between the slashes of a text
abbrev pub segments : List ℕ → List (List ℕ)
segments text = slice_split is_slash text

-- a segment of a path: it is not empty, `.` or `..`
abbrev pub is_segment : List ℕ → Bool
is_segment t = not (bytes_eq t [] || bytes_eq t (codes ".") || bytes_eq t (codes ".."))

-- a text is a path
unfoldable pub is_path : List ℕ → Bool
is_path text = list_all is_segment (segments text)

-- all but the last
abbrev pub but_last : List (List ℕ) → List (List ℕ)
but_last ts = take (length ts - 1) ts

-- the segments of the folder that a path lies in
abbrev pub folder_of : List ℕ → List (List ℕ)
folder_of path = but_last (segments path)

-- out of a folder into the one that it lies in; the top lies in none
abbrev pub up : List (List ℕ) → Option (List (List ℕ))
up [] = None
up (t ∷ ts) = Some (but_last (t ∷ ts))

-- on by one segment of a name
abbrev pub path_step : List (List ℕ) → List ℕ → Option (List (List ℕ))
path_step folder t = cond (bytes_eq t []) None
    (cond (bytes_eq t (codes ".")) (Some folder)
    (cond (bytes_eq t (codes "..")) (up folder)
    (Some (folder ++ t ∷ []))))

-- on from where a step led, if it led anywhere
abbrev pub then_on : Option (List (List ℕ)) → (List (List ℕ) → Option (List (List ℕ)))
    → Option (List (List ℕ))
then_on None on = None
then_on (Some folder) on = on folder

-- on by the segments of a name, from a folder
abbrev pub path_steps : List (List ℕ) → List (List ℕ) → Option (List (List ℕ))
path_steps folder [] = Some folder
path_steps folder (t ∷ ts) = then_on (path_step folder t) (λ next. path_steps next ts)

-- on by a name: from the top if it begins with a slash, else from a folder
abbrev pub steps_of : List (List ℕ) → List ℕ → Option (List (List ℕ))
steps_of folder [] = path_steps folder (segments [])
steps_of folder (b ∷ t) = cond (b == 47) (path_steps [] (segments t)) (path_steps folder (segments (b ∷ t)))

-- the text of segments, if there are any
abbrev pub path_text : List (List ℕ) → Option (List ℕ)
path_text [] = None
path_text (t ∷ ts) = Some (join_with_byte 47 (t ∷ ts))

-- the path where steps led, if they led anywhere
abbrev pub found_path : Option (List (List ℕ)) → Option (List ℕ)
found_path None = None
found_path (Some ts) = path_text ts

-- the path that a name denotes in the folder of a path
unfoldable pub resolved : List ℕ → List ℕ → Option (List ℕ)
resolved path name = found_path (steps_of (folder_of path) name)

-- what texts say
abbrev pub path_texts : List (Bor (List ℕ)) → List (List ℕ)
path_texts ts = map (λ t. t.now) ts
