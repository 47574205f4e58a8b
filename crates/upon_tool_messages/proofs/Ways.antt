-- Paths on the way to a name.
use Rattle.std.proofs.Common.{◌≡◌, ◌≢◌, ◌⊎◌, ◌<◌, ◌≤◌, ◌+◌, ◌-◌, ◌++◌, ◌∷◌, ℕ, List, drop, get_or, length, lit<, suc, take, take-append-drop, inl, inr, sym, ap, subst, ◌∙◌, append_assoc, arith}
use Rattle.std.proofs.Math.Seq.{get_or-append_seam, get_or-append_right, take-append_seam}
use Rattle.std.proofs.lemmas.Str.Pattern.{drop_at_char, NoCharPasses-char}
use Rattle.std.proofs.lemmas.List.{get_or_append_left, length-append, take_all}
use Rattle.std.specs.Str.Pattern.{RFindsChar, SplitsAroundMatch}
use Rattle.upon_tool_messages.specs.Included.{IsOnWay}

-- a front of a path that ends before a slash is on the way as well
pub front_on_way : (front back path name : List ℕ) → path ≡ front ++ 47 ∷ back → IsOnWay path name → IsOnWay front name
front_on_way front back path name is (inl same) = inr (back, sym same ∙ is)
front_on_way front back path name is (inr (rest, more)) =
    inr (back ++ 47 ∷ rest, more ∙ (ap (λ l. l ++ 47 ∷ rest) is ∙ append_assoc front (47 ∷ back) (47 ∷ rest)))

-- what is on the way is a front of the name
is_front : (path name : List ℕ) → IsOnWay path name → take (length path) name ≡ path
is_front path name (inl same) = ap (take (length path)) (sym same) ∙ take_all (length path) path (omega arith)
is_front path name (inr (rest, more)) = ap (take (length path)) more ∙ take-append_seam path (47 ∷ rest)

-- and so long at most
within_name : (path name : List ℕ) → IsOnWay path name → length path ≤ length name
within_name path name (inl same) = omega (arith, ap length same)
within_name path name (inr (rest, more)) = omega (arith, ap length more, length-append path (47 ∷ rest))

-- each byte of it is the name's
same_byte : (path name : List ℕ) (k : ℕ) → IsOnWay path name → k < length path → get_or name k 0 ≡ get_or path k 0
same_byte path name k (inl same) inside = ap (λ l. get_or l k 0) (sym same)
same_byte path name k (inr (rest, more)) inside = ap (λ l. get_or l k 0) more ∙ get_or_append_left path (47 ∷ rest) 0 k inside

-- after it comes a slash, unless it is the name
slash_after : (path name : List ℕ) → IsOnWay path name → length path < length name → get_or name (length path) 0 ≡ 47
slash_after path name (inl same) shorter = absurd (omega (arith, ap length same))
slash_after path name (inr (rest, more)) shorter = ap (λ l. get_or l (length path) 0) more ∙ get_or-append_seam path 47 rest 0

-- a path that has no slash from a place on: what else is on the way, and is that long, is longer, or the same
pub longer_or_same : (name path other : List ℕ) (from : ℕ) → IsOnWay path name → IsOnWay other name
    → ((k : ℕ) → from ≤ k → k < length path → get_or path k 0 ≢ 47) → from ≤ length other → (length path < length other) ⊎ (other ≡ path)
longer_or_same name path other from way others none enough =
    elim (three (length path) (length other)) [
      | inl longer ↦ inl longer
      | inr (inl same) ↦ inr (sym (is_front other name others) ∙ (ap (λ n. take n name) (sym same) ∙ is_front path name way))
      | inr (inr shorter) ↦ absurd (none (length other) enough shorter
          (sym (same_byte path name (length other) way shorter)
          ∙ slash_after other name others (let within = within_name path name way in omega arith)))
    ]
  where
    three : (a b : ℕ) → (a < b) ⊎ ((a ≡ b) ⊎ (b < a))
    three a b = grind arith

-- ---- a path that is cut at its last slash
module _ (front back path : List ℕ) (is : path ≡ front ++ 47 ∷ back) (none : (k : ℕ) → k < length back → get_or back k 0 ≢ 47) where
  no_slash_after : (k : ℕ) → length front + 1 ≤ k → k < length path → get_or path k 0 ≢ 47
  no_slash_after k after inside slash =
      none (k - (length front + 1)) (omega (arith, ap length is, length-append front (47 ∷ back)))
      (sym (ap (λ l. get_or l k 0) is ∙ (get_or-append_right front (47 ∷ back) k 0 (omega arith) ∙ at_back)) ∙ slash)
    where
      one_more : k - length front ≡ suc (k - (length front + 1))
      one_more = omega arith

      at_back : get_or (47 ∷ back) (k - length front) 0 ≡ get_or back (k - (length front + 1)) 0
      at_back = ap (λ n. get_or (47 ∷ back) n 0) one_more

  -- what else is on the way, and longer than the front, is longer than the path, or the same
  pub beyond_front : (name other : List ℕ) → IsOnWay path name → IsOnWay other name → length front < length other → (length path < length other) ⊎ (other ≡ path)
  beyond_front name other way others longer = longer_or_same name path other (length front + 1) way others no_slash_after (omega arith)

-- what a path is around its last slash
pub cut_at_last : (path front back : List ℕ) → SplitsAroundMatch (RFindsChar 47) path front back
    → (path ≡ front ++ 47 ∷ back) × ((k : ℕ) → k < length back → get_or back k 0 ≢ 47)
cut_at_last path front back (i, j, found, is_front, is_back, ordered, first, second) = (
  sym (take-append-drop i path) ∙ (ap (λ l. take i path ++ l) (drop_at_char 47 path i j found.1 (lit< tt))
      ∙ (ap (λ l. l ++ 47 ∷ drop j path) (sym is_front) ∙ ap (λ l. front ++ 47 ∷ l) (sym is_back))),
  λ k inside slash. NoCharPasses-char 47 (drop j path) k found.0 (lit< tt) (subst (λ l. k < length l) is_back inside) (ap (λ l. get_or l k 0) (sym is_back) ∙ slash),
)
