-- Contexts that are read one after the other.
use Rattle.std.proofs.Common.{◌≡◌, ◌<◌, ◌≤◌, ◌+◌, ◌∙◌, ◌∷◌, ◌++◌, [], ℕ, List, Bool, true, false, append-nil, cond, Bor, Vec, Global, Option, length, take, get_or, map, refl, sym, ap, subst}
use Rattle.std.specs.List.{filter}
use Rattle.std.proofs.lemmas.List.Elements.{filter-append}
use Rattle.std.proofs.lemmas.List.{map-append, take_all, take_more}
use Rattle.upon_types.specs.Val.{Val}
use Rattle.upon_types.specs.View.{view}
use Rattle.upon_types.specs.declared.value.Value.{Value}
use Rattle.upon_tool_io.specs.World.{World}
use Rattle.upon_tool_data.specs.Context.{IsContext}
use Rattle.upon_tool_data.specs.Samples.{AreSamples}
use Rattle.upon_tool_data.specs.declared.words.DataWords.{DataWords}

-- the words of files of each context, as they are held
abbrev pub groups_in : List (Vec (Bor (List ℕ)) Global) → List (List (Bor (List ℕ)))
groups_in groups = map (λ group. group.items) groups

-- one context more
one_more : (world : World) (words : DataWords) (groups : List (List (Bor (List ℕ)))) (files : List (Bor (List ℕ))) (input next later : Option (List ℕ)) (vs : List Val) (v : Val) → AreSamples world words groups input vs next
    → IsContext world words.env files words.format words.values.now words.texts.now next v later → AreSamples world words (groups ++ files ∷ []) input (vs ++ v ∷ []) later
one_more world words [] files input next later [] v so_far is = (later, subst (λ input. IsContext world words.env files words.format words.values.now words.texts.now input v later) so_far is, refl)
one_more world words [] files input next later (w ∷ vs) v so_far is = absurd so_far
one_more world words (group ∷ groups) files input next later [] v so_far is = absurd so_far
one_more world words (group ∷ groups) files input next later (w ∷ vs) v so_far is = (so_far.0, so_far.1, one_more world words groups files so_far.0 next later vs v so_far.2 is)

pub read_more : (world : World) (words : DataWords) (groups : List (Vec (Bor (List ℕ)) Global)) (i : ℕ) (d : Vec (Bor (List ℕ)) Global) (input next later : Option (List ℕ)) (old new : List Value) (v : Value) → i < length groups → new ≡ old ++ v ∷ []
    → AreSamples world words (groups_in (take i groups)) input (map view old) next
    → IsContext world words.env (get_or groups i d).items words.format words.values.now words.texts.now next (view v) later
    → AreSamples world words (groups_in (take (i + 1) groups)) input (map view new) later
read_more world words groups i d input next later old new v inside pushed so_far is =
    let listed : groups_in (take (i + 1) groups) ≡ groups_in (take i groups) ++ (get_or groups i d).items ∷ [] = ap groups_in (take_more groups i d inside) ∙ map-append (λ group. group.items) (take i groups) (get_or groups i d ∷ []) in
    let viewed : map view new ≡ map view old ++ view v ∷ [] = ap (map view) pushed ∙ map-append view old (v ∷ []) in
    subst (λ groups. AreSamples world words groups input (map view new) later) (sym listed)
    (subst (λ vs. AreSamples world words (groups_in (take i groups) ++ (get_or groups i d).items ∷ []) input vs later) (sym viewed)
    (one_more world words (groups_in (take i groups)) (get_or groups i d).items input next later (map view old) (view v) so_far is))

pub all_read : (world : World) (words : DataWords) (groups : List (Vec (Bor (List ℕ)) Global)) (i : ℕ) (input later : Option (List ℕ)) (all : List Value) → length groups ≤ i
    → AreSamples world words (groups_in (take i groups)) input (map view all) later → AreSamples world words (groups_in groups) input (map view all) later
all_read world words groups i input later all done so_far =
    subst (λ groups. AreSamples world words (groups_in groups) input (map view all) later) (take_all i groups done) so_far

-- ---- the words that pass a test, so far
module _ {X : Type 0} (p : X → Bool) (xs : List X) (i : ℕ) (d : X) where
  next_kept : i < length xs → filter p (take (i + 1) xs) ≡ filter p (take i xs) ++ filter p (get_or xs i d ∷ [])
  next_kept inside = ap (filter p) (take_more xs i d inside) ∙ filter-append p (take i xs) (get_or xs i d ∷ [])

  pub kept_more : (old new : List X) → i < length xs → p (get_or xs i d) ≡ true → new ≡ old ++ get_or xs i d ∷ [] → old ≡ filter p (take i xs) → new ≡ filter p (take (i + 1) xs)
  kept_more old new inside passes pushed so_far =
      pushed
      ∙ ap (λ old. old ++ get_or xs i d ∷ []) so_far
      ∙ ap (λ b. filter p (take i xs) ++ cond b (get_or xs i d ∷ []) []) (sym passes)
      ∙ sym (next_kept inside)

  pub passed_over : (old : List X) → i < length xs → p (get_or xs i d) ≡ false → old ≡ filter p (take i xs) → old ≡ filter p (take (i + 1) xs)
  passed_over old inside fails so_far =
      so_far
      ∙ sym (append-nil (filter p (take i xs)))
      ∙ ap (λ b. filter p (take i xs) ++ cond b (get_or xs i d ∷ []) []) (sym fails)
      ∙ sym (next_kept inside)
