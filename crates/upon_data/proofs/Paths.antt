-- Paths of keys, and entries of which a value inside is set.
use Rattle.std.proofs.Common.{◌≡◌, ◌≢◌, ◌<◌, ◌+◌, ℕ, List, [], ◌∷◌, ◌++◌, length, length-append, get_or, Bool, true, false, ◌==◌, Bor, Option, None, Some, option_map, MatchOption, IfSome, IfNone, nat_cmp, string_bytes, arith, refl, sym, ap, subst, ◌∙◌}
use Rattle.std.proofs.lemmas.Bool.{ne_eqb}
use Rattle.std.proofs.lemmas.List.{take-append-drop}
use Rattle.std.proofs.lemmas.List.Elements.{All-from_get_or}
use Rattle.std.proofs.lemmas.List.Splits.{slice_split-cons_yes, slice_split_first, slice_split_none}
use Rattle.std.proofs.lemmas.Map.Text.{is_eq-slice_cmp}
use Rattle.std.proofs.lemmas.Str.Pattern.{drop_at_char, NoCharPasses-char}
use Rattle.std.specs.BTreeMap.{is_at}
use Rattle.std.specs.Cmp.Lexicographic.{slice_cmp}
use Rattle.std.specs.List.{after_first, before_first, onto_first, position_or_len, slice_split}
use Rattle.std.specs.Map.{set_value}
use Rattle.std.specs.Prelude.{bytes_eq, if◌then◌else◌}
use Rattle.std.specs.Str.{NoCharPasses}
use Rattle.std.specs.Str.Pattern.{RFindsChar, SplitsAroundMatch}
use Rattle.upon_types.specs.Val.{Val, map_val, Entries, no_entries, entry_then, entry_at}
use Rattle.upon_types.specs.View.{view, entries_view}
use Rattle.upon_types.specs.declared.value.Value.{Value}
use Rattle.upon_types.proofs.Views.{Entry}
use Rattle.upon_json.specs.Value.{put}
use Rattle.upon_data.specs.AtPath.{put_inside, rebuilt, HasGoneIn}
use Rattle.upon_data.specs.Entries.{changed_at, keys_of, replaced_value, with_member}
use Rattle.upon_data.specs.declared.at_path.Around.{Around}

-- ---- keys
-- what a text cut at its first dot is
abbrev IsCut : List ℕ → Option (Bor (List ℕ) × Bor (List ℕ)) → Type 0
IsCut path r = MatchOption r (position_or_len (λ b. b == 46) path ≡ length path)
    (λ x. (position_or_len (λ b. b == 46) path < length path) × (x.0.now ≡ before_first (λ b. b == 46) path) × (x.1.now ≡ after_first (λ b. b == 46) path))

abbrev IsParted : List ℕ → Option (Bor (List ℕ) × Bor (List ℕ)) → Type 0
IsParted path r = MatchOption r ((i : ℕ) → i < length path → get_or path i 0 ≢ 46)
    (λ x. (path ≡ x.0.now ++ (46 ∷ x.1.now)) × ((i : ℕ) → i < length x.0.now → get_or x.0.now i 0 ≢ 46))

pub cut_keys : (path : List ℕ) (r : Option (Bor (List ℕ) × Bor (List ℕ))) → IsCut path r → IfSome r (λ parts. keys_of path ≡ parts.0.now ∷ keys_of parts.1.now)
cut_keys path None is = tt
cut_keys path (Some x) is =
    slice_split_first (λ b. b == 46) path 0 is.0
    ∙ ap (λ key. key ∷ slice_split (λ b. b == 46) (after_first (λ b. b == 46) path)) (sym is.1)
    ∙ ap (λ rest. x.0.now ∷ slice_split (λ b. b == 46) rest) (sym is.2)

pub cut_shorter : (path : List ℕ) (r : Option (Bor (List ℕ) × Bor (List ℕ))) → IsParted path r → IfSome r (λ parts. length parts.1.now < length path)
cut_shorter path None is = tt
cut_shorter path (Some x) is =
    let whole : length path ≡ length x.0.now + length (46 ∷ x.1.now) = ap length is.0 ∙ length-append x.0.now (46 ∷ x.1.now) in
    omega (arith, whole)

pub one_key : (path : List ℕ) (r : Option (Bor (List ℕ) × Bor (List ℕ))) → IsParted path r → IfNone r (keys_of path ≡ path ∷ [])
one_key path None none = slice_split_none (λ b. b == 46) path (All-from_get_or (λ b. (b == 46) ≡ false) path 0 (λ i inside. ne_eqb (get_or path i 0) 46 (none i inside)))
one_key path (Some x) is = tt

-- a path cut at its last dot
abbrev IsCutLast : List ℕ → Option (Bor (List ℕ) × Bor (List ℕ)) → Type 0
IsCutLast path r = MatchOption r (RFindsChar 46 path None) (λ x. SplitsAroundMatch (RFindsChar 46) path x.0.now x.1.now)

-- a path has a key
split_some : (p : ℕ → Bool) (xs : List ℕ) → (first : List ℕ) × (more : List (List ℕ)) × (slice_split p xs ≡ first ∷ more)
split_some p [] = ([], [], refl)
split_some p (x ∷ xs) =
    let rest = split_some p xs in
    elim (p x) as (λ b. (first : List ℕ) × (more : List (List ℕ)) × ((if b then [] ∷ slice_split p xs else onto_first x (slice_split p xs)) ≡ first ∷ more)) [
      | true ↦ ([], slice_split p xs, refl)
      | false ↦ (x ∷ rest.0, rest.1, ap (onto_first x) rest.2)
    ]

-- what is cut at a dot is what stands before it, cut, and after it, cut
split_two : (p : ℕ → Bool) (xs : List ℕ) (y : ℕ) (ys : List ℕ) → p y ≡ true → slice_split p (xs ++ y ∷ ys) ≡ slice_split p xs ++ slice_split p ys
split_two p [] y ys cuts = slice_split-cons_yes p y ys cuts
split_two p (x ∷ xs) y ys cuts =
    let rest = split_two p xs y ys cuts in
    let some = split_some p xs in
    elim (p x) as (λ b. (if b then [] ∷ slice_split p (xs ++ y ∷ ys) else onto_first x (slice_split p (xs ++ y ∷ ys))) ≡ (if b then [] ∷ slice_split p xs else onto_first x (slice_split p xs)) ++ slice_split p ys) [
      | true ↦ ap (λ parts. [] ∷ parts) rest
      | false ↦ ap (onto_first x) rest
          ∙ ap (λ parts. onto_first x (parts ++ slice_split p ys)) some.2
          ∙ ap (λ parts. onto_first x parts ++ slice_split p ys) (sym some.2)
    ]

-- the two sides of the last dot
pub last_parts : (path : List ℕ) (r : Option (Bor (List ℕ) × Bor (List ℕ))) → IsCutLast path r
    → MatchOption r ((i : ℕ) → i < length path → get_or path i 0 ≢ 46) (λ x. (path ≡ x.0.now ++ (46 ∷ x.1.now)) × ((i : ℕ) → i < length x.1.now → get_or x.1.now i 0 ≢ 46))
last_parts path None is = λ i. NoCharPasses-char 46 path i is (omega arith)
last_parts path (Some x) is = (
  sym (take-append-drop is.0 path) ∙ (λ k. sym is.3 k ++ (drop_at_char 46 path is.0 is.1 is.2.1 (omega arith) ∙ ap (λ l. 46 ∷ l) (sym is.4)) k),
  λ i. NoCharPasses-char 46 x.1.now i (subst (NoCharPasses (λ d. d == 46)) (sym is.4) is.2.0) (omega arith),
)

dotless : (path : List ℕ) → ((i : ℕ) → i < length path → get_or path i 0 ≢ 46) → keys_of path ≡ path ∷ []
dotless path none = slice_split_none (λ b. b == 46) path (All-from_get_or (λ b. (b == 46) ≡ false) path 0 (λ i inside. ne_eqb (get_or path i 0) 46 (none i inside)))

pub last_keys : (path : List ℕ) (r : Option (Bor (List ℕ) × Bor (List ℕ))) → IsCutLast path r → IfSome r (λ parts. keys_of path ≡ keys_of parts.0.now ++ parts.1.now ∷ [])
last_keys path None is = tt
last_keys path (Some x) is =
    let parts = last_parts path (Some x) is in
    ap keys_of parts.0 ∙ split_two (λ b. b == 46) x.0.now 46 x.1.now refl ∙ ap (λ last. keys_of x.0.now ++ last) (dotless x.1.now parts.1)

pub last_shorter : (path : List ℕ) (r : Option (Bor (List ℕ) × Bor (List ℕ))) → IsCutLast path r → IfSome r (λ parts. length parts.0.now < length path)
last_shorter path None is = tt
last_shorter path (Some x) is =
    let parts = last_parts path (Some x) is in
    let whole : length path ≡ length x.0.now + length (46 ∷ x.1.now) = ap length parts.0 ∙ length-append x.0.now (46 ∷ x.1.now) in
    omega (arith, whole)

pub only_key : (path : List ℕ) (r : Option (Bor (List ℕ) × Bor (List ℕ))) → IsCutLast path r → IfNone r (keys_of path ≡ path ∷ [])
only_key path None is = dotless path (last_parts path None is)
only_key path (Some x) is = tt

-- a value set at a path of a key and a path
pub with_member-more : (key rest : List ℕ) (v : Val) (es : Entries) → with_member (key ∷ keys_of rest) v es ≡ changed_at key (with_member (keys_of rest) v) es (entry_at key es)
with_member-more key rest v es =
    let some = split_some (λ b. b == 46) rest in
    subst (λ keys. with_member (key ∷ keys) v es ≡ changed_at key (with_member keys v) es (entry_at key es)) (sym some.2) refl

-- ---- entries
-- the entry that is written through what a map lends
pub entries_view-set_value : (key : List ℕ) (es : List Entry) (w : Value) → entries_view (set_value (is_at (λ k. slice_cmp nat_cmp key (string_bytes k))) es w) ≡ replaced_value key (view w) (entries_view es)
entries_view-set_value key [] w = refl
entries_view-set_value key (e ∷ es) w =
    let more = entries_view-set_value key es w in
    let rest = set_value (is_at (λ k. slice_cmp nat_cmp key (string_bytes k))) es w in
    let at = bytes_eq key (string_bytes e.0) in
    subst (λ b. entries_view (if b then (e.0, w) ∷ es else e ∷ rest) ≡ (if at then entry_then (string_bytes e.0) (view w) (entries_view es) else entry_then (string_bytes e.0) (view e.1) (replaced_value key (view w) (entries_view es)))) (sym (is_eq-slice_cmp key (string_bytes e.0)))
    (elim at as (λ b. entries_view (if b then (e.0, w) ∷ es else e ∷ rest) ≡ (if b then entry_then (string_bytes e.0) (view w) (entries_view es) else entry_then (string_bytes e.0) (view e.1) (replaced_value key (view w) (entries_view es)))) [
      | true ↦ refl
      | false ↦ ap (entry_then (string_bytes e.0) (view e.1)) more
    ])

-- a value that is put in its own place changes nothing
pub replaced-same : (key : List ℕ) (v : Val) (es : Entries) → entry_at key es ≡ Some v → replaced_value key v es ≡ es
replaced-same key v no_entries is = refl
replaced-same key v (entry_then other w es) is =
    let more = replaced-same key v es in
    (elim (bytes_eq key other) as (λ b. (if b then Some w else entry_at key es) ≡ Some v → (if b then entry_then other v es else entry_then other w (replaced_value key v es)) ≡ entry_then other w es) [
      | true ↦ λ is. let same : v ≡ w = cc is in ap (λ x. entry_then other x es) same
      | false ↦ λ is. ap (entry_then other w) (more is)
    ]) is

-- of two values at one key the later counts
replaced-again : (key : List ℕ) (v w : Val) (es : Entries) → replaced_value key w (replaced_value key v es) ≡ replaced_value key w es
replaced-again key v w no_entries = refl
replaced-again key v w (entry_then other u es) =
    let more = replaced-again key v w es in
    let here = bytes_eq key other in
    let none : here ≡ false → replaced_value key w (entry_then other u (replaced_value key v es)) ≡ entry_then other u (replaced_value key w (replaced_value key v es)) =
    λ is. ap (λ b. if b then entry_then other w (replaced_value key v es) else entry_then other u (replaced_value key w (replaced_value key v es))) is in
    let some : here ≡ true → replaced_value key w (entry_then other v es) ≡ entry_then other w es =
    λ is. ap (λ b. if b then entry_then other w es else entry_then other v (replaced_value key w es)) is in
    (elim here as (λ b. here ≡ b → replaced_value key w (if b then entry_then other v es else entry_then other u (replaced_value key v es)) ≡ (if b then entry_then other w es else entry_then other u (replaced_value key w es))) [
      | true ↦ some
      | false ↦ λ is. none is ∙ ap (entry_then other u) more
    ]) refl

-- there is no value to be replaced
pub replaced-none : (key : List ℕ) (v : Val) (es : Entries) → entry_at key es ≡ None → replaced_value key v es ≡ es
replaced-none key v no_entries is = refl
replaced-none key v (entry_then other w es) is =
    let more = replaced-none key v es in
    (elim (bytes_eq key other) as (λ b. (if b then Some w else entry_at key es) ≡ None → (if b then entry_then other v es else entry_then other w (replaced_value key v es)) ≡ entry_then other w es) [
      | true ↦ λ is. absurd (cc is)
      | false ↦ λ is. ap (entry_then other w) (more is)
    ]) is

-- ---- what is around entries
-- what was gone into last is the innermost
pub rebuilt-more : (around : List Around) (outer : Around) (es : Entries) → rebuilt (around ++ outer ∷ []) es ≡ rebuilt around (replaced_value outer.key.now (map_val es) (entries_view outer.entries.entries))
rebuilt-more [] outer es = refl
rebuilt-more (first ∷ more) outer es = ap (λ inner. replaced_value first.key.now (map_val inner) (entries_view first.entries.entries)) (rebuilt-more more outer es)

-- the map at a key was taken out, and an empty one left there
module _ (around : List Around) (outer : Around) (es inner : Entries) (there : entry_at outer.key.now es ≡ Some (map_val inner)) (left : entries_view outer.entries.entries ≡ replaced_value outer.key.now (map_val no_entries) es) where
  -- what is rebuilt
  inside_out : (new : Entries) → rebuilt (around ++ outer ∷ []) new ≡ rebuilt around (replaced_value outer.key.now (map_val new) es)
  inside_out new =
      rebuilt-more around outer new
      ∙ ap (λ entries. rebuilt around (replaced_value outer.key.now (map_val new) entries)) left
      ∙ ap (rebuilt around) (replaced-again outer.key.now (map_val no_entries) (map_val new) es)

  pub gone_in : HasGoneIn outer.key.now es around inner (around ++ outer ∷ []) true
  gone_in change =
      let key = outer.key.now in
      ap (λ found. option_map (rebuilt around) (changed_at key change es found)) there
      ∙ (elim (change inner) as (λ changed. option_map (rebuilt around) (option_map (λ w. replaced_value key w es) (option_map map_val changed)) ≡ option_map (rebuilt (around ++ outer ∷ [])) changed) [
        | None ↦ refl
        | Some new ↦ ap Some (sym (inside_out new))
      ])

  pub put_back_whole : replaced_value outer.key.now (map_val inner) (entries_view outer.entries.entries) ≡ es
  put_back_whole =
      let key = outer.key.now in
      ap (replaced_value key (map_val inner)) left ∙ replaced-again key (map_val no_entries) (map_val inner) es ∙ replaced-same key (map_val inner) es there

  pub still_whole : rebuilt (around ++ outer ∷ []) inner ≡ rebuilt around es
  still_whole = inside_out inner ∙ ap (rebuilt around) (replaced-same outer.key.now (map_val inner) es there)

-- ---- a value that is put inside
-- an innermost key
pub put_inside-last : (first : List ℕ) (more : List (List ℕ)) (last : List ℕ) (v : Val) (es : Entries) → put_inside ((first ∷ more) ++ last ∷ []) v es ≡ put_inside (first ∷ more) (map_val (put last v no_entries)) es
put_inside-last first [] last v es = refl
put_inside-last first (next ∷ more) last v es = ap (λ inner. put first (map_val inner) es) (put_inside-last next more last v no_entries)

-- a path of a path and a key
pub put_inside-keys : (path before last : List ℕ) (v : Val) (es : Entries) → keys_of path ≡ keys_of before ++ last ∷ [] → put_inside (keys_of path) v es ≡ put_inside (keys_of before) (map_val (put last v no_entries)) es
put_inside-keys path before last v es keys =
    let some = split_some (λ b. b == 46) before in
    ap (λ ks. put_inside ks v es) keys
    ∙ ap (λ ks. put_inside (ks ++ last ∷ []) v es) some.2
    ∙ put_inside-last some.0 some.1 last v es
    ∙ ap (λ ks. put_inside ks (map_val (put last v no_entries)) es) (sym some.2)

-- at a key without a value
member_inside : (first : List ℕ) (more : List (List ℕ)) (v : Val) (es : Entries) → entry_at first es ≡ None → with_member (first ∷ more) v es ≡ Some (put_inside (first ∷ more) v es)
member_inside first [] v es none = refl
member_inside first (next ∷ more) v es none =
    ap (changed_at first (with_member (next ∷ more) v) es) none
    ∙ ap (option_map (λ inner. put first (map_val inner) es)) (member_inside next more v no_entries refl)

-- a value is put at a path that has one key, or of whose first key there is no value
pub one_member : (path : List ℕ) (v : Val) (es : Entries) → keys_of path ≡ path ∷ [] → with_member (keys_of path) v es ≡ Some (put_inside (keys_of path) v es)
one_member path v es one = ap (λ ks. with_member ks v es) one ∙ ap (λ ks. Some (put_inside ks v es)) (sym one)

pub new_member : (path key rest : List ℕ) (v : Val) (es : Entries) → keys_of path ≡ key ∷ keys_of rest → entry_at key es ≡ None → with_member (keys_of path) v es ≡ Some (put_inside (keys_of path) v es)
new_member path key rest v es keys none =
    ap (λ ks. with_member ks v es) keys ∙ member_inside key (keys_of rest) v es none ∙ ap (λ ks. Some (put_inside ks v es)) (sym keys)

-- what a path sets that begins with a key
pub member_at : (path key rest : List ℕ) (v : Val) (es : Entries) → keys_of path ≡ key ∷ keys_of rest → with_member (keys_of path) v es ≡ changed_at key (with_member (keys_of rest) v) es (entry_at key es)
member_at path key rest v es keys = ap (λ ks. with_member ks v es) keys ∙ with_member-more key rest v es
