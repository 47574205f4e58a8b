-- What fits a shape fits each that is at least as wide.
use Rattle.std.proofs.Common.{◌≡◌, ℕ, List, [], ◌∷◌, Bool, true, false, ◌&&◌, ◌||◌, Option, refl, subst, bytes_eq}
use Rattle.std.proofs.lemmas.Slice.Eq.{bytes_eq-Decides}
use Rattle.upon_types.specs.Val.{Val, none_val, bool_val, int_val, text_val, list_val, map_val, Vals, Entries, entry_at}
use Rattle.upon_shape_spec.specs.Shape.{Plain, Shape, any_shape, one_of, Lists, no_list, lists_of, Maps, no_map, maps_of, Keys, other_keys, key_then, at_key}
use Rattle.upon_shape_spec.specs.Fits.{ByTest, Held, Fits, ListFits, MapFits, KeyFits, AllFit}
use Rattle.upon_shape_spec.specs.Wider.{implies, plain_wider, is_listed, each_beside, wider, lists_wider, maps_wider, keys_wider, all_wider}
use Rattle.upon_shape_spec.proofs.Tests.{and_first, and_second, by_test, each_more, held_more, held_either, same_key_held}

implied : (a b : Bool) → implies a b ≡ true → a ≡ true → b ≡ true
implied true b h e = h
implied false b h e = absurd (cc)

held_implied : (a b : Bool) (P Q : Val → Type 0) → implies a b ≡ true → ((v : Val) → P v → Q v) → (o : Option Val) → Held b P o → Held a Q o
held_implied true true P Q e f o h = held_more true P Q f o h
held_implied true false P Q e f o h = absurd (cc)
held_implied false b P Q e f o h = held_either b P Q f o h

pub from_test : {A B C : Type 0} (b : Bool) → (A → C) → (B → C) → ByTest b A B → C
from_test true f g h = f h
from_test false f g h = g h

pub or_other : (a b : Bool) → a ≡ false → (a || b) ≡ true → b ≡ true
or_other true b e h = absurd (cc)
or_other false b e h = h

pub neither : (a b : Bool) → a ≡ false → b ≡ false → (a || b) ≡ false
neither true b e f = absurd (cc)
neither false b e f = f

from_cases : {A B C : Type 0} (b : Bool) → (b ≡ true → A → C) → (b ≡ false → B → C) → ByTest b A B → C
from_cases true f g h = f refl h
from_cases false f g h = g refl h

-- what is not listed, by an equal key
pub not_listed : (key k : List ℕ) (seen : List (List ℕ)) → is_listed key seen ≡ false → bytes_eq key k ≡ true → is_listed k seen ≡ false
not_listed key k seen un same = subst (λ (x : List ℕ). is_listed x seen ≡ false) ((bytes_eq-Decides key k).0 same) un

-- ---- of each key
each_held : (seen : List (List ℕ)) (s : Shape) (ns : Keys) (key : List ℕ) (o : Option Val) → is_listed key seen ≡ false → ((t : Shape) (v : Val) → wider s t ≡ true → Fits t v → Fits s v) → each_beside seen (wider s) ns ≡ true → KeyFits key ns o → Held false (Fits s) o
each_held seen s (other_keys t) key o un more e h = held_more false (Fits t) (Fits s) (λ v. more t v e) o h
each_held seen s (key_then k required t ns) key o un more e h =
    let rest = each_beside (k ∷ seen) (wider s) ns in
    from_cases (bytes_eq key k)
    (λ same. held_either required (Fits t) (Fits s) (λ v. more t v (or_other (is_listed k seen) (wider s t) (not_listed key k seen un same) (and_first (is_listed k seen || wider s t) rest e))) o)
    (λ other. each_held (k ∷ seen) s ns key o (neither (bytes_eq key k) (is_listed key seen) other un) more (and_second (is_listed k seen || wider s t) rest e)) h

plain_fits : (p q : Plain) (l k : Lists) (m n : Maps) (v : Val) → plain_wider p q ≡ true → (lists_wider l k && maps_wider m n) ≡ true → ((vs : Vals) → ListFits k vs → ListFits l vs) → ((es : Entries) → MapFits n es → MapFits m es) → Fits (one_of q k n) v → Fits (one_of p l m) v
plain_fits p q l k m n none_val e r f g h = implied q.none p.none (and_first (implies q.none p.none) _ e) h
plain_fits p q l k m n (bool_val b) e r f g h = implied q.truth p.truth (and_first (implies q.truth p.truth) _ (and_second (implies q.none p.none) _ e)) h
plain_fits p q l k m n (int_val z) e r f g h = implied q.integer p.integer (and_first (implies q.integer p.integer) _ (and_second (implies q.truth p.truth) _ (and_second (implies q.none p.none) _ e))) h
plain_fits p q l k m n (text_val bytes) e r f g h = implied q.text p.text (and_second (implies q.integer p.integer) _ (and_second (implies q.truth p.truth) _ (and_second (implies q.none p.none) _ e))) h
plain_fits p q l k m n (list_val vs) e r f g h = f vs h
plain_fits p q l k m n (map_val es) e r f g h = g es h

mutual
  pub wider_fits : (s t : Shape) (v : Val) → wider s t ≡ true → Fits t v → Fits s v
  wider_fits any_shape t v e h = tt
  wider_fits (one_of p l m) any_shape v e h = absurd (cc)
  wider_fits (one_of p l m) (one_of q k n) v e h =
      let r = and_second (plain_wider p q) (lists_wider l k && maps_wider m n) e in
      plain_fits p q l k m n v (and_first (plain_wider p q) (lists_wider l k && maps_wider m n) e) r
      (λ vs. wider_list l k vs (and_first (lists_wider l k) (maps_wider m n) r))
      (λ es. wider_map m n es (and_second (lists_wider l k) (maps_wider m n) r)) h

  wider_list : (l k : Lists) (vs : Vals) → lists_wider l k ≡ true → ListFits k vs → ListFits l vs
  wider_list no_list no_list vs e h = absurd h
  wider_list no_list (lists_of t) vs e h = absurd (cc)
  wider_list (lists_of s) no_list vs e h = absurd h
  wider_list (lists_of s) (lists_of t) vs e h = each_more (Fits t) (Fits s) (λ v. wider_fits s t v e) vs h

  wider_map : (m n : Maps) (es : Entries) → maps_wider m n ≡ true → MapFits n es → MapFits m es
  wider_map no_map no_map es e h = absurd h
  wider_map no_map (maps_of ns) es e h = absurd (cc)
  wider_map (maps_of ks) no_map es e h = absurd h
  wider_map (maps_of ks) (maps_of ns) es e h = (h.0, λ key. wider_key [] ks ns key (entry_at key es) refl e (h.1 key))

  wider_key : (seen : List (List ℕ)) (ks ns : Keys) (key : List ℕ) (o : Option Val) → is_listed key seen ≡ false → keys_wider seen ks ns ≡ true → KeyFits key ns o → KeyFits key ks o
  wider_key seen (other_keys s) ns key o un e h = each_held seen s ns key o un (wider_fits s) e h
  wider_key seen (key_then k required s ks) ns key o un e h =
      let at = at_key k ns in
      let one = implies required at.required && wider s at.shape in
      let rest = keys_wider (k ∷ seen) ks ns in
      by_test (bytes_eq key k)
      (λ same. let is = or_other (is_listed k seen) one (not_listed key k seen un same) (and_first (is_listed k seen || one) rest e) in
      held_implied required at.required (Fits at.shape) (Fits s) (and_first (implies required at.required) (wider s at.shape) is) (λ v. wider_fits s at.shape v (and_second (implies required at.required) (wider s at.shape) is)) o (same_key_held key k ns o h same))
      (λ other. wider_key (k ∷ seen) ks ns key o (neither (bytes_eq key k) (is_listed key seen) other un) (and_second (is_listed k seen || one) rest e) h)

pub all_wider_fit : (ss ts : List Shape) (vs : List Val) → all_wider ss ts ≡ true → AllFit ts vs → AllFit ss vs
all_wider_fit [] [] vs e h = h
all_wider_fit [] (t ∷ ts) vs e h = absurd (cc)
all_wider_fit (s ∷ ss) [] vs e h = absurd (cc)
all_wider_fit (s ∷ ss) (t ∷ ts) [] e h = absurd h
all_wider_fit (s ∷ ss) (t ∷ ts) (v ∷ vs) e h = (wider_fits s t v (and_first (wider s t) (all_wider ss ts) e) h.0, all_wider_fit ss ts vs (and_second (wider s t) (all_wider ss ts) e) h.1)
