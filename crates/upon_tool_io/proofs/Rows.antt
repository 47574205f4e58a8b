-- What clap answers of an argument is what its rows say.
use Rattle.std.proofs.Common.{◌≡◌, ℕ, List, [], ◌∷◌, Bool, true, false, Option, Some, None, refl, ap, sym, Bor, bytes_eq, map, option_map, option_and_then, slice_get, unwrap_or, cond, codes, subst, Result}
use Rattle.std.specs.List.{find}
use Rattle.std.specs.Str.Parse.{ExplainsUnsignedError, HasUnsignedDigitsIfOk, ParsesUnsigned}
use Rattle.std.specs.declared.num.ParseIntError.{ParseIntError}
use Rattle.std.proofs.lemmas.Option.{slice_get-map}
use Rattle.clap.specs.Facts.{Entry}
use Rattle.clap.specs.Matches.{first_value, matched_of, one_text, raw_values, ReadsOne}
use Rattle.clap.specs.Values.{read_as}
use Rattle.clap.specs.Walk.{row_of, rows_of}
use Rattle.clap.specs.declared.parser.matches.Found.{Found}
use Rattle.upon_tool_io.specs.Rows.{row_read, row_values, IsFlag, IsNumber}

values-of-entries : (name : List ℕ) (es : List Entry)
    → unwrap_or (option_map raw_values (option_map (λ e. e.1) (find (λ e. bytes_eq e.0.now name) es))) []
    ≡ row_values name (map row_of es)
values-of-entries name [] = refl
values-of-entries name (e ∷ es) = by-test (values-of-entries name es) (bytes_eq e.0.now name)
  where
    by-test : unwrap_or (option_map raw_values (option_map (λ e. e.1) (find (λ e. bytes_eq e.0.now name) es))) []
        ≡ row_values name (map row_of es) → (b : Bool)
        → unwrap_or (option_map raw_values (option_map (λ e. e.1) (cond b (Some e) (find (λ e. bytes_eq e.0.now name) es)))) []
        ≡ cond b (row_of e).values (row_values name (map row_of es))
    by-test rest true = refl
    by-test rest false = rest

first-of-entries : (name : List ℕ) (es : List Entry)
    → option_and_then (λ a. option_map (λ s. s.now) (slice_get a.vals.items 0)) (option_map (λ e. e.1) (find (λ e. bytes_eq e.0.now name) es))
    ≡ slice_get (row_values name (map row_of es)) 0
first-of-entries name [] = refl
first-of-entries name (e ∷ es) = by-test (first-of-entries name es) (bytes_eq e.0.now name)
  where
    by-test : option_and_then (λ a. option_map (λ s. s.now) (slice_get a.vals.items 0)) (option_map (λ e. e.1) (find (λ e. bytes_eq e.0.now name) es))
        ≡ slice_get (row_values name (map row_of es)) 0 → (b : Bool)
        → option_and_then (λ a. option_map (λ s. s.now) (slice_get a.vals.items 0)) (option_map (λ e. e.1) (cond b (Some e) (find (λ e. bytes_eq e.0.now name) es)))
        ≡ slice_get (cond b (row_of e).values (row_values name (map row_of es))) 0
    by-test rest true = sym (slice_get-map (λ (s : Bor (List ℕ)). s.now) e.1.vals.items 0)
    by-test rest false = rest

read-of-entries : (name : List ℕ) (es : List Entry)
    → option_and_then (λ a. option_map (λ s. read_as a.reading s.now) (slice_get a.vals.items 0)) (option_map (λ e. e.1) (find (λ e. bytes_eq e.0.now name) es))
    ≡ row_read name (map row_of es)
read-of-entries name [] = refl
read-of-entries name (e ∷ es) = by-test (read-of-entries name es) (bytes_eq e.0.now name)
  where
    of-first : (xs : List (Bor (List ℕ))) → option_map (λ s. read_as e.1.reading s.now) (slice_get xs 0)
        ≡ option_map (read_as e.1.reading) (slice_get (map (λ s. s.now) xs) 0)
    of-first [] = refl
    of-first (x ∷ xs) = refl

    by-test : option_and_then (λ a. option_map (λ s. read_as a.reading s.now) (slice_get a.vals.items 0)) (option_map (λ e. e.1) (find (λ e. bytes_eq e.0.now name) es))
        ≡ row_read name (map row_of es) → (b : Bool)
        → option_and_then (λ a. option_map (λ s. read_as a.reading s.now) (slice_get a.vals.items 0)) (option_map (λ e. e.1) (cond b (Some e) (find (λ e. bytes_eq e.0.now name) es)))
        ≡ cond b (option_map (read_as e.1.reading) (slice_get (row_of e).values 0)) (row_read name (map row_of es))
    by-test rest true = of-first e.1.vals.items
    by-test rest false = rest

pub values-found : (f : Found) (name : List ℕ)
    → unwrap_or (option_map raw_values (matched_of f name)) [] ≡ row_values name (rows_of f)
values-found f name = values-of-entries name f.entries.items

pub first-found : (f : Found) (name : List ℕ) → first_value f name ≡ slice_get (row_values name (rows_of f)) 0
first-found f name = first-of-entries name f.entries.items

pub read-found : (f : Found) (name : List ℕ) → one_text f name ≡ row_read name (rows_of f)
read-found f name = read-of-entries name f.entries.items

-- a flag whose value is read so, by what clap says of it
flag-by : (read : Option (List ℕ)) (answer : Bool) → (read ≡ None → answer ≡ false)
    → (read ≡ Some (codes "true") → answer ≡ true) → (read ≡ Some (codes "false") → answer ≡ false) → IsFlag read answer
flag-by None answer none is_true is_false = none refl
flag-by (Some text) answer none is_true is_false = (λ e. is_true (ap Some e), λ e. is_false (ap Some e))

pub flag-found : (f : Found) (name : List ℕ) (answer : Bool) → (one_text f name ≡ None → answer ≡ false)
    → (one_text f name ≡ Some (codes "true") → answer ≡ true)
    → (one_text f name ≡ Some (codes "false") → answer ≡ false) → IsFlag (row_read name (rows_of f)) answer
flag-found f name answer none is_true is_false =
    subst (λ (read : Option (List ℕ)). IsFlag read answer) (read-found f name) (flag-by (one_text f name) answer none is_true is_false)

-- how a text is parsed as a number of 64 bits
abbrev Parses : List ℕ → Result ℕ ParseIntError → Type 0
Parses text parsed =
    ParsesUnsigned 64 10 text parsed × ExplainsUnsignedError 10 text parsed × HasUnsignedDigitsIfOk text parsed

-- a number whose value is read so, by what clap says of it
number-by : (read : Option (List ℕ)) (answer : Option ℕ) → (read ≡ None → answer ≡ None)
    → ((text : List ℕ) → read ≡ Some text → ReadsOne Parses text answer) → IsNumber read answer
number-by None answer none value = none refl
number-by (Some text) None none value = (value text refl).1.0
number-by (Some text) (Some n) none value = (value text refl).0

pub number-found : (f : Found) (name : List ℕ) (answer : Option ℕ) → (one_text f name ≡ None → answer ≡ None)
    → ((text : List ℕ) → one_text f name ≡ Some text → ReadsOne Parses text answer)
    → IsNumber (row_read name (rows_of f)) answer
number-found f name answer none value =
    subst (λ (read : Option (List ℕ)). IsNumber read answer) (read-found f name) (number-by (one_text f name) answer none value)
