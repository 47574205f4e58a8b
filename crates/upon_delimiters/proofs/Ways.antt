-- Where no delimiter has one of a few bytes; and that a searcher's way is right for its delimiters.
use Rattle.std.proofs.Common.{◌≡◌, ◌⊎◌, ℕ, ◌+◌, ◌-◌, ◌<◌, ◌≤◌, List, length, take, drop, get_or, arith, sym, ap, ◌∙◌, get_or-take, get_or-drop, length-take, length-drop}
use Rattle.std.proofs.Common.{subst}
use Rattle.std.proofs.Math.Logic.{∥∥₁_elim}
use Rattle.memchr.specs.Find.{Passes, Nowhere, is_byte3}
use Rattle.upon_language_spec.specs.DefaultDelimiters.{default_delimiters}
use Rattle.upon_language_spec.specs.Search.{DelimiterText, Occurs, HasTexts, NoneAt, NoneFrom, text_at}
use Rattle.upon_language_spec.proofs.SpansLieIn.Offsets.{occurs_within}
use Rattle.upon_delimiters.specs.FewBytes.{HaveOneOf}
use Rattle.upon_delimiters.specs.Marks.{MarksEach}
use Rattle.upon_delimiters.specs.Ways.{WayFits}
use Rattle.upon_delimiters.specs.declared.few_bytes.FewBytes.{FewBytes}
use Rattle.upon_delimiters.specs.declared.marks.Marks.{Marks}
use Rattle.upon_delimiters.specs.declared.search.Way.{Way}
use Rattle.upon_delimiters.specs.declared.search.Way.TheVariants.{Brace, Few, Marked}

-- a text that occurs has the bytes that are there
pub occurs_reads : (s : List ℕ) (q : ℕ) (d : List ℕ) (k : ℕ) → Occurs s q d → k < length d → get_or d k 0 ≡ get_or s (q + k) 0
occurs_reads s q d k occurs inside =
    ap (λ x. get_or x k 0) occurs ∙ get_or-take (length d) (drop q s) k 0 inside ∙ get_or-drop q s k 0

-- where a search for a few bytes passed, no delimiter occurs that has one of them
module _ (few : FewBytes) (s bytes rest : List ℕ) (at : ℕ) (same : bytes ≡ s) where
  -- what is searched: the text from an offset on, without as many bytes as the place says
  abbrev pub Searched : Type 0
  Searched = let after = take (length bytes - at) (drop at bytes) in
      (few.place ≤ length after) × (rest ≡ take (length after - few.place) (drop few.place after))

  abbrev pub NotTo : ℕ → Type 0
  NotTo k = Nowhere (Passes (is_byte3 few.first few.second few.third) rest) 0 k

  searched_length : Searched → length rest + few.place ≡ length s - at
  searched_length searched =
      let after = take (length bytes - at) (drop at bytes) in
      let total : length after ≡ length bytes - at = omega (arith, length-take (length bytes - at) (drop at bytes), length-drop at bytes) in
      let size = ap length searched.1 in
      omega (arith, searched.0, total, size, length-take (length after - few.place) (drop few.place after), length-drop few.place after, ap length same)

  searched_reads : Searched → (j : ℕ) → j < length rest → get_or rest j 0 ≡ get_or s (at + (few.place + j)) 0
  searched_reads searched j inside =
      let after = take (length bytes - at) (drop at bytes) in
      let total : length after ≡ length bytes - at = omega (arith, length-take (length bytes - at) (drop at bytes), length-drop at bytes) in
      let size = ap length searched.1 in
      let below : j < length after - few.place =
      omega (arith, inside, size, length-take (length after - few.place) (drop few.place after)) in
      ap (λ x. get_or x j 0) searched.1
      ∙ get_or-take (length after - few.place) (drop few.place after) j 0 below
      ∙ get_or-drop few.place after j 0
      ∙ get_or-take (length bytes - at) (drop at bytes) (few.place + j) 0 (omega (arith, below, total))
      ∙ get_or-drop at bytes (few.place + j) 0
      ∙ ap (λ x. get_or x (at + (few.place + j)) 0) same

  passed : (q k : ℕ) → at ≤ q → q - at < length rest → (q < at + k) ⊎ (length rest ≤ k) → q - at < k
  passed q k after near below = grind (arith, after, near, below)

  pub none_searched : Searched → (k : ℕ) → NotTo k → (ds : List DelimiterText) → HaveOneOf few ds
      → (q : ℕ) → at ≤ q → (q < at + k) ⊎ (length rest ≤ k) → NoneAt ds s q
  none_searched searched k none ds have q after below i inside occurs =
      let d = text_at ds i in
      let place : few.place < length d = (have i inside).0 in
      let fits : q + length d ≤ length s = occurs_within s q d (omega (arith, place)) occurs in
      let size = searched_length searched in
      let near : q - at < length rest = omega (arith, place, fits, size, after) in
      let there : at + (few.place + (q - at)) ≡ q + few.place = omega (arith, after) in
      let byte : get_or rest (q - at) 0 ≡ get_or d few.place 0 =
      searched_reads searched (q - at) near ∙ ap (λ x. get_or s x 0) there ∙ sym (occurs_reads s q d few.place occurs place) in
      none (q - at) (omega arith) (passed q k after near below)
      (ap (λ b. is_byte3 few.first few.second few.third b) byte ∙ (have i inside).1)

-- a searcher's way is right for its delimiters
module _ (way : Way) (ds : List DelimiterText) (s : List ℕ) (at end : ℕ) (fits : ∥ WayFits way ds ∥₁) where
  abbrev Fits : Way → Type 0
  Fits w = WayFits w ds

  pub brace_fits : way ≡ Brace → NoneFrom default_delimiters s at end → NoneFrom ds s at end
  brace_fits is none q after below i inside occurs = ∥∥₁_elim fits (λ x y. absurd x) (λ f.
      let same : ds ≡ default_delimiters = subst Fits is f in
      let From : List DelimiterText → Type 0 = λ d. NoneFrom d s at end in
      subst From (sym same) none q after below i inside occurs)

  pub few_fits : (few : FewBytes) (marks : Marks) → way ≡ Few few marks → HasTexts ds
      → ((delimiters : List DelimiterText) → HasTexts delimiters → HaveOneOf few delimiters → MarksEach marks delimiters
      → NoneFrom delimiters s at end)
      → NoneFrom ds s at end
  few_fits few marks is texts none q after below i inside occurs = ∥∥₁_elim fits (λ x y. absurd x) (λ f.
      let both = subst Fits is f in none ds texts both.0 both.1 q after below i inside occurs)

  pub marks_fit : (marks : Marks) → way ≡ Marked marks → HasTexts ds
      → ((delimiters : List DelimiterText) → HasTexts delimiters → MarksEach marks delimiters → NoneFrom delimiters s at end)
      → NoneFrom ds s at end
  marks_fit marks is texts none q after below i inside occurs = ∥∥₁_elim fits (λ x y. absurd x) (λ f.
      none ds texts (subst Fits is f) q after below i inside occurs)

-- at one offset: if a searcher's way finds no delimiter there, none of the searcher's delimiters is there
module _ (way : Way) (ds : List DelimiterText) (s : List ℕ) (at : ℕ) (fits : ∥ WayFits way ds ∥₁) where
  abbrev Fitting : Way → Type 0
  Fitting w = WayFits w ds

  pub brace_fits_at : way ≡ Brace → NoneAt default_delimiters s at → NoneAt ds s at
  brace_fits_at is none i inside occurs = ∥∥₁_elim fits (λ x y. absurd x) (λ f.
      let same : ds ≡ default_delimiters = subst Fitting is f in
      let At : List DelimiterText → Type 0 = λ d. NoneAt d s at in
      subst At (sym same) none i inside occurs)

  pub few_fit_at : (few : FewBytes) (marks : Marks) → way ≡ Few few marks → HasTexts ds
      → ((delimiters : List DelimiterText) → HasTexts delimiters → MarksEach marks delimiters → NoneAt delimiters s at)
      → NoneAt ds s at
  few_fit_at few marks is texts none i inside occurs = ∥∥₁_elim fits (λ x y. absurd x) (λ f.
      none ds texts (subst Fitting is f).1 i inside occurs)

  pub marks_fit_at : (marks : Marks) → way ≡ Marked marks → HasTexts ds
      → ((delimiters : List DelimiterText) → HasTexts delimiters → MarksEach marks delimiters → NoneAt delimiters s at)
      → NoneAt ds s at
  marks_fit_at marks is texts none i inside occurs = ∥∥₁_elim fits (λ x y. absurd x) (λ f.
      none ds texts (subst Fitting is f) i inside occurs)
