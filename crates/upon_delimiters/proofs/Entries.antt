-- What a list of delimiters has at an index, where it is made of a list of entries.
use Rattle.std.proofs.Common.{◌≡◌, ℕ, ◌<◌, List, [], length, map, ap, ◌∙◌, slice_index_or}
use Rattle.std.proofs.lemmas.List.{get_or-map, length-map}
use Rattle.upon_types.specs.declared.types.Delimiter.TheVariants.{BeginExpr}
use Rattle.upon_language_spec.specs.Search.{DelimiterText, text_at, kind_at}

module _ {A : Type 0} (f : A → DelimiterText) (entries : List A) (i : ℕ) (d : A) (inside : i < length entries) where
  listed : i < length (map f entries)
  listed = rw length-map inside

  pub text_of_entry : text_at (map f entries) i ≡ (f (slice_index_or entries i d)).text
  text_of_entry = get_or-map (λ (p : DelimiterText). p.text) (map f entries) i (f d) [] listed ∙ ap (λ (p : DelimiterText). p.text) (get_or-map f entries i d (f d) inside)

  pub kind_of_entry : kind_at (map f entries) i ≡ (f (slice_index_or entries i d)).kind
  kind_of_entry = get_or-map (λ (p : DelimiterText). p.kind) (map f entries) i (f d) BeginExpr listed ∙ ap (λ (p : DelimiterText). p.kind) (get_or-map f entries i d (f d) inside)
