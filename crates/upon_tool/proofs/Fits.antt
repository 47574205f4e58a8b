-- Files that end on each value of a shape, one after the other.
use Rattle.std.proofs.Common.{arith, ◌≡◌, ◌<◌, ◌≤◌, ◌+◌, ◌&&◌, ℕ, List, Bool, true, Bor, Option, length, take, get_or, sym, subst}
use Rattle.std.proofs.lemmas.List.{take_all, take_more}
use Rattle.std.proofs.lemmas.List.Elements.{All-push}
use Rattle.upon_shape_spec.specs.Shape.{Shape}
use Rattle.upon_tool_io.specs.World.{World}
use Rattle.upon_tool_io.specs.declared.arguments.Escape.{Escape}
use Rattle.upon_tool_data.specs.Sources.{IsTextOf}
use Rattle.upon_tool_pages.specs.Fitting.{FileFits}
use Rattle.upon_tool.specs.Fitting.{EachFits, TextFits}
use Rattle.upon_calls.proofs.Kept.{first_true, second_true}

-- a text that was read and lent ends so
pub text_fits : (world : World) (escape : Option Escape) (standard : Bool) (folder : List (List ℕ × List ℕ)) (s : Shape) (name lent text : List ℕ) (input : Option (List ℕ)) → lent ≡ text → IsTextOf world name input text → FileFits escape standard folder s name lent
    → TextFits world escape standard folder s name
text_fits world escape standard folder s name lent text input same is fits = (text, (λ named. tt, is.1), subst (λ text. FileFits escape standard folder s name text) same fits)

module _ (world : World) (escape : Option Escape) (standard : Bool) (folder : List (List ℕ × List ℕ)) (s : Shape) (names : List (Bor (List ℕ))) where
  pub none_yet : EachFits world escape standard folder s (take 0 names)
  none_yet k d inside = let no : k < 0 = inside in absurd (omega arith)

  pub one_more : (i : ℕ) (d : Bor (List ℕ)) (each one : Bool) → i < length names → (each ≡ true → EachFits world escape standard folder s (take i names)) → (one ≡ true → TextFits world escape standard folder s (get_or names i d).now)
      → (each && one) ≡ true → EachFits world escape standard folder s (take (i + 1) names)
  one_more i d each one inside so_far here both =
      subst (EachFits world escape standard folder s) (sym (take_more names i d inside))
      (All-push (λ file. TextFits world escape standard folder s file.now) (take i names) (get_or names i d) (so_far (first_true each one both)) (here (second_true each one both)))

  pub all_fit : (i : ℕ) → length names ≤ i → EachFits world escape standard folder s (take i names) → EachFits world escape standard folder s names
  all_fit i done so_far = subst (EachFits world escape standard folder s) (take_all i names done) so_far
