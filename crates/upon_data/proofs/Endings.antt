-- A test whether two texts are the same.
use Rattle.std.proofs.Common.{◌≡◌, ℕ, ◌-◌, List, length, length-drop, take, drop, Bool, ◌↔◌, IsTrue, rules}
use Rattle.std.proofs.lemmas.Bool.Decides.{same_from_decides}
use Rattle.std.proofs.lemmas.Slice.Eq.{bytes_eq-Decides}
use Rattle.std.proofs.lemmas.List.{take_all}
use Rattle.std.specs.Prelude.{bytes_eq}

pub same_test : (b : Bool) (xs ys : List ℕ) → (IsTrue b ↔ (xs ≡ ys)) → b ≡ bytes_eq xs ys
same_test b xs ys is = same_from_decides b (bytes_eq xs ys) is (bytes_eq-Decides xs ys)

-- all that is left from a place on
pub all_left : (start : ℕ) (xs : List ℕ) → take (length xs - start) (drop start xs) ≡ drop start xs
all_left start xs = search (rules, take_all, length-drop {A = ℕ})
