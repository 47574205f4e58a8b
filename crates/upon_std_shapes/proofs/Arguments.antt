-- Functions that keep signatures, by the arguments that these take.
use Rattle.std.proofs.Common.{◌≡◌, ℕ, List, [], ◌∷◌, ◌++◌, true, false, map, Some}
use Rattle.upon_types.specs.Answers.{Function}
use Rattle.upon_types.specs.Val.{Val, text_val, list_val, map_val, Vals, Entries, entry_at, rises}
use Rattle.upon_shape_spec.specs.Declared.{GivesOf, Signature, KeepsSignature, KeepsSignatures}
use Rattle.upon_shape_spec.specs.Fits.{EachValue, Held, Fits}
use Rattle.upon_shape_spec.specs.Shape.{Shape, list_of, map_each, text_shape}
use Rattle.upon_std_shapes.specs.Items.{takes_gives}
use Rattle.upon_std_shapes.proofs.OneKind.{of_text, of_list, of_map}

-- ---- signatures one after the other
pub one_kept : (f : Function) (one : Signature) → KeepsSignature f one → KeepsSignatures f (one ∷ [])
one_kept f one h = (h, tt)

pub each_kept : (f : Function) (row : Shape → Signature) → ((s : Shape) → KeepsSignature f (row s)) → (ss : List Shape) → KeepsSignatures f (map row ss)
each_kept f row h [] = tt
each_kept f row h (s ∷ ss) = (h s, each_kept f row h ss)

pub each_kept_and : (f : Function) (row : Shape → Signature) (last : Signature) → ((s : Shape) → KeepsSignature f (row s)) → KeepsSignature f last → (ss : List Shape) → KeepsSignatures f (map row ss ++ (last ∷ []))
each_kept_and f row last h k [] = (k, tt)
each_kept_and f row last h k (s ∷ ss) = (h s, each_kept_and f row last h k ss)

-- ---- the arguments, one by one
pub one_argument : (f : Function) (s given : Shape) → ((v : Val) → Fits s v → GivesOf (Some given) (f (v ∷ []))) → KeepsSignature f (takes_gives (s ∷ []) given)
one_argument f s given h [] fit = absurd fit
one_argument f s given h (v ∷ []) fit = h v fit.0
one_argument f s given h (v ∷ w ∷ vs) fit = absurd fit.1

pub two_arguments : (f : Function) (s t given : Shape) → ((v w : Val) → Fits s v → Fits t w → GivesOf (Some given) (f (v ∷ w ∷ []))) → KeepsSignature f (takes_gives (s ∷ t ∷ []) given)
two_arguments f s t given h [] fit = absurd fit
two_arguments f s t given h (v ∷ []) fit = absurd fit.1
two_arguments f s t given h (v ∷ w ∷ []) fit = h v w fit.0 fit.1.0
two_arguments f s t given h (v ∷ w ∷ u ∷ vs) fit = absurd fit.1.1

pub three_arguments : (f : Function) (s t r given : Shape) → ((v w u : Val) → Fits s v → Fits t w → Fits r u → GivesOf (Some given) (f (v ∷ w ∷ u ∷ []))) → KeepsSignature f (takes_gives (s ∷ t ∷ r ∷ []) given)
three_arguments f s t r given h [] fit = absurd fit
three_arguments f s t r given h (v ∷ []) fit = absurd fit.1
three_arguments f s t r given h (v ∷ w ∷ []) fit = absurd fit.1.1
three_arguments f s t r given h (v ∷ w ∷ u ∷ []) fit = h v w u fit.0 fit.1.0 fit.1.1.0
three_arguments f s t r given h (v ∷ w ∷ u ∷ x ∷ vs) fit = absurd fit.1.1.1

-- ---- arguments of one kind
pub a_text : (f : Function) (given : Shape) → ((t : List ℕ) → GivesOf (Some given) (f (text_val t ∷ []))) → KeepsSignature f (takes_gives (text_shape ∷ []) given)
a_text f given h = one_argument f text_shape given (of_text (λ v. GivesOf (Some given) (f (v ∷ []))) h)

pub two_texts : (f : Function) (given : Shape) → ((t u : List ℕ) → GivesOf (Some given) (f (text_val t ∷ text_val u ∷ []))) → KeepsSignature f (takes_gives (text_shape ∷ text_shape ∷ []) given)
two_texts f given h =
    two_arguments f text_shape text_shape given
    (λ v w fit fits. of_text (λ v. GivesOf (Some given) (f (v ∷ w ∷ []))) (λ t. of_text (λ w. GivesOf (Some given) (f (text_val t ∷ w ∷ []))) (h t) w fits) v fit)

pub a_list : (f : Function) (s given : Shape) → ((vs : Vals) → EachValue (Fits s) vs → GivesOf (Some given) (f (list_val vs ∷ []))) → KeepsSignature f (takes_gives (list_of s ∷ []) given)
a_list f s given h = one_argument f (list_of s) given (of_list s (λ v. GivesOf (Some given) (f (v ∷ []))) h)

pub a_list_and_text : (f : Function) (s given : Shape) → ((vs : Vals) (t : List ℕ) → EachValue (Fits s) vs → GivesOf (Some given) (f (list_val vs ∷ text_val t ∷ []))) → KeepsSignature f (takes_gives (list_of s ∷ text_shape ∷ []) given)
a_list_and_text f s given h =
    two_arguments f (list_of s) text_shape given
    (λ v w fit fits. of_list s (λ v. GivesOf (Some given) (f (v ∷ w ∷ []))) (λ vs each. of_text (λ w. GivesOf (Some given) (f (list_val vs ∷ w ∷ []))) (λ t. h vs t each) w fits) v fit)

pub a_map : (f : Function) (s given : Shape) → ((es : Entries) → rises es ≡ true → ((key : List ℕ) → Held false (Fits s) (entry_at key es)) → GivesOf (Some given) (f (map_val es ∷ []))) → KeepsSignature f (takes_gives (map_each s ∷ []) given)
a_map f s given h = one_argument f (map_each s) given (of_map s (λ v. GivesOf (Some given) (f (v ∷ []))) h)
