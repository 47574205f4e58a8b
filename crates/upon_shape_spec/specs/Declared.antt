-- What functions and formatters are declared to take and to give, and that they keep it.
use Rattle.std.specs.Prelude.{◌≡◌, ℕ, List, [], ◌∷◌, Option, Some, None, if◌then◌else◌}
use Rattle.upon_types.specs.Answers.{Answer, gives, wrong_number, wrong_argument, declines, well, Function, Formatter, Callable, formatter, function}
use Rattle.upon_types.specs.Val.{Val}
use Rattle.upon_shape_spec.specs.Fits.{Fits, AllFit}
use Rattle.upon_shape_spec.specs.Shape.{Shape}
use Rattle.upon_shape_spec.specs.Wider.{all_wider}

-- the shape of what a function gives to arguments of these shapes, if it takes them
abbrev pub Giving : Type 0
Giving = List Shape → Option Shape

-- a function with what it gives, or a formatter with what it has a text for
pub data DeclaredCallable : Type 0 where
  gives_by : Giving → DeclaredCallable
  formats : Shape → DeclaredCallable

-- what is declared of callables, by their names, and what the default formatter has a text for
pub record Declared : Type 0 where
  pub callables : List ℕ → Option DeclaredCallable
  pub default_formats : Shape

-- if there is a shape, a value of it is given
abbrev pub GivesOf : Option Shape → Answer → Type 0
GivesOf None answer = Unit {0}
GivesOf (Some s) (gives v) = Fits s v
GivesOf (Some s) (wrong_number n) = ⊥
GivesOf (Some s) (wrong_argument n misfit) = ⊥
GivesOf (Some s) (declines text) = ⊥

-- on arguments of shapes that it takes the function does not refuse, and what it gives fits
abbrev pub KeepsGiving : Function → Giving → Type 0
KeepsGiving answer given =
    (shapes : List Shape) (values : List Val) → AllFit shapes values → GivesOf (given shapes) (answer values)

-- the formatter refuses no value that fits
abbrev pub FormatsEach : Formatter → Shape → Type 0
FormatsEach format s = (v : Val) → Fits s v → (format v).end ≡ well

-- what has a name is as it is declared, if it is
abbrev pub CallableKeeps : Option DeclaredCallable → Option Callable → Type 0
CallableKeeps None c = Unit {0}
CallableKeeps (Some d) None = ⊥
CallableKeeps (Some (gives_by given)) (Some (function f)) = KeepsGiving f given
CallableKeeps (Some (gives_by given)) (Some (formatter f)) = ⊥
CallableKeeps (Some (formats s)) (Some (function f)) = ⊥
CallableKeeps (Some (formats s)) (Some (formatter f)) = FormatsEach f s

-- callables and a default formatter keep all that is declared
pub record KeepsDeclared (declared : Declared) (callables : List ℕ → Option Callable) (default : Formatter)
    : Type 0 where
  pub each : (name : List ℕ) → CallableKeeps (declared.callables name) (callables name)
  pub default_formatter : FormatsEach default declared.default_formats

-- a signature: what a function takes, argument by argument, and what it gives to that
pub record Signature : Type 0 where
  pub takes : List Shape
  pub gives : Shape

-- on arguments that fit the function does not refuse, and what it gives fits
abbrev pub KeepsSignature : Function → Signature → Type 0
KeepsSignature answer signature =
    (values : List Val) → AllFit signature.takes values → GivesOf (Some signature.gives) (answer values)

-- it keeps each signature
abbrev pub KeepsSignatures : Function → List Signature → Type 0
KeepsSignatures answer [] = Unit {0}
KeepsSignatures answer (signature ∷ signatures) = KeepsSignature answer signature × KeepsSignatures answer signatures

-- what a function of these signatures gives: by the first that takes the arguments
abbrev pub given_by : List Signature → Giving
given_by [] shapes = None
given_by (signature ∷ signatures) shapes =
    if all_wider signature.takes shapes then Some signature.gives else given_by signatures shapes
