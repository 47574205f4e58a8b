-- What each call gives, from the bytes of its arguments to the bytes of its text.
use Rattle.std.specs.Prelude.{◌≡◌, ◌⊎◌, ℕ, List, [], Option, Some, None, IsSomeAnd, string_bytes}
use Rattle.std.specs.Str.{IsUtf8}
use Rattle.upon_types.specs.Val.{Val}
use Rattle.upon_calls.specs.Arguments.{HasNoArgumentValue, IsArgumentValue}
use Rattle.upon_calls.specs.Asked.{Asked, IsAsked, IsUnasked}
use Rattle.upon_calls.specs.Check.{AreRight}
use Rattle.upon_calls.specs.Contexts.{AreThere, checked_pages, Contexts, IsCheckAsked, IsCheckUnasked, LacksPage, PagesEndIf}
use Rattle.upon_calls.specs.Failure.{IsPicture}
use Rattle.upon_calls.specs.Filled.{engine_for, filled}
use Rattle.upon_calls.specs.Names.{ListsNamed}
use Rattle.upon_calls.specs.Pictures.{ShowsWrong}
use Rattle.upon_calls.specs.Places.{IsShownOf}
use Rattle.upon_calls.specs.Rendering.{FailsNamed, FailsText, IsFirstOfOne, MeansNamed, MeansText}
use Rattle.upon_calls.specs.Templates.{AreNone, AreTemplates, sources_in}
use Rattle.upon_calls.specs.Unsure.{declared_as, IsPageUnsure}
use Rattle.upon_calls.specs.declared.failure.Argument.{Argument}
use Rattle.upon_calls.specs.declared.failure.Argument.TheVariants.{Templates, Source, Context, Name, Options}
use Rattle.upon_calls.specs.declared.failure.Failure.{Failure}
use Rattle.upon_calls.specs.declared.failure.Failure.TheVariants.{Faults, Refused, NotText, OutOfMemory}

-- what the text of options asks for, and the templates that a text of JSON is
pub record AreGiven (templates options : List ℕ) (asked : Asked) (sources : List (List ℕ × List ℕ)) : Type 0 where
  pub asks : IsAsked options asked
  pub are : AreTemplates templates sources

-- how a call fails, by what is so for pictures, for a refused argument, and for one that is not UTF-8
abbrev pub CallFails : (List ℕ → Type 0) → (Argument → Type 0) → (Argument → Type 0) → Failure → Type 0
CallFails Pictures Refuses IsNotText (Faults pictures) = Pictures (string_bytes pictures)
CallFails Pictures Refuses IsNotText (Refused argument reason) = Refuses argument
CallFails Pictures Refuses IsNotText (NotText argument) = IsNotText argument
CallFails Pictures Refuses IsNotText OutOfMemory = Unit {0}

-- ---- the template of a name is rendered
-- The text is what the tree of the named template's text means on the value of the context, where an engine holds the
-- templates under the options' delimiters, with their formatters, functions and depth, and within their limits.
pub record Renders (templates context name options text : List ℕ) : Type 0 where
  pub asked : Asked
  pub sources : List (List ℕ × List ℕ)
  pub value : Val
  pub given : AreGiven templates options asked sources
  pub read : IsArgumentValue context value
  pub means : MeansNamed asked.limits (filled asked sources) name value text

-- The text is the picture of the first fault of a template's text, or of the one with which the rendering ends.
pub record RenderFaults (templates context name options text : List ℕ) : Type 0 where
  pub asked : Asked
  pub sources : List (List ℕ × List ℕ)
  pub value : Val
  pub given : AreGiven templates options asked sources
  pub read : IsArgumentValue context value
  pub pictures : IsPicture (λ fault. IsFirstOfOne asked.delimiters sources fault
      ⊎ FailsNamed asked.limits (filled asked sources) name value fault) text

-- no template has the name
abbrev pub NoneNamed : List ℕ → List ℕ → List ℕ → Type 0
NoneNamed templates options name = (asked : Asked) × (sources : List (List ℕ × List ℕ))
    × AreGiven templates options asked sources × ((filled asked sources).texts name ≡ None)

-- an argument is refused: the options ask for nothing, the templates are none, the context has no value, or no template
-- has the name
abbrev pub RenderRefuses : List ℕ → List ℕ → List ℕ → List ℕ → Argument → Type 0
RenderRefuses templates context name options Templates = AreNone templates
RenderRefuses templates context name options Source = ⊥
RenderRefuses templates context name options Context = HasNoArgumentValue context
RenderRefuses templates context name options Name = NoneNamed templates options name
RenderRefuses templates context name options Options = IsUnasked options

-- an argument is not UTF-8
abbrev pub RenderNotText : List ℕ → List ℕ → List ℕ → List ℕ → Argument → Type 0
RenderNotText templates context name options Templates = IsUtf8 templates → ⊥
RenderNotText templates context name options Source = ⊥
RenderNotText templates context name options Context = IsUtf8 context → ⊥
RenderNotText templates context name options Name = IsUtf8 name → ⊥
RenderNotText templates context name options Options = IsUtf8 options → ⊥

-- how the call fails
abbrev pub RenderFails : List ℕ → List ℕ → List ℕ → List ℕ → Failure → Type 0
RenderFails templates context name options failure = CallFails (RenderFaults templates context name options)
    (RenderRefuses templates context name options) (RenderNotText templates context name options) failure

-- ---- a text is rendered
-- The text is what the tree of the source means on the value of the context, in an engine of the options.
pub record RendersText (source context options text : List ℕ) : Type 0 where
  pub asked : Asked
  pub value : Val
  pub asks : IsAsked options asked
  pub read : IsArgumentValue context value
  pub means : MeansText asked.limits (engine_for asked) source value text

-- The text is the picture of the first fault of the source, or of the one with which its rendering ends.
pub record TextFaults (source context options text : List ℕ) : Type 0 where
  pub asked : Asked
  pub value : Val
  pub asks : IsAsked options asked
  pub read : IsArgumentValue context value
  pub pictures : IsPicture (FailsText asked.limits (engine_for asked) source value) text

-- an argument is refused: the options ask for nothing, or the context has no value
abbrev pub TextRefuses : List ℕ → List ℕ → List ℕ → Argument → Type 0
TextRefuses source context options Templates = ⊥
TextRefuses source context options Source = ⊥
TextRefuses source context options Context = HasNoArgumentValue context
TextRefuses source context options Name = ⊥
TextRefuses source context options Options = IsUnasked options

-- an argument is not UTF-8
abbrev pub TextNotText : List ℕ → List ℕ → List ℕ → Argument → Type 0
TextNotText source context options Templates = ⊥
TextNotText source context options Source = IsUtf8 source → ⊥
TextNotText source context options Context = IsUtf8 context → ⊥
TextNotText source context options Name = ⊥
TextNotText source context options Options = IsUtf8 options → ⊥

-- how the call fails
abbrev pub TextFails : List ℕ → List ℕ → List ℕ → Failure → Type 0
TextFails source context options failure = CallFails (TextFaults source context options)
    (TextRefuses source context options) (TextNotText source context options) failure

-- ---- templates are checked
-- Of templates, and of contexts if they are given: each template is right, and each page ends on each of the contexts.
pub record AreRightOn (asked : Asked) (contexts : Option Contexts) (value : Val) (sources : List (List ℕ × List ℕ))
    : Type 0 where
  pub right : AreRight asked.delimiters value sources
  pub pages : PagesEndIf contexts (filled asked sources) value sources

-- Each template is right, but contexts are given, and of one page it is in doubt whether it ends well on each of them.
-- A text shows where the pages that are checked may not: it is not empty.
pub record ShowsDoubt (asked : Asked) (contexts : Option Contexts) (value : Val) (sources : List (List ℕ × List ℕ))
    (text : List ℕ) : Type 0 where
  pub right : AreRight asked.delimiters value sources
  pub there : IsSomeAnd contexts (λ given. AreThere given.pages value)
  pub unsure : IsSomeAnd contexts (λ given. IsPageUnsure asked sources given.shape (checked_pages given.pages sources))
  pub shows : IsSomeAnd contexts (λ given. IsShownOf (filled asked sources) (declared_as asked) given.shape
      (checked_pages given.pages sources) text)
  pub some : text ≡ [] → ⊥

-- a text is the pictures of what is wrong with templates; or they are right, and it shows where a page may fail
abbrev pub AreWrongOn : Asked → Option Contexts → Val → List (List ℕ × List ℕ) → List ℕ → Type 0
AreWrongOn asked contexts value sources text =
    ShowsWrong asked.delimiters value sources text ⊎ ShowsDoubt asked contexts value sources text

-- The text is empty, and each template is right: it has a tree, and no include in it names none of them. If contexts
-- are given, each page ends without a fault on each of them, but that includes may be too deep one inside another,
-- where an engine holds the templates as it does for a rendering by these options.
pub record ChecksRight (templates options text : List ℕ) : Type 0 where
  pub asked : Asked
  pub contexts : Option Contexts
  pub value : Val
  pub sources : List (List ℕ × List ℕ)
  pub asks : IsCheckAsked options asked contexts
  pub read : IsArgumentValue templates value
  pub are : sources_in value ≡ Some sources
  pub right : AreRightOn asked contexts value sources
  pub empty : text ≡ []

-- A template is not right, and the text is the pictures of all that is wrong with the templates. Or each is, contexts
-- are given, and of a page it is in doubt whether it ends well on each of them; then the text is not empty.
pub record ChecksWrong (templates options text : List ℕ) : Type 0 where
  pub asked : Asked
  pub contexts : Option Contexts
  pub value : Val
  pub sources : List (List ℕ × List ℕ)
  pub asks : IsCheckAsked options asked contexts
  pub read : IsArgumentValue templates value
  pub are : sources_in value ≡ Some sources
  pub wrong : AreWrongOn asked contexts value sources text

-- a page that the options name is none of the templates
abbrev pub NamesNoPage : List ℕ → List ℕ → Type 0
NamesNoPage templates options = (asked : Asked) × (contexts : Option Contexts) × (value : Val)
    × IsCheckAsked options asked contexts × IsArgumentValue templates value × LacksPage contexts value

-- an argument is refused: the options ask for nothing, or their schema is not read, or they name a page that is no
-- template; or the templates are none
abbrev pub ChecksRefuse : List ℕ → List ℕ → Argument → Type 0
ChecksRefuse templates options Templates = AreNone templates
ChecksRefuse templates options Source = ⊥
ChecksRefuse templates options Context = ⊥
ChecksRefuse templates options Name = ⊥
ChecksRefuse templates options Options = IsCheckUnasked options ⊎ NamesNoPage templates options

-- an argument is not UTF-8
abbrev pub ChecksNotText : List ℕ → List ℕ → Argument → Type 0
ChecksNotText templates options Templates = IsUtf8 templates → ⊥
ChecksNotText templates options Source = ⊥
ChecksNotText templates options Context = ⊥
ChecksNotText templates options Name = ⊥
ChecksNotText templates options Options = IsUtf8 options → ⊥

-- how the call fails
abbrev pub CheckFails : List ℕ → List ℕ → Failure → Type 0
CheckFails templates options failure =
    CallFails (ChecksWrong templates options) (ChecksRefuse templates options) (ChecksNotText templates options) failure

-- ---- it is listed what a template needs
-- The text is the JSON of what the template of a name needs.
pub record ListsNeeds (templates name options text : List ℕ) : Type 0 where
  pub asked : Asked
  pub sources : List (List ℕ × List ℕ)
  pub given : AreGiven templates options asked sources
  pub lists : ListsNamed (filled asked sources) name text

-- The text is the picture of the first fault of a template's text.
pub record ListFaults (templates name options text : List ℕ) : Type 0 where
  pub asked : Asked
  pub sources : List (List ℕ × List ℕ)
  pub given : AreGiven templates options asked sources
  pub pictures : IsPicture (IsFirstOfOne asked.delimiters sources) text

-- an argument is refused: the options ask for nothing, the templates are none, or no template has the name
abbrev pub ListRefuses : List ℕ → List ℕ → List ℕ → Argument → Type 0
ListRefuses templates name options Templates = AreNone templates
ListRefuses templates name options Source = ⊥
ListRefuses templates name options Context = ⊥
ListRefuses templates name options Name = NoneNamed templates options name
ListRefuses templates name options Options = IsUnasked options

-- an argument is not UTF-8
abbrev pub ListNotText : List ℕ → List ℕ → List ℕ → Argument → Type 0
ListNotText templates name options Templates = IsUtf8 templates → ⊥
ListNotText templates name options Source = ⊥
ListNotText templates name options Context = ⊥
ListNotText templates name options Name = IsUtf8 name → ⊥
ListNotText templates name options Options = IsUtf8 options → ⊥

-- how the call fails
abbrev pub ListFails : List ℕ → List ℕ → List ℕ → Failure → Type 0
ListFails templates name options failure = CallFails (ListFaults templates name options)
    (ListRefuses templates name options) (ListNotText templates name options) failure
