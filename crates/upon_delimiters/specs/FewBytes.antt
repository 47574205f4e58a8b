-- The few bytes that delimiters have at their first place, or at their second.
use Rattle.std.specs.Prelude.{◌≡◌, ℕ, ◌<◌, List, true, length, slice_index}
use Rattle.memchr.specs.Find.{is_byte3}
use Rattle.upon_language_spec.specs.Search.{DelimiterText, text_at}
use Rattle.upon_delimiters.specs.declared.few_bytes.FewBytes.{FewBytes}

-- a byte is one of three at most
abbrev pub IsOneOf : FewBytes → ℕ → Type 0
IsOneOf few b = is_byte3 few.first few.second few.third b ≡ true

-- a text has one of them at their place
abbrev pub HasOneOf : FewBytes → List ℕ → Type 0
HasOneOf few text = few.place < length text × IsOneOf few (slice_index text few.place)

-- each delimiter has
abbrev pub HaveOneOf : FewBytes → List DelimiterText → Type 0
HaveOneOf few delimiters = (i : ℕ) → i < length delimiters → HasOneOf few (text_at delimiters i)
