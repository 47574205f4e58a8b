-- What each step of a reader of records says of the records of its text.
use Rattle.std.proofs.Common.{◌≡◌, ◌≢◌, ℕ, ◌+◌, List, [], ◌∷◌, ◌++◌, length, true, false, ◌==◌, inl, inr, Option, None, Some, Ok, Bor, refl, sym, ap, subst, ◌∙◌, arith, append_assoc}
use Rattle.std.proofs.lemmas.Bool.{cases_Bool, eq-eqb, eqb-true}
use Rattle.std.proofs.lemmas.List.{append-nil}
use Rattle.std.specs.Prelude.{IsUtf8, IfSome}
use Rattle.csv.specs.Machine.{Read, next_record}
use Rattle.csv.specs.Reading.{ExplainsRead, FlexibleStep, NextIs, Reached, ReadsNext, Ready, TextStep, default_config, records, source_of, stops_reader}
use Rattle.csv.specs.Records.{AllText, Row, fields_of}
use Rattle.csv.specs.declared.error.ErrorKind.{ErrorKind}
use Rattle.csv.specs.declared.error.ErrorKind.TheVariants as kind
use Rattle.csv.specs.declared.parser.State.{State}
use Rattle.csv.specs.declared.parser.State.TheVariants as st
use Rattle.csv.specs.declared.reader.Reader.{Reader}
use Rattle.csv.specs.declared.reader.Trim.TheVariants as trim
use Rattle.csv.proofs.ReadFacts.{reached-more, rows-end, rows-more}
use Rattle.upon_data.specs.Table.{all_have}
use Rattle.upon_data.proofs.CsvRecords.{no_records, reached_records, reached_text, record_text}

abbrev TextReader : Type 0
TextReader = Reader (Bor (List ℕ))

abbrev pub left_of : Bor (List ℕ) → Option (List ℕ)
left_of text = Some text.now

-- a reader that has read nothing of the text
pub record IsFresh (a : TextReader) (text : List ℕ) : Type 0 where
  pub trim : a.trim ≡ trim.None
  pub ready : Ready a
  pub config : a.config ≡ default_config
  pub flexible : a.flexible ≡ false
  pub expected : a.expected ≡ None
  pub source : source_of left_of a ≡ Some text
  pub state : a.state ≡ st.StartRecord

-- a reader that has read a head and records of as many fields of the text
pub record IsUnder (a : TextReader) (text : List ℕ) (head : List (List ℕ)) (rows : List (List (List ℕ))) : Type 0 where
  pub trim : a.trim ≡ trim.None
  pub ready : Ready a
  pub config : a.config ≡ default_config
  pub flexible : a.flexible ≡ false
  pub expected : a.expected ≡ Some (length head)
  pub rest : List ℕ
  pub source : source_of left_of a ≡ Some rest
  pub reached : Reached default_config st.StartRecord text (head ∷ rows) a.state rest
  pub same : all_have (length head) rows ≡ true

nothing_reached : (text : List ℕ) (s : State) → s ≡ st.StartRecord → Reached default_config st.StartRecord text [] s text
unfolding Reached
nothing_reached text s start = (sym start, refl)

-- ---- the records of a text
all_records : (text : List ℕ) (rows : List (List (List ℕ))) (s : State) (rest : List ℕ) → Reached default_config st.StartRecord text rows s rest → next_record default_config s [] [] rest ≡ None → records default_config text ≡ rows
all_records text rows s rest reached none =
    let so_far = reached_records default_config rows (length text + 1) st.StartRecord s text rest reached (inl (omega arith)) in
    so_far.1 ∙ ap (λ more. rows ++ more) (no_records default_config so_far.0 s rest none) ∙ append-nil rows

first_records : (text : List ℕ) (rows : List (List (List ℕ))) (s : State) (rest : List ℕ) → Reached default_config st.StartRecord text rows s rest → (more : List (List (List ℕ))) × (records default_config text ≡ rows ++ more)
first_records text rows s rest reached =
    let so_far = reached_records default_config rows (length text + 1) st.StartRecord s text rest reached (inl (omega arith)) in (_, so_far.1)

next_found : (o : Option Read) (fields : List (List ℕ)) (s : State) (rest : List ℕ) → NextIs o true fields s rest → (p : Read) × (o ≡ Some p) × (fields ≡ p.0)
next_found None fields s rest is = absurd (cc is)
next_found (Some p) fields s rest is = (p, refl, is.1)

took : (s s' : State) (y : List ℕ) (k : Option (List ℕ)) (fields : List (List ℕ)) → ReadsNext default_config s (Some y) k true fields s' → (p : Read) × (next_record default_config s [] [] y ≡ Some p) × (fields ≡ p.0)
took s s' y None fields is = absurd is
took s s' y (Some z) fields is = next_found _ fields s' z is

-- the record that was taken, after what was reached
pub record Taken (text : List ℕ) (s : State) (rest : List ℕ) (fields : List (List ℕ)) : Type 0 where
  pub read : Read
  pub next : next_record default_config s [] [] rest ≡ Some read
  pub is : fields ≡ read.0

-- ---- the first step
pub first_none : (a b : TextReader) (text : List ℕ) (left : ℕ) → IsFresh a text → TextStep left_of a b left None → records default_config text ≡ []
first_none a b text left fresh step =
    all_records text [] a.state text (nothing_reached text a.state fresh.state) (rows-end left_of a b [] default_config text fresh.config fresh.source step)

pub first_row : (a b : TextReader) (text : List ℕ) (left : ℕ) (x : Row) → IsFresh a text → TextStep left_of a b left (Some (Ok x)) → FlexibleStep a b (Some (Ok x)) → IsUnder b text (fields_of x) []
first_row a b text left x fresh step flexible =
    let read = step.0 in
    let more = rows-more left_of a b (fields_of x) default_config st.StartRecord text text [] fresh.config fresh.source (nothing_reached text a.state fresh.state) read in record {
      trim = read.3 ∙ fresh.trim;
      ready = inl step.1;
      config = read.2 ∙ fresh.config;
      flexible = flexible ∙ fresh.flexible;
      expected = (read.5 refl fresh.flexible).1;
      rest = more.0;
      source = more.1;
      reached = more.2;
      same = refl;
    }

-- ---- a later step
same_length : (old new : Option ℕ) (n m : ℕ) → old ≡ Some n → IfSome old (λ e. new ≡ Some e) → new ≡ Some m → m ≡ n
same_length None new n m is keeps found = absurd (cc is)
same_length (Some e) new n m is keeps found = cc

all_have_more : (count : ℕ) (rows : List (List (List ℕ))) (fields : List (List ℕ)) → all_have count rows ≡ true → length fields ≡ count → all_have count (rows ++ fields ∷ []) ≡ true
all_have_more count [] fields all same = rw same (rw (eq-eqb count count refl) refl)
all_have_more count (r ∷ rows) fields all same = elim (cases_Bool (length r == count)) [
  | inl here ↦ rw here (all_have_more count rows fields (rw here at all) same)
  | inr other ↦ absurd (cc (rw other at all))
]

pub next_row : (a b : TextReader) (text : List ℕ) (head : List (List ℕ)) (rows : List (List (List ℕ))) (left : ℕ) (x : Row) → IsUnder a text head rows → TextStep left_of a b left (Some (Ok x)) → FlexibleStep a b (Some (Ok x))
    → IsUnder b text head (rows ++ fields_of x ∷ [])
next_row a b text head rows left x under step flexible =
    let read = step.0 in
    let more = rows-more left_of a b (fields_of x) default_config st.StartRecord text under.rest (head ∷ rows) under.config under.source under.reached read in
    let long = read.5 refl under.flexible in
    let same : length (fields_of x) ≡ length head = same_length a.expected b.expected (length head) (length (fields_of x)) under.expected long.0 long.1 in record {
      trim = read.3 ∙ under.trim;
      ready = inl step.1;
      config = read.2 ∙ under.config;
      flexible = flexible ∙ under.flexible;
      expected = long.1 ∙ ap Some same;
      rest = more.0;
      source = more.1;
      reached = more.2;
      same = all_have_more (length head) rows (fields_of x) under.same same;
    }

pub last_row : (a b : TextReader) (text : List ℕ) (head : List (List ℕ)) (rows : List (List (List ℕ))) (left : ℕ) → IsUnder a text head rows → TextStep left_of a b left None → records default_config text ≡ head ∷ rows
last_row a b text head rows left under step =
    all_records text (head ∷ rows) a.state under.rest under.reached (rows-end left_of a b [] default_config under.rest under.config under.source step)

-- a record of another length is none of a table
not_all_have : (count : ℕ) (rows more : List (List (List ℕ))) (fields : List (List ℕ)) → (length fields == count) ≡ false → all_have count (rows ++ fields ∷ more) ≡ false
not_all_have count [] more fields other = rw other refl
not_all_have count (r ∷ rows) more fields other = elim (cases_Bool (length r == count)) [
  | inl same ↦ rw same (not_all_have count rows more fields other)
  | inr differs ↦ rw differs refl
]

differs : (n m : ℕ) → m ≢ n → (n == m) ≡ false
differs n m other = elim (cases_Bool (n == m)) [ inl same ↦ absurd (other (sym (eqb-true n m same))) | inr unlike ↦ unlike ]

-- the records are the head and others, of which one has another length
pub record IsRagged (text : List ℕ) (head : List (List ℕ)) : Type 0 where
  pub others : List (List (List ℕ))
  pub are : records default_config text ≡ head ∷ others
  pub unlike : all_have (length head) others ≡ false

ragged : (a : TextReader) (text : List ℕ) (head : List (List ℕ)) (rows : List (List (List ℕ))) (s' : State) (k : Option (List ℕ)) (expected len : ℕ) (fields : List (List ℕ)) → IsUnder a text head rows
    → a.expected ≡ Some expected → expected ≢ len → length fields ≡ len → ReadsNext a.config a.state (source_of left_of a) k true fields s' → IsRagged text head
ragged a text head rows s' k expected len fields under is other long reads =
    let read = took a.state s' under.rest k fields (rw (under.config, under.source) at reads) in
    let more = first_records text ((head ∷ rows) ++ read.0.0 ∷ []) read.0.1 read.0.2 (reached-more default_config st.StartRecord a.state text under.rest (head ∷ rows) read.0 under.reached read.1) in
    let wanted : expected ≡ length head = cc (is, under.expected) in
    let not_same : length fields ≢ length head = λ same. other (wanted ∙ sym same ∙ long) in
    let unlike_read : length read.0.0 ≢ length head = λ same. not_same (ap length read.2 ∙ same) in record {
      others = rows ++ read.0.0 ∷ more.0;
      are = more.1 ∙ append_assoc (head ∷ rows) (read.0.0 ∷ []) more.0;
      unlike = not_all_have (length head) rows more.0 read.0.0 (differs (length read.0.0) (length head) (λ same. unlike_read (sym same)));
    }

-- a record that was read of a text is text
is_text : (a : TextReader) (text : List ℕ) (rows : List (List (List ℕ))) (rest : List ℕ) (s' : State) (k : Option (List ℕ)) (fields : List (List ℕ)) → IsUtf8 text → a.config ≡ default_config → source_of left_of a ≡ Some rest
    → Reached default_config st.StartRecord text rows a.state rest → ReadsNext a.config a.state (source_of left_of a) k true fields s' → AllText fields
is_text a text rows rest s' k fields utf8 config source reached reads =
    let left = reached_text rows st.StartRecord a.state text rest reached refl utf8 in
    let read = took a.state s' rest k fields (rw (config, source) at reads) in
    subst AllText (sym read.2) (record_text a.state rest read.0 left.0 left.1 read.1)

-- why a step fails
pub fault_under : (a b : TextReader) (text : List ℕ) (head : List (List ℕ)) (rows : List (List (List ℕ))) (k : ErrorKind) → IsUtf8 text → IsUnder a text head rows → ExplainsRead left_of a b true k → stops_reader k ≡ false → IsRagged text head
fault_under a b text head rows (kind.Io e) utf8 under why goes = absurd (cc goes)
fault_under a b text head rows kind.OutOfMemory utf8 under why goes = absurd (cc goes)
fault_under a b text head rows (kind.UnequalLengths pos expected len) utf8 under why goes = ragged a text head rows b.state _ expected len why.3 under why.1 why.2 why.5 why.4
fault_under a b text head rows (kind.Utf8 pos err) utf8 under why goes = absurd (why.3 (is_text a text (head ∷ rows) under.rest b.state _ why.1 utf8 under.config under.source under.reached why.2))
fault_under a b text head rows (kind.Serialize said) utf8 under why goes = absurd why
fault_under a b text head rows (kind.Deserialize pos err) utf8 under why goes = absurd why

pub fault_first : (a b : TextReader) (text : List ℕ) (k : ErrorKind) → IsUtf8 text → IsFresh a text → ExplainsRead left_of a b true k → stops_reader k ≡ true
fault_first a b text (kind.Io e) utf8 fresh why = refl
fault_first a b text kind.OutOfMemory utf8 fresh why = refl
fault_first a b text (kind.UnequalLengths pos expected len) utf8 fresh why = absurd (cc (why.1, fresh.expected))
fault_first a b text (kind.Utf8 pos err) utf8 fresh why = absurd (why.3 (is_text a text [] text b.state _ why.1 utf8 fresh.config fresh.source (nothing_reached text a.state fresh.state) why.2))
fault_first a b text (kind.Serialize said) utf8 fresh why = absurd why
fault_first a b text (kind.Deserialize pos err) utf8 fresh why = absurd why
