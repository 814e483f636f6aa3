-- What the words of a command line ask for.
use Rattle.std.specs.Prelude.{◌≡◌, ◌⊎◌, ℕ, Bool, false, true, List, [], Option, None, Some, Result, Ok, Err, ⊤, MatchOption, codes, map, option_map}
use Rattle.std.specs.Option.{option_map_or}
use Rattle.std.specs.Str.{bytes_eq}
use Rattle.clap.specs.Walk.{Row, Text, all_of, first_of}
use Rattle.gr_model.specs.declared.event.EventId.{EventId}
use Rattle.gr_model.specs.declared.event.Word.{Word}
use Rattle.gr_model.specs.Prelude.{IsConfig, Settings}
use Rattle.gr_arguments.specs.Naming.{IsNumber, Names, NamesEvent}
use Rattle.gr_arguments.specs.declared.request.Arguments.{Arguments}
use Rattle.gr_arguments.specs.declared.request.Misuse.{Misuse}
use Rattle.gr_arguments.specs.declared.request.Misuse.TheVariants.{NoCount, NoEvent, NoSetUp, NoWordOfHistory, NoWordToExplain, SidesAlone}
use Rattle.gr_arguments.specs.declared.request.Query.{Query}
use Rattle.gr_arguments.specs.declared.request.Query.TheVariants.{Check, Explain, History, Races, Run, WhyHeld}
use Rattle.gr_arguments.specs.declared.request.Request.{Request}
use Rattle.gr_arguments.specs.declared.request.Request.TheVariants as request
use Rattle.gr_arguments.specs.declared.request.Task.{Task}
use Rattle.gr_arguments.specs.declared.request.Task.TheVariants.{Dump, Replay}
use Rattle.gr_arguments.specs.Commands.{command_of, faults, name_met, name_of, values_met}

-- the files that the values have
abbrev pub files_of : List Row → List Text
files_of rows = option_map_or (λ files. files) (all_of (codes "FILE") rows) []

-- whether the values have a flag: the value of a flag that is there is `true`
abbrev pub has_flag : Text → List Row → Bool
has_flag flag rows = option_map_or (λ text. bytes_eq text (codes "true")) (first_of flag rows) false

-- ---- a task over standard input

-- the values ask for this task of its command: a report as text or as JSON; the text of a whole trace, or also of what comes before a fault
abbrev pub IsTask : List Row → Task → Type 0
IsTask rows (Replay json) = has_flag (codes "json") rows ≡ json
IsTask rows (Dump partial) = has_flag (codes "partial") rows ≡ partial
IsTask rows t = ⊤

-- ---- a query about a launch whose streams are in files

-- the command that asks it
abbrev pub query_name : Query → Text
query_name (Explain long word) = codes "explain"
query_name (Races most causes) = codes "races"
query_name (History word) = codes "history"
query_name (Run config) = codes "run"
query_name Check = codes "check"
query_name (WhyHeld event) = codes "why-held"

-- the values ask for the long form, or not: the short one has no side files
abbrev pub IsForm : List Row → Bool → Type 0
IsForm rows true = has_flag (codes "long") rows ≡ true
IsForm rows false = (has_flag (codes "long") rows ≡ false) × (first_of (codes "places") rows ≡ None) × (first_of (codes "buffers") rows ≡ None)

-- they name the word
pub record NamesWord (rows : List Row) (w : Word) : Type 0 where
  pub space : Text
  pub number : Text
  pub at_space : first_of (codes "SPACE") rows ≡ Some space
  pub at_number : first_of (codes "WORD") rows ≡ Some number
  pub names : Names space number w

-- how many kinds they ask for: a number, or none if the option is not there
abbrev pub IsMost : List Row → Option ℕ → Type 0
IsMost rows None = first_of (codes "most") rows ≡ None
IsMost rows (Some n) = (text : Text) × (first_of (codes "most") rows ≡ Some text) × IsNumber text n

-- the number of an option, or the default if the option is not there
abbrev pub IsNumberOr : List Row → Text → ℕ → ℕ → Type 0
IsNumberOr rows option default n = ((first_of option rows ≡ None) × (n ≡ default)) ⊎ ((text : Text) × (first_of option rows ≡ Some text) × IsNumber text n)

-- the values have these numbers of workers, queues and places, which a run may have
pub record IsSetUp (rows : List Row) (c : Settings) : Type 0 where
  pub workers : IsNumberOr rows (codes "workers") 2 c.workers
  pub queues : IsNumberOr rows (codes "queues") 1 c.queues
  pub capacity : IsNumberOr rows (codes "capacity") 1024 c.capacity
  pub may_be : IsConfig c

-- they name the event
pub record HasEvent (rows : List Row) (e : EventId) : Type 0 where
  pub group : Text
  pub item : Text
  pub index : Text
  pub at_group : first_of (codes "GROUP") rows ≡ Some group
  pub at_item : first_of (codes "ITEM") rows ≡ Some item
  pub at_index : first_of (codes "INDEX") rows ≡ Some index
  pub names : NamesEvent group item index e

-- they ask this query of its command
abbrev pub IsQuery : List Row → Query → Type 0
IsQuery rows (Explain long word) = IsForm rows long × NamesWord rows word
IsQuery rows (Races most causes) = IsMost rows most × (has_flag (codes "causes") rows ≡ causes)
IsQuery rows (History word) = NamesWord rows word
IsQuery rows (Run config) = IsSetUp rows config
IsQuery rows Check = ⊤
IsQuery rows (WhyHeld event) = HasEvent rows event

-- the name of a side file, if the query takes side files
abbrev pub side_of : Query → Text → List Row → Option Text
side_of (Run config) option rows = None
side_of Check option rows = None
side_of (WhyHeld event) option rows = None
side_of query option rows = first_of option rows

-- a query, its side files, whether the answer is JSON, and the files of the streams
pub record Inquiry : Type 0 where
  pub query : Query
  pub places : Option Text
  pub buffers : Option Text
  pub json : Bool
  pub files : List Text

-- the values ask for this
pub record IsInquiry (rows : List Row) (a : Inquiry) : Type 0 where
  pub query : IsQuery rows a.query
  pub places : side_of a.query (codes "places") rows ≡ a.places
  pub buffers : side_of a.query (codes "buffers") rows ≡ a.buffers
  pub as_json : has_flag (codes "json") rows ≡ a.json
  pub at_files : files_of rows ≡ a.files

-- ---- why words ask for nothing, though the parser took them

-- the command that they misuse
abbrev pub misuse_name : Misuse → Text
misuse_name SidesAlone = codes "explain"
misuse_name NoWordToExplain = codes "explain"
misuse_name NoCount = codes "races"
misuse_name NoWordOfHistory = codes "history"
misuse_name NoSetUp = codes "run"
misuse_name NoEvent = codes "why-held"

-- the values misuse it in this way: a value of the query is wrong; for `explain` it is the first wrong one
abbrev pub IsMisuse : List Row → Misuse → Type 0
IsMisuse rows SidesAlone = (long : Bool) → ¬ IsForm rows long
IsMisuse rows NoWordToExplain = ((long : Bool) × IsForm rows long) × ((w : Word) → ¬ NamesWord rows w)
IsMisuse rows NoCount = (most : Option ℕ) → ¬ IsMost rows most
IsMisuse rows NoWordOfHistory = (w : Word) → ¬ NamesWord rows w
IsMisuse rows NoSetUp = (c : Settings) → ¬ IsSetUp rows c
IsMisuse rows NoEvent = (e : EventId) → ¬ HasEvent rows e

-- what the values of a command on files ask: a query, or why they ask none
abbrev pub IsSaid : Text → List Row → Result Query Misuse → Type 0
IsSaid name rows (Ok q) = (name ≡ query_name q) × IsQuery rows q
IsSaid name rows (Err m) = (name ≡ misuse_name m) × IsMisuse rows m

-- ---- all that words may ask for

pub data Asked : Type 0 where
  -- a task over standard input
  perform : Task → Asked
  -- a query
  ask : Inquiry → Asked
  -- nothing
  refuse : Misuse → Asked

-- the command of what is asked for
abbrev pub name_asked : Asked → Text
name_asked (perform t) = name_of t
name_asked (ask a) = query_name a.query
name_asked (refuse m) = misuse_name m

-- the values of that command ask for it
abbrev pub IsAskedIn : List Row → Asked → Type 0
IsAskedIn rows (perform t) = IsTask rows t
IsAskedIn rows (ask a) = IsInquiry rows a
IsAskedIn rows (refuse m) = IsMisuse rows m

-- the command of this name asks for this with these values
pub record IsAskedBy (name : Text) (rows : List Row) (a : Asked) : Type 0 where
  pub command : name ≡ name_asked a
  pub values : IsAskedIn rows a

-- the parser takes the words, and they ask for this
pub record AsksTo (a : Asked) (words : List Text) : Type 0 where
  pub taken : faults words ≡ []
  pub asks : IsAskedBy (name_met (command_of words)) (values_met (command_of words)) a

-- this is the one that has the property, or nothing has it
abbrev pub IsTheOne : {X : Type 0} → (X → Type 0) → Option X → Type 0
IsTheOne P o = MatchOption o ((x : _) → ¬ P x) P

-- ---- requests

abbrev pub inquiry_of : Arguments → Inquiry
inquiry_of a = record { query = a.query; places = option_map (λ s. s.now) a.places; buffers = option_map (λ s. s.now) a.buffers; json = a.json; files = map (λ s. s.now) a.files.items }

-- what a request asks for
abbrev pub asked_of : Request → Asked
asked_of (request.Perform t) = perform t
asked_of (request.Ask a) = ask (inquiry_of a)
asked_of (request.Refuse m) = refuse m
