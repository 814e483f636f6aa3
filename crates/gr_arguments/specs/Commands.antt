-- The commands of the program, and why the parser does not take words.
use Rattle.std.specs.Prelude.{◌≡◌, ◌≢◌, ◌⊎◌, true, List, [], ◌∷◌, ◌++◌, Option, Some, codes, fold, if◌then◌else◌}
use Rattle.std.specs.Option.{option_map_or}
use Rattle.std.specs.Str.{bytes_eq}
use Rattle.std.specs.List.{list_any}
use Rattle.clap.specs.declared.builder.action.ArgAction.TheVariants.{Append, SetTrue}
use Rattle.clap.specs.declared.error.kind.ErrorKind.{ErrorKind}
use Rattle.clap.specs.declared.error.kind.ErrorKind.TheVariants.{DisplayHelp, DisplayVersion, OutOfMemory}
use Rattle.clap.specs.Walk.{Row, Text}
use Rattle.clap.specs.Words.{App, IsAmong, Rule, Shape, fault_of, new_app, new_rule, subcommand_of, with_rule, with_subcommand}
use Rattle.gr_arguments.specs.declared.request.Task.{Task}
use Rattle.gr_arguments.specs.declared.request.Task.TheVariants.{Replay, Pack, Dump, Upgrade}

-- the command of a task
abbrev pub name_of : Task → Text
name_of (Replay json) = codes "replay"
name_of Pack = codes "pack"
name_of (Dump partial) = codes "dump"
name_of Upgrade = codes "upgrade"

-- the program, whose words come without its own name
abbrev pub alone : Shape
alone = record (new_app (codes "gpurace")).top { no_binary_name = true; has_version = true }

-- a value that must be given, and the files, at least one
abbrev pub wanted : Text → Rule
wanted id = record (new_rule id) { required = true }

abbrev pub wanted_files : Rule
wanted_files = record (wanted (codes "FILE")) { action = Some Append }

-- an option that is there or not
abbrev pub flag_rule : Text → Rule
flag_rule id = record (new_rule id) { long = Some id; action = Some SetTrue }

-- an option with a value
abbrev pub option_rule : Text → Rule
option_rule id = record (new_rule id) { long = Some id; value_names = 1 }

-- a command with these rules
abbrev pub command_with : Text → List Rule → Shape
command_with name rules = (fold with_rule (new_app name) rules).top

-- the files of places and of buffers
abbrev pub side_rules : List Rule
side_rules = option_rule (codes "places") ∷ option_rule (codes "buffers") ∷ []

-- a word of memory, and the files
abbrev pub word_rules : List Rule
word_rules = wanted (codes "SPACE") ∷ wanted (codes "WORD") ∷ wanted_files ∷ []

-- the command that shows one word: whether in the long form, the side files, whether as JSON, the word, and the files
abbrev pub explaining : Shape
explaining = command_with (codes "explain") (flag_rule (codes "long") ∷ side_rules ++ flag_rule (codes "json") ∷ word_rules)

-- the program with its commands
abbrev pub gpurace : App
gpurace =
    fold with_subcommand (record { top = alone; subs = [] })
    -- reports on streams: whether as JSON
    (command_with (codes "replay") (flag_rule (codes "json") ∷ [])
    ∷ command_with (codes "pack") []
    -- writes streams as text: whether also what comes before a fault
    ∷ command_with (codes "dump") (flag_rule (codes "partial") ∷ [])
    ∷ command_with (codes "upgrade") []
    ∷ explaining
    -- shows all races: how many kinds at most, the side files, whether with causes and as JSON, and the files
    ∷ command_with (codes "races") (option_rule (codes "most") ∷ side_rules ++ flag_rule (codes "causes") ∷ flag_rule (codes "json") ∷ wanted_files ∷ [])
    -- lists all accesses to one word: the side files, whether as JSON, the word, and the files
    ∷ command_with (codes "history") (side_rules ++ flag_rule (codes "json") ∷ word_rules)
    -- judges a launch in threads: how many workers and queues, the room of a queue, whether as JSON, and the files
    ∷ command_with (codes "run") (option_rule (codes "workers") ∷ option_rule (codes "queues") ∷ option_rule (codes "capacity") ∷ flag_rule (codes "json") ∷ wanted_files ∷ [])
    -- checks files: whether as JSON, and the files
    ∷ command_with (codes "check") (flag_rule (codes "json") ∷ wanted_files ∷ [])
    -- reports why an event is held: whether as JSON, the event, and the files
    ∷ command_with (codes "why-held") (flag_rule (codes "json") ∷ wanted (codes "GROUP") ∷ wanted (codes "ITEM") ∷ wanted (codes "INDEX") ∷ wanted_files ∷ []) ∷ [])

-- ---- the command that words name

-- the command and the values of its arguments
unfoldable pub command_of : List Text → Option (Text × List Row)
command_of words = subcommand_of gpurace words

-- all commands but `replay`
abbrev pub other_commands : List Text
other_commands = codes "pack" ∷ codes "dump" ∷ codes "upgrade" ∷ codes "explain" ∷ codes "races" ∷ codes "history" ∷ codes "run" ∷ codes "check" ∷ codes "why-held" ∷ []

-- the command of this name: `replay` if it is none of the others
abbrev pub meant : Text → Text
meant name = if list_any (λ other. bytes_eq name other) other_commands then name else codes "replay"

-- the name of the command, `replay` if the words name none; and the values
abbrev pub name_met : Option (Text × List Row) → Text
name_met command = option_map_or (λ p. meant p.0) command (codes "replay")

abbrev pub values_met : Option (Text × List Row) → List Row
values_met command = option_map_or (λ p. p.1) command []

-- ---- words that the parser does not take

-- help was asked for, or the version
abbrev pub IsHelp : ErrorKind → Type 0
IsHelp kind = (kind ≡ DisplayHelp) ⊎ (kind ≡ DisplayVersion)

-- the words are wrong
abbrev pub IsWrongUsage : ErrorKind → Type 0
IsWrongUsage kind = ¬ IsHelp kind × (kind ≢ OutOfMemory)

-- why the words are not taken, if they are not: what is wrong with the first wrong word
unfoldable pub faults : List Text → List ErrorKind
faults words = fault_of gpurace words

-- the words are wrong, or ask for help, for every kind of error among these
abbrev pub AreWrong : List ErrorKind → Type 0
AreWrong kinds = (kinds ≢ []) × ((k : ErrorKind) → IsAmong k kinds → IsWrongUsage k)

abbrev pub AreHelp : List ErrorKind → Type 0
AreHelp kinds = (kinds ≢ []) × ((k : ErrorKind) → IsAmong k kinds → IsHelp k)
