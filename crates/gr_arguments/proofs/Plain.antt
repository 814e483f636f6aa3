-- Words that do not begin with a hyphen, in the walk over the words of a command line.
use Rattle.gr_model.proofs.Common.{◌≡◌, ◌∙◌, ℕ, Bool, true, false, List, [], ◌∷◌, ◌++◌, Option, Some, None, refl, sym, ap, ap₂, append_assoc, codes, arith, subst, fold, is_some, ne_eqb}
use Rattle.clap.proofs.FaultLemmas.{stopped_fault}
use Rattle.clap.proofs.OnLiterals.{clap_on_literals}
use Rattle.clap.proofs.WalkLemmas.{walk_stopped}
use Rattle.clap.specs.Kinds.{Kinds, or_else}
use Rattle.clap.specs.Simple.{App, Shape, built, entered, names_of, subcommand_of, built_leaf, inherited}
use Rattle.clap.specs.Walk.{Held, Row, Text, Waiting, Walk, finished, idle, positional, settled, value, walk, walk_from, nothing_held, walked, rows_after, after_step}
use Rattle.clap.specs.Faults.{check_fault, defaults_fault, entered_fault, fault_of, level_fault, settle_fault, step_fault, turn_fault, walk_fault}
use Rattle.clap.specs.declared.parser.matches.ValueSource.TheVariants.{CommandLine, DefaultValue}
use Rattle.clap.specs.declared.builder.value_parser.ValueParser.TheVariants.{String}
use Rattle.clap.specs.Values.{reading_of}
use Rattle.std.proofs.lemmas.Str.Parse.{digit_from_value}
use Rattle.gr_model.specs.declared.event.Word.{Word}
use Rattle.gr_model.specs.declared.event.Word.TheVariants.{Global, Local}
use Rattle.gr_arguments.specs.declared.request.Misuse.TheVariants.{NoWordToExplain}
use Rattle.gr_arguments.specs.Naming.{IsNumber, Names as NamesWord}
use Rattle.gr_arguments.specs.Asked.{Asked, AsksTo, IsAskedBy, IsInquiry, ask, refuse}
use Rattle.gr_arguments.specs.Commands.{command_of, explaining, faults, gpurace, name_met, values_met}
use Rattle.gr_arguments.specs.Plain.{about_word, flag_words, ArePlain, IsPlain, PlainWordsAsk, PlainWordsMisname}

-- ---- the words after the command's name

abbrev app : App
app = built gpurace

abbrev explain : Text
explain = codes "explain"

abbrev start : Walk
start = walk_from nothing_held

abbrev stopped_at : List Text → Walk
stopped_at rest = record start { stopped = Some (explain, rest) }

enters : (walked app.top.rules (names_of app) start explain ≡ stopped_at []) × (turn_fault app.top (names_of app) start explain ≡ [])
unfolding clap_on_literals
enters = (refl, refl)

stops : (rest : List Text) → walk app.top.rules (names_of app) nothing_held (explain ∷ rest) ≡ stopped_at rest
stops rest = ap (λ (w : Walk). fold (walked app.top.rules (names_of app)) w rest) enters.0 ∙ sym (walk_stopped app.top.rules (names_of app) start explain [] rest)

-- ---- the words of the command

abbrev showing : Shape
showing = built_leaf (inherited gpurace.top explaining)

abbrev row : Text → List Text → Row
row id values = record { id = id; values = values; count = None; source = Some CommandLine; reading = reading_of String }

abbrev file_rows : List Text → List Row
file_rows [] = []
file_rows (f ∷ fs) = row (codes "FILE") (f ∷ fs) ∷ []

-- the row of the flag, if the long form is asked for, before or after those of the other words
abbrev flag_given : Bool → List Row
flag_given true = row (codes "long") (codes "true" ∷ []) ∷ []
flag_given false = []

abbrev left_out : Text → Row
left_out flag = record (row flag (codes "false" ∷ [])) { source = Some DefaultValue }

abbrev flag_left_out : Bool → List Row
flag_left_out true = left_out (codes "json") ∷ []
flag_left_out false = left_out (codes "long") ∷ left_out (codes "json") ∷ []

-- the walk takes a word without a fault
abbrev Takes : Walk → Text → Walk → Type 0
Takes w word after = (walked showing.rules [] w word ≡ after) × (turn_fault showing [] w word ≡ [])

-- where no option waits, a plain word is a value, and no fault
module _ (position : ℕ) (h : Held) where
  abbrev stands : Waiting → Walk
  stands waiting = record { held = h; waiting = waiting; position = position; is_trailing = false; stopped = None }

  abbrev IsValue : Waiting → Text → Type 0
  IsValue waiting word =
      (walked showing.rules [] (stands waiting) word ≡ after_step showing.rules word (stands waiting) h value) × (turn_fault showing [] (stands waiting) word ≡ or_else [] (step_fault showing position h value))

  idle_value : (word : Text) → IsPlain word → IsValue idle word
  unfolding walked
  idle_value [] none = absurd none
  idle_value (x ∷ xs) other = (rw other (rw other refl), rw other (rw other refl))

  positional_value : (word : Text) → IsPlain word → IsValue positional word
  unfolding walked
  positional_value [] none = absurd none
  positional_value (x ∷ xs) other = (rw other (rw other refl), rw other (rw other refl))

-- the walk after a word that waits for the next one
abbrev waits : Waiting → ℕ → List Row → Text → Text → Walk
waits waiting position rows id word = stands position (record { rows = rows; pending = Some (id, word ∷ []); skip = 0 }) waiting

-- the whole command, from the end of its walk
of_walk : Walk → Kinds → Kinds
of_walk end faults =
    or_else faults (or_else [] (or_else (settle_fault showing.rules showing.args_override_self end.held) (or_else (defaults_fault (settled showing.rules end.held).rows showing.rules) (check_fault showing (finished showing.rules end.held) false))))

-- from here these words end the command without a fault, and with these rows
abbrev Ends : Walk → List Text → List Row → Type 0
Ends w words rows =
    (of_walk (fold (walked showing.rules []) w words) (walk_fault showing [] w words) ≡ []) × (finished showing.rules (fold (walked showing.rules []) w words).held ≡ rows)

then : (w after : Walk) (word : Text) (words : List Text) (rows : List Row) → Takes w word after → Ends after words rows → Ends w (word ∷ words) rows
unfolding walk_fault
then w after word words rows one ends = (
  ap₂ (λ (k : Kinds) (v : Walk). of_walk (fold (walked showing.rules []) v words) (or_else k (walk_fault showing [] v words))) one.1 one.0 ∙ ends.0,
  ap (λ (v : Walk). finished showing.rules (fold (walked showing.rules []) v words).held) one.0 ∙ ends.1,
)

-- the walk after the flag
abbrev begun : Bool → Walk
begun long = walk_from (record { rows = flag_given long; pending = None; skip = 0 })

takes_flag : Takes start (codes "--long") (begun true)
unfolding clap_on_literals
takes_flag = (refl, refl)

begins : (long : Bool) (rest : List Text) (rows : List Row) → Ends (begun long) rest rows → Ends start (flag_words long ++ rest) rows
begins true rest rows ends = then start (begun true) (codes "--long") rest rows takes_flag ends
begins false rest rows ends = ends

module _ (space number : Text) where
  -- the walk after SPACE, and after WORD
  abbrev after_space : Bool → Walk
  after_space long = waits idle 2 (flag_given long) (codes "SPACE") space

  abbrev after_number : Bool → Walk
  after_number long = waits idle 3 (flag_given long ++ row (codes "SPACE") (space ∷ []) ∷ []) (codes "WORD") number

  abbrev base : Bool → List Row
  base long = flag_given long ++ row (codes "SPACE") (space ∷ []) ∷ row (codes "WORD") (number ∷ []) ∷ []

  -- the last file waits for the next word, and those before it are kept
  abbrev with_files : Bool → List Text → Text → Walk
  with_files long prefix last = waits positional 3 (base long ++ file_rows prefix) (codes "FILE") last

  abbrev all_rows : Bool → List Text → List Row
  all_rows long files = base long ++ file_rows files ++ flag_left_out long

  -- such words are taken without a fault
  space_taken : (long : Bool) → IsPlain space → Takes (begun long) space (after_space long)
  unfolding clap_on_literals
  space_taken long plain = idle_value _ _ space plain

  number_taken : (long : Bool) → IsPlain number → Takes (after_space long) number (after_number long)
  unfolding clap_on_literals
  number_taken true plain = idle_value _ _ number plain
  number_taken false plain = idle_value _ _ number plain

  file_taken : (long : Bool) (file : Text) → IsPlain file → Takes (after_number long) file (with_files long [] file)
  unfolding clap_on_literals
  file_taken true file plain = idle_value _ _ file plain
  file_taken false file plain = idle_value _ _ file plain

  next_taken : (long : Bool) (prefix : List Text) (last word : Text) → IsPlain word → Takes (with_files long prefix last) word (with_files long (prefix ++ last ∷ []) word)
  unfolding clap_on_literals
  next_taken true [] last word plain = positional_value _ _ word plain
  next_taken false (f ∷ fs) last word plain = positional_value _ _ word plain
  next_taken long prefix last word plain = positional_value _ _ word plain

  at_end : (long : Bool) (prefix : List Text) (last : Text) → Ends (with_files long prefix last) [] (all_rows long (prefix ++ last ∷ []))
  unfolding clap_on_literals of_walk
  at_end true [] last = (refl, refl)
  at_end false (f ∷ fs) last = (refl, refl)
  at_end long prefix last = (refl, refl)

  over_files : (long : Bool) (prefix : List Text) (last : Text) (files : List Text) → ArePlain files → Ends (with_files long prefix last) files (all_rows long (prefix ++ last ∷ files))
  over_files long prefix last [] plain = at_end long prefix last
  over_files long prefix last (file ∷ files) plain =
      then _ _ file files _ (next_taken long prefix last file plain.0)
      (subst (λ (all : List Text). Ends (with_files long (prefix ++ last ∷ []) file) files (all_rows long all)) (append_assoc prefix (last ∷ []) (file ∷ files)) (over_files long (prefix ++ last ∷ []) file files plain.1))

  explained : (long : Bool) (file : Text) (files : List Text) → IsPlain space → IsPlain number → ArePlain (file ∷ files) → Ends start (flag_words long ++ space ∷ number ∷ file ∷ files) (all_rows long (file ∷ files))
  explained long file files space_plain number_plain plain =
      begins long _ _
      (then _ _ space (number ∷ file ∷ files) _ (space_taken long space_plain)
      (then _ _ number (file ∷ files) _ (number_taken long number_plain)
      (then _ _ file files _ (file_taken long file plain.0) (over_files long [] file files plain.1))))

-- ---- the program

of_top : Walk → Kinds → Kinds
of_top end faults =
    or_else faults (or_else (entered_fault app end.stopped) (or_else (settle_fault app.top.rules app.top.args_override_self end.held) (or_else (defaults_fault (settled app.top.rules end.held).rows app.top.rules) (check_fault app.top (finished app.top.rules end.held) (is_some (entered app end.stopped))))))

faults_are_below : (rest : List Text) → fault_of gpurace (explain ∷ rest) ≡ or_else (level_fault showing [] nothing_held rest false []) []
unfolding of_top walk_fault clap_on_literals
faults_are_below rest =
    ap₂ of_top (stops rest) (ap₂ (λ (k : Kinds) (w : Walk). or_else k (walk_fault app.top (names_of app) w rest)) enters.1 enters.0 ∙ stopped_fault app.top (names_of app) start (explain, []) rest)

met_is : (rest : List Text) → subcommand_of gpurace (explain ∷ rest) ≡ Some (explain, rows_after showing.rules [] rest)
unfolding clap_on_literals
met_is rest = ap (λ (w : Walk). entered app w.stopped) (stops rest)

-- what names a word is no option

number_is_plain : (text : Text) (n : ℕ) → IsNumber text n → IsPlain text
number_is_plain [] n is = absurd (omega (arith, is.digits.0))
number_is_plain (x ∷ xs) n is = ne_eqb x 45 (λ same. absurd (omega (arith, same, (digit_from_value x is.digits.1.0).0)))

words_are_plain : (space number : Text) (w : Word) → NamesWord space number w → IsPlain space × IsPlain number
words_are_plain space number (Global n) named = (subst IsPlain (sym named.0) refl, number_is_plain number n named.1)
words_are_plain space number (Local g n) named = (subst IsPlain (sym named.0.spelled) refl, number_is_plain number n named.1)

-- such words ask for what the command `explain` asks for with their values
plain_words_ask_by : (long : Bool) (space number file : Text) (files : List Text) → IsPlain space → IsPlain number → ArePlain (file ∷ files) → (a : Asked) → IsAskedBy explain (all_rows space number long (file ∷ files)) a → AsksTo a (explain ∷ flag_words long ++ space ∷ number ∷ file ∷ files)
unfolding faults command_of of_walk
plain_words_ask_by long space number file files space_plain number_plain plain a asks =
    let rest = flag_words long ++ space ∷ number ∷ file ∷ files in
    let below = explained space number long file files space_plain number_plain plain in
    let met = met_is rest ∙ ap (λ (rows : List Row). Some (explain, rows)) below.1 in
    record {
      taken = faults_are_below rest ∙ ap (λ (k : Kinds). or_else k []) below.0;
      asks = subst (λ (c : Option (Text × List Row)). IsAskedBy (name_met c) (values_met c) a) (sym met) asks;
    }

-- words that name a word of memory
pub plain_words_ask : PlainWordsAsk
plain_words_ask long space number file files w named plain =
    let texts = words_are_plain space number w named in
    plain_words_ask_by long space number file files texts.0 texts.1 plain _ (record { command = refl; values = asks long })
  where
    asks : (long : Bool) → IsInquiry (all_rows space number long (file ∷ files)) (about_word long w (file ∷ files))
    asks true = record { query = (refl, record { space = space; number = number; at_space = refl; at_number = refl; names = named }); places = refl; buffers = refl; as_json = refl; at_files = refl }
    asks false = record { query = ((refl, refl, refl), record { space = space; number = number; at_space = refl; at_number = refl; names = named }); places = refl; buffers = refl; as_json = refl; at_files = refl }

pub plain_words_misname : PlainWordsMisname
plain_words_misname space number file files none plain =
    plain_words_ask_by false space number file files plain.0 plain.1.0 plain.1.1 (refuse NoWordToExplain)
    (record { command = refl; values = ((false, (refl, refl, refl)), λ w named. grind (arith, none w)) })
