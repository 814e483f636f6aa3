-- Which words ask for what, if no word is an option.
use Rattle.std.specs.Prelude.{◌≡◌, ◌==◌, Bool, false, true, List, [], ◌∷◌, ◌++◌, None, ⊤, codes}
use Rattle.clap.specs.Walk.{Text}
use Rattle.gr_model.specs.declared.event.Word.{Word}
use Rattle.gr_arguments.specs.declared.request.Misuse.TheVariants.{NoWordToExplain}
use Rattle.gr_arguments.specs.declared.request.Query.TheVariants.{Explain}
use Rattle.gr_arguments.specs.declared.request.Task.{Task}
use Rattle.gr_arguments.specs.declared.request.Task.TheVariants.{Dump, Replay}
use Rattle.gr_arguments.specs.Asked.{Asked, AsksTo, Inquiry, ask, perform, refuse}
use Rattle.gr_arguments.specs.Commands.{name_of}
use Rattle.gr_arguments.specs.Naming.{Names}

-- words ask for at most one thing
abbrev pub WordsAskOnce : Type 0
WordsAskOnce = (words : List Text) (a b : Asked) → AsksTo a words → AsksTo b words → a ≡ b

-- the words of a task: the name of its command, and its flag if it has one
abbrev pub words_of : Task → List Text
words_of (Replay true) = codes "replay" ∷ codes "--json" ∷ []
words_of (Dump true) = codes "dump" ∷ codes "--partial" ∷ []
words_of t = name_of t ∷ []

-- these ask for the task
abbrev pub NamesAsk : Type 0
NamesAsk = (t : Task) → AsksTo (perform t) (words_of t)

-- and no word for a report
abbrev pub NoWordAsks : Type 0
NoWordAsks = AsksTo (perform (Replay false)) []

-- the word is not empty, and does not begin with a hyphen
abbrev pub IsPlain : Text → Type 0
IsPlain [] = ⊥
IsPlain (x ∷ xs) = (x == 45) ≡ false

abbrev pub ArePlain : List Text → Type 0
ArePlain [] = ⊤
ArePlain (word ∷ words) = IsPlain word × ArePlain words

-- a query about a word, without side files, as text
abbrev pub about_word : Bool → Word → List Text → Inquiry
about_word long w files = record { query = Explain long w; places = None; buffers = None; json = false; files = files }

-- the flag of the long form, if it is asked for
abbrev pub flag_words : Bool → List Text
flag_words true = codes "--long" ∷ []
flag_words false = []

-- the words `explain SPACE WORD FILE..` ask for the word that SPACE and WORD name; with the flag before SPACE, in the long form
abbrev pub PlainWordsAsk : Type 0
PlainWordsAsk = (long : Bool) (space number file : Text) (files : List Text) (w : Word) → Names space number w → ArePlain (file ∷ files) → AsksTo (ask (about_word long w (file ∷ files))) (codes "explain" ∷ flag_words long ++ space ∷ number ∷ file ∷ files)

-- if SPACE and WORD name no word, they are refused
abbrev pub PlainWordsMisname : Type 0
PlainWordsMisname = (space number file : Text) (files : List Text) → ((w : Word) → ¬ Names space number w) → ArePlain (space ∷ number ∷ file ∷ files) → AsksTo (refuse NoWordToExplain) (codes "explain" ∷ space ∷ number ∷ file ∷ files)
