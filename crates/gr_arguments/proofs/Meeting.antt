-- The command that a parse finds.
use Rattle.gr_model.proofs.Common.{◌≡◌, ◌∙◌, true, List, [], Option, refl, ap, subst}
use Rattle.clap.specs.declared.parser.matches.ArgMatches.{ArgMatches}
use Rattle.clap.specs.Walk.{Row}
use Rattle.clap.specs.Words.{App, HasMatchesOf, Text, fault_of, is_simple, is_simple_and_free, subcommand_of, subcommand_rows_of}
use Rattle.clap.proofs.OnLiterals.{clap_on_literals}
use Rattle.gr_arguments.specs.declared.request.Task.TheVariants.{Replay, Pack, Dump, Upgrade}
use Rattle.gr_arguments.specs.Asked.{Asked, AsksTo, IsAskedBy}
use Rattle.gr_arguments.specs.Commands.{command_of, faults, gpurace, name_met, values_met}
use Rattle.gr_arguments.specs.Plain.{NamesAsk, NoWordAsks}

gpurace_is_simple : (is_simple gpurace ≡ true) × (is_simple_and_free gpurace ≡ true)
unfolding clap_on_literals
gpurace_is_simple = (refl, refl)

-- ---- the names of tasks

pub names_ask : NamesAsk
unfolding clap_on_literals faults command_of
names_ask Pack = record { taken = refl; asks = record { command = refl; values = tt } }
names_ask Upgrade = record { taken = refl; asks = record { command = refl; values = tt } }
names_ask (Dump true) = record { taken = refl; asks = record { command = refl; values = refl } }
names_ask (Replay true) = record { taken = refl; asks = record { command = refl; values = refl } }
names_ask t = record { taken = refl; asks = record { command = refl; values = refl } }

pub no_word_asks : NoWordAsks
unfolding clap_on_literals faults command_of
no_word_asks = record { taken = refl; asks = record { command = refl; values = refl } }

-- ---- a parse

module _ (command : App) (is : command ≡ gpurace) where
  -- the command that was built is simple, and has the program's faults
  pub is_free : is_simple_and_free command ≡ true
  is_free = ap is_simple_and_free is ∙ gpurace_is_simple.1

  pub faults_are : (words : List Text) → fault_of command words ≡ faults words
  unfolding faults
  faults_are words = ap (λ (a : App). fault_of a words) is

  -- what the parse finds is what the words name, so it asks for the same
  module _ (words : List Text) (m : ArgMatches) (matches : HasMatchesOf command words m) where
    meets : subcommand_rows_of m ≡ command_of words
    unfolding command_of
    meets = (matches (ap is_simple is ∙ gpurace_is_simple.0)).1 ∙ ap (λ (a : App). subcommand_of a words) is

    pub asks_to : (a : Asked) → faults words ≡ [] → IsAskedBy (name_met (subcommand_rows_of m)) (values_met (subcommand_rows_of m)) a → AsksTo a words
    asks_to a taken asks = record { taken = taken; asks = subst (λ (c : Option (Text × List Row)). IsAskedBy (name_met c) (values_met c) a) meets asks }
