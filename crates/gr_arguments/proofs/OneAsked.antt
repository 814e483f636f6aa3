-- Words ask for at most one thing.
use Rattle.gr_model.proofs.Common.{arith, ◌≡◌, ◌∙◌, List, sym}
use Rattle.clap.specs.Walk.{Row}
use Rattle.gr_arguments.specs.declared.request.Misuse.{Misuse}
use Rattle.gr_arguments.specs.declared.request.Misuse.TheVariants.{NoCount, NoEvent, NoSetUp, NoWordOfHistory, NoWordToExplain, SidesAlone}
use Rattle.gr_arguments.specs.declared.request.Query.{Query}
use Rattle.gr_arguments.specs.declared.request.Query.TheVariants.{Explain, History, Races, Run, WhyHeld}
use Rattle.gr_arguments.specs.Asked.{Asked, Inquiry, IsAskedIn, IsInquiry, IsMisuse, IsQuery, ask, misuse_name, name_asked, query_name, refuse}
use Rattle.gr_arguments.specs.Commands.{command_of, values_met}
use Rattle.gr_arguments.specs.Plain.{WordsAskOnce}
use Rattle.gr_arguments.proofs.Asking.{one_set_up}

module _ (rows : List Row) where
  one_query : (q r : Query) → query_name q ≡ query_name r → IsQuery rows q → IsQuery rows r → q ≡ r
  one_query q r same h k = grind (arith, one_set_up rows)

  -- values that ask a query do not misuse its command
  query_or_misuse : (q : Query) (m : Misuse) → query_name q ≡ misuse_name m → IsQuery rows q → IsMisuse rows m → ⊥
  query_or_misuse (Explain long w) SidesAlone same h k = k long h.0
  query_or_misuse (Explain long w) NoWordToExplain same h k = k.1 w h.1
  query_or_misuse (Races most causes) NoCount same h k = k most h.0
  query_or_misuse (History w) NoWordOfHistory same h k = k w h
  query_or_misuse (Run c) NoSetUp same h k = k c h
  query_or_misuse (WhyHeld e) NoEvent same h k = k e h
  query_or_misuse q m same h k = grind arith

  one_inquiry : (a b : Inquiry) → query_name a.query ≡ query_name b.query → IsInquiry rows a → IsInquiry rows b → a ≡ b
  one_inquiry a b same h k = grind (arith, one_query a.query b.query same h.query k.query)

  one_asked : (a b : Asked) → name_asked a ≡ name_asked b → IsAskedIn rows a → IsAskedIn rows b → a ≡ b
  one_asked (ask a) (refuse n) same h k = absurd (query_or_misuse a.query n same h.query k)
  one_asked (refuse m) (ask b) same h k = absurd (query_or_misuse b.query m (sym same) k.query h)
  one_asked a b same h k = grind (arith, one_inquiry)

pub words_ask_once : WordsAskOnce
words_ask_once words a b h k = one_asked (values_met (command_of words)) a b (sym h.asks.command ∙ k.asks.command) h.asks.values k.asks.values
