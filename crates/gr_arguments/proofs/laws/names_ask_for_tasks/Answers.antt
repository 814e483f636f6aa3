use Rattle.gr_arguments.proofs.Meeting.{names_ask, no_word_asks}
use Rattle.gr_arguments.proofs.laws.names_ask_for_tasks.Goals as goal

pub returns : goal.returns
returns c = record { named = names_ask; none = no_word_asks }
