use Rattle.gr_arguments.proofs.Plain.{plain_words_ask, plain_words_misname}
use Rattle.gr_arguments.proofs.laws.plain_words_ask_for_a_word.Goals as goal

pub returns : goal.returns
returns c = record { asks = plain_words_ask; misnamed = plain_words_misname }
