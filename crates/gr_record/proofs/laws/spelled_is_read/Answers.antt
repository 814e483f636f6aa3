use Rattle.gr_record.proofs.Spelled.{spelled_is_read, spelled_header_is_read}
use Rattle.gr_record.proofs.SpelledPrefixes.{spelled_prefix_is_read}
use Rattle.gr_record.proofs.laws.spelled_is_read.Goals as goal

pub returns : goal.returns
returns c = record { event = spelled_is_read; header = spelled_header_is_read; prefix = spelled_prefix_is_read }
