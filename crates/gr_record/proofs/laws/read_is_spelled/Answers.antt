use Rattle.gr_record.proofs.Found.{read_is_spelled, read_header_is_spelled}
use Rattle.gr_record.proofs.FoundPrefixes.{read_prefix_is_spelled}
use Rattle.gr_record.proofs.laws.read_is_spelled.Goals as goal

pub returns : goal.returns
returns c = record { event = read_is_spelled; header = read_header_is_spelled; prefix = read_prefix_is_spelled }
