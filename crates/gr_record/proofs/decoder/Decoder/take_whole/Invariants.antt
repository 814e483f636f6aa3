use Rattle.gr_model.proofs.Common.{◌≡◌, ◌+◌, ◌≤◌, [], length, vec_len, vec_capacity}
use Rattle.gr_record.specs.Prelude.{Inside, units_in, Continues}
use Rattle.gr_record.proofs.decoder.Decoder.take_whole.Given as goal

abbrev pub invariant-loop-self : goal.invariant-loop-self
invariant-loop-self g l = (l.self.held ≡ []) × (l.self.stop ≡ Inside → vec_len l.parts + units_in l.self.header (length l.rest) ≤ vec_capacity l.parts) × Continues l.fn.self l.piece l.fn.parts.items l.self l.rest l.parts.items

abbrev pub decreases-loop-self : goal.decreases-loop-self
decreases-loop-self g l = length l.rest
