use Rattle.gr_model.proofs.Common.{◌≡◌, false, map}
use Rattle.gr_model.specs.declared.event.EventId.{EventId}
use Rattle.std.specs.Map.Iter.{deref_pair}
use Rattle.gr_shadow.specs.Lent.{lent_clocked}
use Rattle.gr_shadow.specs.Clashes.{clashes_with}
use Rattle.gr_explain.specs.Seen.{IsAmong}
use Rattle.gr_explain.proofs.seen.Seen.with_pairs.Given as goal

abbrev pub invariant-loop-item : goal.invariant-loop-item
invariant-loop-item g l = (e : EventId) → IsAmong (map deref_pair l.yielded) e → clashes_with e.at e.index l.self.class (lent_clocked l.access) ≡ false
