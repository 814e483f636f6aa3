-- What happens before an event is seen by an event that makes a base pair with it.
use Rattle.gr_model.proofs.Common.{sym, subst, inl, inr, arith}
use Rattle.gr_closure.specs.Types.{EventId, Space}
use Rattle.gr_model.specs.Prelude.{Sees, BasePair, HappensBefore, by_pair, through, Streams}

module _ (s : Streams) (m : Space) where
  -- the last base pair on the way from d to e starts at an event that sees d
  pub last_pair : (d e : EventId) → HappensBefore s m d e → (x : EventId) × Sees s m x d × BasePair s m x e
  last_pair d e h = grind (arith, by_pair, through)

  -- what is seen by an event happens before those with which it makes a base pair
  pub seen_before : (d x e : EventId) → Sees s m x d → BasePair s m x e → HappensBefore s m d e
  seen_before d x e (inl same) pair = by_pair (subst (λ y. BasePair s m y e) (sym same) pair)
  seen_before d x e (inr before) pair = through before pair
