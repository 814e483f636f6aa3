-- An access whose clock is lent.
-- Source: docs/MODEL.md, "Hits".
use Rattle.gr_clocks.specs.ClockedAccess.{ClockedAccess}
use Rattle.gr_shadow.specs.declared.lent.LentAccess.{LentAccess}

-- the access with what its clock counts
abbrev pub lent_clocked : {Z : Type 0} → LentAccess Z → ClockedAccess
lent_clocked x = record { word = x.word; item = x.item; index = x.index; class = x.class; clock = x.clock.now.counts }
