use Rattle.gr_model.proofs.Common.{refl}
use Rattle.gr_model.specs.declared.event.ItemId.{ItemId}
use Rattle.gr_order.proofs.ForgetLemmas.{barrier_remembered}
use Rattle.gr_sequencer.proofs.known.flags_of.Goals as goal

pub barrier-requires : goal.barrier-requires
barrier-requires g c =
    let item : ItemId = record { group = c.args.group; item = 0 } in
    barrier_remembered c.lanes.result.now c.args.order.now.handled c.lanes.ensures.forgets item c.args.instance (λ p at there.
    c.requires.fresh (record { at = item; index = p }, record { group = refl; item = c.requires.convergent.1.0; place = rw (← c.lanes.ensures.taken) at }, there))
