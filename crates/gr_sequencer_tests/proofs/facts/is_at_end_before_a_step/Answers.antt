use Rattle.gr_model.proofs.Common.{subst}
use Rattle.gr_order.specs.declared.steps.Ready.TheVariants.{Item}
use Rattle.gr_order.specs.Answers.{CanMake}
use Rattle.gr_order.specs.Sequences.{Sequence}
use Rattle.gr_sequencer_tests.proofs.facts.is_at_end_before_a_step.Goals as goal

pub prove-unreachable-requires : goal.prove-unreachable-requires
prove-unreachable-requires g c =
    let q : Sequence = c.args.order.now in
    let can : CanMake q (Item c.in-Some-Item.field-0-0) = subst (CanMake q) c.in-Some-Item.field-0-is c.in-Some-Item.ensures.ready in
    (c.is_at_end.ensures.done c.if-prove.true).rest.handles c.in-Some-Item.field-0-0 can
