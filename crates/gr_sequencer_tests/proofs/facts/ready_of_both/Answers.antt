use Rattle.gr_model.proofs.Common.{◌≡◌, ◌∙◌, false, Option, None, Some, is_some, true≢false, subst, sym, MatchOption}
use Rattle.gr_agenda.specs.Types.{Ready, Item}
use Rattle.gr_order.specs.Answers.{CanMake}
use Rattle.gr_order.specs.Sequences.{IsDone, Sequence}
use Rattle.gr_sequencer_tests.proofs.facts.ready_of_both.Goals as goal

-- where no step is answered, none is left
done_of : (q : Sequence) (answer : Option Ready) → MatchOption answer (IsDone q) (λ r. CanMake q r) → is_some answer ≡ false → IsDone q
done_of q None done is = done
done_of q (Some r) can is = absurd (true≢false is)

pub prove-unreachable-requires : goal.prove-unreachable-requires
prove-unreachable-requires g c =
    let q : Sequence = c.args.agenda.now in
    let own : CanMake c.order.result.now (Item c.in-Some-Item.field-0-0) = subst (CanMake c.order.result.now) c.in-Some-Item.field-0-is c.in-Some-Item.ensures.ready in
    let can : CanMake q (Item c.in-Some-Item.field-0-0) = subst (λ (p : Sequence). CanMake p (Item c.in-Some-Item.field-0-0)) c.order.ensures.order own in
    (done_of q c.ready-in-Some-Item.result c.ready-in-Some-Item.ensures.ready (sym c.is_some.ensures ∙ c.if-prove.true)).rest.handles c.in-Some-Item.field-0-0 can
