use Rattle.gr_model.proofs.Common.{◌≡◌, ◌∙◌, None, Some, inr, subst, sym}
use Rattle.gr_model.specs.declared.event.Name.{Name}
use Rattle.gr_agenda.specs.Lists.{IsWaiting}
use Rattle.gr_agenda.proofs.KeptLemmas.{kept_handled}
use Rattle.gr_agenda.proofs.agenda.Agenda.handle_event.Goals as goal

pub invariant_of-self : goal.invariant_of-self
invariant_of-self g c =
    let q = c.self.inside.order in
    let lists = c.self.inside.waiting.items in (
      kept_handled q c.sequence_holds.ensures c.self.inside.worklist c.put_group.new.worklist lists lists c.self.invariant.0
          (λ r has. c.put_group.ensures.keeps r (c.put.ensures.keeps r has))
          c.handle_event.new.self c.args.event c.handle_event.ensures.step
          (c.put_group.ensures.keeps _ c.put.ensures.there)
          c.put_group.ensures.there
          (λ n i waits. inr waits)
          (λ n at place. absurd (let clash : None ≡ Some n = sym c.in-None.is ∙ c.name_of-released.ensures n at place in cc)),
      rw c.handle_event.ensures.step.taken c.self.invariant.1,
    )

pub invariant_of-self-in-Some : goal.invariant_of-self-in-Some
invariant_of-self-in-Some g c =
    let q = c.self.inside.order in (
      kept_handled q c.sequence_holds.ensures c.self.inside.worklist c.wake.new.worklist c.self.inside.waiting.items c.wake.new.lists.items c.self.invariant.0
          (λ r has. c.wake.ensures.keeps r (c.put_group.ensures.keeps r (c.put.ensures.keeps r has)))
          c.handle_event.new.self c.args.event c.handle_event.ensures.step
          (c.wake.ensures.keeps _ (c.put_group.ensures.keeps _ c.put.ensures.there))
          (λ can lt. c.wake.ensures.keeps _ (c.put_group.ensures.there can lt))
          c.wake.ensures.others
          (λ n at place i waits.
          let same : c.in-Some.name ≡ n = let both : Some c.in-Some.name ≡ Some n = sym c.in-Some.is ∙ c.name_of-released.ensures n at place in cc in
          c.wake.ensures.woken i (subst (λ (m : Name). IsWaiting c.self.inside.waiting.items m i) (sym same) waits)),
      rw c.handle_event.ensures.step.taken c.self.invariant.1,
    )
