use Rattle.gr_model.proofs.Common.{◌∙◌, inl, inr, subst, sym, true≢false}
use Rattle.gr_order.specs.declared.steps.Ready.TheVariants.{Item}
use Rattle.gr_order.specs.Answers.{CanMake}
use Rattle.gr_agenda.proofs.KeptLemmas.{kept_looked}
use Rattle.gr_agenda.proofs.ListLemmas.{one_last}
use Rattle.gr_agenda.proofs.agenda.Agenda.try_last.Goals as goal

pub invariant_of-self-in-Ok : goal.invariant_of-self-in-Ok
invariant_of-self-in-Ok g c =
    let q = c.self.inside.order in
    let t = c.self.inside.worklist in
    let step = c.in_ok-step.step in (
      kept_looked q t c.drop_last-in-Ok.new.self c.self.inside.waiting.items c.note.new.lists.items step c.self.invariant.0
          (λ can. true≢false (sym (c.can_make.ensures.1 (subst (λ p. CanMake p step) c.self.view_is can)) ∙ c.if-can_make.false))
          (λ r has apart. c.drop_last-in-Ok.ensures r has (λ last. apart (one_last t r step last c.in_ok-step.ensures)))
          c.note.ensures.keeps
          (λ d n held same. inr (c.in-Ok.ensures.noted d n held same)),
      c.mark_undiverged.ensures c.self.invariant.1,
    )

pub invariant_of-self : goal.invariant_of-self
invariant_of-self g c =
    let q = c.self.inside.order in
    let t = c.self.inside.worklist in
    let step = c.in_ok-step.step in (
      kept_looked q t c.drop_last.new.self c.self.inside.waiting.items c.self.inside.waiting.items step c.self.invariant.0
          (c.is_idle.ensures.none c.if-is_idle.true)
          (λ r has apart. c.drop_last.ensures r has (λ last. apart (one_last t r step last c.in_ok-step.ensures)))
          (λ n i waits. waits)
          (λ d n held same. absurd (c.is_idle.ensures.free c.if-is_idle.true d n same held)),
      c.self.invariant.1,
    )

pub invariant_of-self-in-Err : goal.invariant_of-self-in-Err
invariant_of-self-in-Err g c = (record { ready = λ r can. c.note_shortage.ensures r; waits = λ d n held. inl (c.note_shortage.ensures (Item d.at)) }, c.mark_undiverged.ensures c.self.invariant.1)
