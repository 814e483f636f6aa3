use Rattle.gr_model.proofs.Common.{List, subst, sym}
use Rattle.gr_model.specs.declared.event.EventId.{EventId}
use Rattle.gr_model.specs.Prelude.{IsLawful}
use Rattle.gr_steps.proofs.Handling.{lawful_handle}
use Rattle.gr_steps.proofs.Meeting.{lawful_meet}
use Rattle.gr_steps.proofs.StepGrowth.{lawful_grows}
use Rattle.gr_steps.proofs.laws.steps_stay_lawful.Goals as goal

pub returns : goal.returns
returns c = record {
  handle = λ s old new e lawful h. subst (λ (l : List EventId). IsLawful s l) (sym h.order) (lawful_handle s old lawful e h.ready);
  meet = λ s old new g k prefixes lawful h. subst (λ (l : List EventId). IsLawful s l) (sym h.order) (lawful_meet s prefixes old lawful g k h.mark h.meeting h.barriers h.are);
  growth = λ s t order grows lawful. lawful_grows s t grows order lawful;
}
