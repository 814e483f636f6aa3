use Rattle.gr_model.proofs.Common.{◌<◌, ◌≤◌, ℕ, rules, ◌⊎◌, inl, inr, ap, arith, length, subst, sym, true≢false, ⊎_elim, IfErr-weaker, on_ok_weaker}
use Rattle.gr_world.specs.Types.{Event, Send, StepError, BadStep, NotOpen, Full, Empty, Busy, NotReady, Memory}
use Rattle.gr_world.specs.Putting.{IsPutFault, MayPut, Queues}
use Rattle.gr_world.specs.Steps.{IsAllowed, IsBad, IsBadEvent, IsStepRefusal}
use Rattle.gr_world.specs.Worlds.{World}
use Rattle.gr_world.proofs.world.World.send.Goals.{then-group-groups-via-then-group-groups, then-group-groups-via-else-group-groups+then-is_bad}
use Rattle.gr_world.proofs.world.World.send.Goals as goal

good_send : (w : World) (g : ℕ) (x : Event) → g < length w.sent.sizes → ¬ IsBadEvent w g x → ¬ IsBad w (Send g x)
good_send w g x there fine bad = ⊎_elim (λ (le : length w.sent.sizes ≤ g). omega (arith, le, there)) fine bad

module _ (w : World) (g : ℕ) (x : Event) (good : ¬ IsBad w (Send g x)) where
  may_send : MayPut w g → IsAllowed w (Send g x)
  may_send may = record { good = good; unclosed = may.unclosed; room = λ full. full may.room; some = λ bad. bad; free = λ bad. bad; ready = λ bad. bad }

  refused : (e : StepError) → IsPutFault w g e → IsStepRefusal w (Send g x) e
  refused BadStep fault = absurd fault
  refused NotOpen fault = (good, fault)
  refused Full fault = (good, fault.0, fault.1)
  refused Empty fault = absurd fault
  refused Busy fault = absurd fault
  refused NotReady fault = absurd fault
  refused Memory may = may_send may

pub returns-clause-step : goal.returns-clause-step
returns-clause-step g c =
    let good = good_send c.args.self.now c.args.group c.args.event (search rules) (λ ill. true≢false (sym (c.if-is_bad.ensures.1 ill))) in
    on_ok_weaker c.put.result (λ (q : Queues c.args.self.now c.args.group c.args.event c.put.new.self). record { allowed = may_send c.args.self.now c.args.group c.args.event good q.may; leads = q.sends }) c.put.ensures.ok

pub returns-clause-err : goal.returns-clause-err
returns-clause-err g c =
    let good = good_send c.args.self.now c.args.group c.args.event (search rules) (λ ill. true≢false (sym (c.if-is_bad.ensures.1 ill))) in
    IfErr-weaker c.put.result (IsPutFault c.args.self.now c.args.group) (IsStepRefusal c.args.self.now (Send c.args.group c.args.event)) (refused c.args.self.now c.args.group c.args.event good) c.put.ensures.err

pub returns-then-group-groups-clause-err : goal.returns-then-group-groups-clause-err
returns-then-group-groups-clause-err g c = elim c.then-group-groups.branch as (λ _. (length c.args.self.now.sent.sizes ≤ c.args.group) ⊎ IsBadEvent c.args.self.now c.args.group c.args.event) [
  | then-group-groups-via-then-group-groups w ↦ inl (subst (λ (v : World). length v.sent.sizes ≤ c.args.group) c.self.view_is (omega (arith, w.if-group-groups.true, c.groups.ensures.count, ap length c.shape.ensures.sizes)))
  | then-group-groups-via-else-group-groups+then-is_bad w ↦ inr (w.is_bad.ensures.0 w.if-is_bad.true)
]
