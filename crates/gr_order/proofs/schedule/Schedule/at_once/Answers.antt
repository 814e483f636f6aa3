use Rattle.gr_model.proofs.Common.{◌∙◌, ap, arith, length, subst, sym}
use Rattle.gr_lanes.specs.Takes.{with_record}
use Rattle.gr_steps.specs.Steps.{IsReady}
use Rattle.gr_order.proofs.AtOnceLemmas.{count_is, goes_at_once, next_is, not_at_once, ready_at_once}
use Rattle.gr_order.proofs.schedule.Schedule.at_once.Goals as goal

pub returns-in-None-waiting-clause-goes : goal.returns-in-None-waiting-clause-goes
returns-in-None-waiting-clause-goes g c =
    let none = sym c.waiting.ensures ∙ c.in-None-waiting.is in
    let go = goes_at_once c.self.invariant.kept c.args.group c.args.event.now none c.in-None.ensures.fault (c.is_mere_access.ensures.0 c.if-not-is_mere_access.false) (λ none_taken. absurd (omega (arith, ap length none_taken, c.taken.ensures, c.if-taken-eq0.false))) in
    rw (← c.self.view_is) (go, next_is c.self.invariant.kept c.args.group c.args.event.now (count_is c.self.invariant.kept c.args.group c.args.event.now none) c.get.result c.get.ensures.count)

pub returns-in-None-waiting-clause-ready : goal.returns-in-None-waiting-clause-ready
returns-in-None-waiting-clause-ready g c =
    let none = sym c.waiting.ensures ∙ c.in-None-waiting.is in
    let go = goes_at_once c.self.invariant.kept c.args.group c.args.event.now none c.in-None.ensures.fault (c.is_mere_access.ensures.0 c.if-not-is_mere_access.false) (λ none_taken. absurd (omega (arith, ap length none_taken, c.taken.ensures, c.if-taken-eq0.false))) in
    let is = next_is c.self.invariant.kept c.args.group c.args.event.now (count_is c.self.invariant.kept c.args.group c.args.event.now none) c.get.result c.get.ensures.count in
    let ready = ready_at_once c.self.invariant.kept c.args.group c.args.event.now go in
    rw (← c.self.view_is) (subst (IsReady (with_record c.self.inside.lanes.streams c.args.group c.args.event.now) c.self.inside.handled) (sym is) ready)

pub returns-in-Some-waiting-clause-goes : goal.returns-in-Some-waiting-clause-goes
returns-in-Some-waiting-clause-goes g c =
    let not = not_at_once c.self.invariant.kept c.args.group c.args.event.now c.in-Some-waiting.field-0 (sym c.waiting.ensures ∙ c.in-Some-waiting.is) in
    rw (← c.self.view_is) not
