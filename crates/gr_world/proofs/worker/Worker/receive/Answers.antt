use Rattle.gr_model.proofs.Common.{◌≡◌, ◌∙◌, ◌∷◌, [], ◌++◌, ap, refl, sym, map-append}
use Rattle.gr_shadow.specs.Clashes.{clocked}
use Rattle.gr_shadow.specs.StandsFor.{StandsFor}
use Rattle.gr_world.specs.Queues.{Work, all_clocked, work_of}
use Rattle.gr_world.proofs.worker.Worker.receive.Goals as goal

pub invariant_of-self-2 : goal.invariant_of-self-2
invariant_of-self-2 g c =
    let received = c.self.inside.received in
    let popped = c.unwrap.result in
    let front = c.in-Some.ensures in
    let left = rw c.unwrap.ensures at c.pop.ensures in
    let same : c.in-Some.access.now ≡ popped = let both : c.in-Some.access.now ∷ front.0 ≡ popped ∷ c.pop.new.self.items = sym front.1 ∙ left.0 in cc in
    let stands : StandsFor (all_clocked received ++ clocked c.in-Some.access.now ∷ []) c.apply.new.self = c.in_ok-apply.ensures.stands (all_clocked received) c.self.invariant in
    rw (c.push.ensures, map-append, ← same) stands

pub returns-clause-ok : goal.returns-clause-ok
returns-clause-ok g c =
    let left = rw c.unwrap.ensures at c.pop.ensures in
    let old : Work = work_of c.self.inside.queue c.self.inside.received in
    let new : Work = work_of c.pop.new.self c.push.new.self in
    let received : new.received ≡ old.received ++ clocked c.unwrap.result ∷ [] = rw (c.push.ensures, map-append) refl in
    rw (← c.self.view_is) (_, _, ap all_clocked left.0, λ k. record { queue = record { places = (left.1 k).places; items = all_clocked c.pop.new.self.items }; received = received k })
