use Rattle.gr_model.proofs.Common.{◌≡◌, ◌∙◌, ◌<◌, ℕ, List, ap, subst, length, get_or, set, arith, rules, set-get_or, map-set_same}
use Rattle.gr_route.specs.IntakeSeats.{IsDelivery, Taker}
use Rattle.gr_sequencer_thread.specs.Ends.{feed_line}
use Rattle.gr_sequencer_thread.specs.Feeds.{Feed, works_of}
use Rattle.gr_sequencer_thread.proofs.TakeLemmas.{group_there, popped_feed}
use Rattle.gr_sequencer_thread.proofs.feed.Feed.pop.Goals as goal

pub note-self-inside-requires : goal.note-self-inside-requires
note-self-inside-requires g c =
    let is = c.self.invariant in
    let some : 0 < length c.in-Some.events = omega (arith, c.len-count.ensures.some, c.len-count.ensures.count) in
    let there : c.args.queue < c.self.inside.config.queues = omega (arith, c.requires, ap (λ (f : Feed g.row.A.Denot). length f.takers) c.self.view_is, is.queues) in
    let within = group_there c.self.inside.config c.self.inside.shape c.self.inside.inlets.items is.seated _ _ c.index_mut.ensures.value there is.queues _ _ some (subst IsDelivery c.in-Some.ensures.some c.in-Some.ensures.delivery) in
    omega (arith, within, is.backlogs)

pub invariant_of-self-2 : goal.invariant_of-self-2
invariant_of-self-2 g c =
    let there : c.args.queue < length c.self.inside.inlets.items = omega (arith, c.requires, ap (λ (f : Feed g.row.A.Denot). length f.takers) c.self.view_is) in
    let some : 0 < length c.in-Some.events = omega (arith, c.len-count.ensures.some, c.len-count.ensures.count) in
    popped_feed _ c.self.invariant _ _ _ _ _ _ _ c.index_mut.ensures.value there some c.in-Some.ensures.some c.in-Some.ensures.delivery c.note-self-inside.ensures.count c.note-self-inside.ensures.noted

pub returns : goal.returns
returns g c =
    let t = c.index_mut.result.now in
    let queue : c.pop.new.self.queue ≡ t.queue = ap (λ (u : Taker). u.queue) (c.in-Some.ensures.some) in
    let intakes = map-set_same (λ (u : Taker). u.queue) c.self.inside.inlets.items _ c.pop.new.self t (queue ∙ ap (λ (u : Taker). u.queue) c.index_mut.ensures.value) in
    (λ i. record { config = c.self.inside.config; sizes = c.self.inside.shape; intakes = intakes i; works = works_of c.self.inside.outlets.items })
    ∙ ap (λ (f : Feed g.row.A.Denot). feed_line f) c.self.view_is

-- if there is no batch, nothing changes: what is put in the place of an element is like it

put_back : {X : Type 0} (xs : List X) (p : ℕ) (x y : X) → y ≡ x → x ≡ get_or xs p x → set xs p y ≡ xs
put_back xs p x y same reads = ap (set xs p) (same ∙ reads) ∙ set-get_or xs p x

pub invariant_of-self : goal.invariant_of-self
invariant_of-self g c = rw (put_back c.self.inside.inlets.items c.args.queue c.index_mut.result.now c.pop.new.self (search rules) c.index_mut.ensures.value) c.self.invariant

pub returns-in_default : goal.returns-in_default
returns-in_default g c =
    rw (put_back c.self.inside.inlets.items c.args.queue c.index_mut.result.now c.pop.new.self (search rules) c.index_mut.ensures.value) (ap (λ (f : Feed g.row.A.Denot). feed_line f) c.self.view_is)
